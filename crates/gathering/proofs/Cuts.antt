-- The laws of a place between two lines, near the middle. Assumes nothing.
use mathlib.Core.Path.{◌≡◌, refl, sym, ap, ◌∙◌}
use mathlib.Core.Bool.{Bool, true, false, cond}
use Prim.Native.Nat.{ℕ, zero, suc, ◌+◌, ◌-◌, ◌/◌, ◌≤◌, ◌<◌}
use native.Mathlib.Nat.{not-suc-le-zero}
use native.Mathlib.Omega.{arith}
use mathlib.Core.List.{List, [], ◌∷◌, ◌++◌, append_assoc}
use lib.ListN.{length, take, drop, get_or, length-drop, take-append-drop}
use lib.Seq.{drop-cons, take-suc, take-add}
use lib.Dec.{eqb, ltb}
use borrow.Author.Tests.{eqb-true, ltb-true, ltb-false, lt-ltb, le-ltb}
use Rattle.text.specs.Feeds.{line_length, line_start}
use Rattle.text.proofs.LineFeeds.{line-some, line-fits, start_fits}
use Rattle.gathering.specs.Pieces.{pieces, middle_of}
use Rattle.gathering.proofs.Pieces.{pieces-append}

-- ---- bytes that end with a line feed

abbrev Ended : List ℕ → Type 0
Ended x = (A : List ℕ) × (x ≡ A ++ (10 ∷ []))

first_ended : (x : List ℕ) → line_length x < length x → Ended (take (line_length x) x)
unfolding line_length
first_ended [] h = absurd (not-suc-le-zero h)
first_ended (b ∷ x) h = go (eqb b 10) refl h (first_ended x)
  where
    go : (t : Bool) → eqb b 10 ≡ t → cond t 1 (suc (line_length x)) < suc (length x) → (line_length x < length x → Ended (take (line_length x) x))
        → Ended (take (cond t 1 (suc (line_length x))) (b ∷ x))
    go true e k ih = ([], ap (λ (c : ℕ). c ∷ []) (eqb-true b 10 e))
    go false e k ih = let r = ih (omega arith) in (b ∷ r.0, ap (λ (l : List ℕ). b ∷ l) r.1)

-- up to the line feed at or after place k
after-ended : (x : List ℕ) (k : ℕ) → k ≤ length x → k + line_length (drop k x) < length x → Ended (take (k + line_length (drop k x)) x)
after-ended x k h l =
    let r = first_ended (drop k x) (simp length-drop (omega arith)) in
    (take k x ++ r.0, take-add k (line_length (drop k x)) x ∙ ap (λ (z : List ℕ). take k x ++ z) r.1 ∙ sym (append_assoc (take k x) r.0 (10 ∷ [])))

-- up to the last line feed before place k
start-ended : (x : List ℕ) (k : ℕ) → k ≤ length x → (line_start x k ≡ 0 → ⊥) → Ended (take (line_start x k) x)
unfolding line_start
start-ended x zero h z = absurd (z refl)
start-ended x (suc k) h z = go (eqb (get_or x k 0) 10) refl z (start-ended x k (omega arith))
  where
    go : (t : Bool) → eqb (get_or x k 0) 10 ≡ t → (cond t (suc k) (line_start x k) ≡ 0 → ⊥) → ((line_start x k ≡ 0 → ⊥) → Ended (take (line_start x k) x))
        → Ended (take (cond t (suc k) (line_start x k)) x)
    go true e n ih = (take k x, take-suc x k 0 h ∙ ap (λ (c : ℕ). take k x ++ (c ∷ [])) (eqb-true (get_or x k 0) 10 e))
    go false e n ih = ih n

-- no line feed before place k: the first line ends where the one at k does
line_on : (x : List ℕ) (k : ℕ) → k ≤ length x → line_start x k ≡ 0 → line_length x ≡ k + line_length (drop k x)
unfolding line_start line_length
line_on x zero h z = omega arith
line_on x (suc k) h z = go (eqb (get_or x k 0) 10) refl z (line_on x k (omega arith))
  where
    go : (t : Bool) → eqb (get_or x k 0) 10 ≡ t → cond t (suc k) (line_start x k) ≡ 0 → (line_start x k ≡ 0 → line_length x ≡ k + line_length (drop k x))
        → line_length x ≡ suc k + line_length (drop (suc k) x)
    go true e n ih = absurd (omega arith)
    go false e n ih =
        let more : line_length (drop k x) ≡ suc (line_length (drop (suc k) x)) = ap line_length (drop-cons x k 0 h) ∙ rw e in
        omega (arith, ih n)

-- ---- a place between two lines

nonzero : (m : ℕ) → (m ≡ 0 → ⊥) → 0 < m
nonzero zero h = absurd (h refl)
nonzero (suc m) h = omega arith

pub record Cut (x : List ℕ) (m : ℕ) : Type 0 where
  pub some : 0 < m
  pub inside : m < length x
  pub two : pieces x ≡ pieces (take m x) ++ pieces (drop m x)

cut_at : (x : List ℕ) (m : ℕ) → 0 < m → m < length x → Ended (take m x) → Cut x m
cut_at x m some inside r = record {
  some = some;
  inside = inside;
  two =
      ap pieces (sym (take-append-drop m x) ∙ ap (λ (z : List ℕ). z ++ drop m x) r.1 ∙ append_assoc r.0 (10 ∷ []) (drop m x))
      ∙ pieces-append r.0 (drop m x) ∙ ap (λ (z : List ℕ). pieces z ++ pieces (drop m x)) (sym r.1);
}

-- ---- the place near the middle

abbrev half : List ℕ → ℕ
half x = length x / 2

abbrev after : List ℕ → ℕ
after x = half x + line_length (drop (half x) x)

pub middle-after : (x : List ℕ) (m : ℕ) → m ≡ after x → m < length x → m ≡ middle_of x
unfolding middle_of
middle-after x m is h = is ∙ sym (rw (lt-ltb (after x) (length x) (omega arith)))

pub middle-before : (x : List ℕ) (m r : ℕ) → m ≡ after x → length x ≤ m → r ≡ line_start x (half x) → r ≡ middle_of x
unfolding middle_of
middle-before x m r is h start = start ∙ sym (rw (le-ltb (after x) (length x) (omega arith)))

pub middle-cuts : (x : List ℕ) (m : ℕ) → m ≡ middle_of x → (m ≡ 0 → ⊥) → Cut x m
unfolding middle_of
middle-cuts x m is some = go (ltb (after x) (length x)) refl is
  where
    go : (t : Bool) → ltb (after x) (length x) ≡ t → m ≡ cond t (after x) (line_start x (half x)) → Cut x m
    go true e is =
        let h : after x < length x = ltb-true (after x) (length x) e in
        cut_at x m (nonzero m some) (omega arith) (rw is (after-ended x (half x) (omega arith) h))
    go false e is =
        let h : m ≤ half x = omega (arith, start_fits x (half x)) in
        cut_at x m (nonzero m some) (omega (arith, nonzero m some)) (rw is (start-ended x (half x) (omega arith) (λ z. some (is ∙ z))))

-- no such place: one line or none
pub middle-none : (x : List ℕ) (m : ℕ) → m ≡ middle_of x → m ≡ 0 → line_length x ≡ length x
unfolding middle_of
middle-none x m is none = go (ltb (after x) (length x)) refl is
  where
    go : (t : Bool) → ltb (after x) (length x) ≡ t → m ≡ cond t (after x) (line_start x (half x)) → line_length x ≡ length x
    go true e is =
        let h : after x < length x = ltb-true (after x) (length x) e in
        let ld : length (drop (half x) x) ≡ length x - half x = length-drop (half x) x in
        absurd (omega (arith, line-some (drop (half x) x) (omega arith)))
    go false e is =
        let h : length x ≤ after x = ltb-false (after x) (length x) e in
        let on : line_length x ≡ after x = line_on x (half x) (omega arith) (sym is ∙ none) in
        omega (arith, line-fits x)
