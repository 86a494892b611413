-- The laws of how many bytes are text, from the first on. Assumes nothing.
use Rattle.std.proofs.Common.{◌≡◌, ℕ, zero, suc, ◌+◌, ◌-◌, ◌<◌, ◌≤◌, Bool, true, false, cond, List, [], ◌∷◌, ◌++◌, length, get_or, take, drop, sym, refl, ap, ◌∙◌, ⊎_elim, true≢false, arith, length-drop, length-take-le, get_or-drop, get_or-take, take-append-drop}
use Rattle.std.proofs.lemmas.Bool.{cases_order}
use Rattle.definitions.specs.Bytes.{is_text}
use Rattle.text.specs.Words.{text_run}

-- ---- over lists

pub run_fits : (l : List ℕ) → text_run l ≤ length l
unfolding text_run
run_fits [] = omega arith
run_fits (b ∷ l) = go (is_text b) (run_fits l)
  where
    go : (t : Bool) → text_run l ≤ length l → cond t (suc (text_run l)) 0 ≤ suc (length l)
    go true h = omega arith
    go false h = omega arith

-- the bytes before its end are text
run_inside : (l : List ℕ) (k : ℕ) → k < text_run l → is_text (get_or l k 0) ≡ true
unfolding text_run
run_inside [] k h = absurd (omega arith)
run_inside (b ∷ l) k h = go (is_text b) refl k (run_inside l) h
  where
    go : (t : Bool) → is_text b ≡ t → (k : ℕ) → ((m : ℕ) → m < text_run l → is_text (get_or l m 0) ≡ true) → k < cond (is_text b) (suc (text_run l)) 0 → is_text (get_or (b ∷ l) k 0) ≡ true
    go true e zero rest h = e
    go true e (suc m) rest h = let more = rw e at h in rest m (omega arith)
    go false e m rest h = let none = rw e at h in absurd (omega arith)

-- and the byte at its end is not
run_end : (l : List ℕ) → text_run l < length l → is_text (get_or l (text_run l) 0) ≡ false
unfolding text_run
run_end [] h = absurd (omega arith)
run_end (b ∷ l) h = go (is_text b) refl (run_end l) h
  where
    go : (t : Bool) → is_text b ≡ t → (text_run l < length l → is_text (get_or l (text_run l) 0) ≡ false) → cond (is_text b) (suc (text_run l)) 0 < suc (length l)
        → is_text (get_or (b ∷ l) (cond (is_text b) (suc (text_run l)) 0) 0) ≡ false
    go true e rest h = let more = rw e at h in rw e (rest (omega arith))
    go false e rest h = rw e e

-- i bytes are text, and none or another byte follows
pub run-is : (l : List ℕ) (i : ℕ) → i ≤ length l → ((k : ℕ) → k < i → is_text (get_or l k 0) ≡ true) → (i < length l → is_text (get_or l i 0) ≡ false) → i ≡ text_run l
run-is l i fits all other =
    ⊎_elim (λ e. e)
    (⊎_elim (λ (h : i < text_run l). absurd (true≢false (sym (run_inside l i h) ∙ other (omega (arith, run_fits l)))))
    (λ (h : text_run l < i). absurd (true≢false (sym (all (text_run l) h) ∙ run_end l (omega arith)))))
    (cases_order i (text_run l))

run-stop : (a b : List ℕ) → text_run a < length a → text_run (a ++ b) ≡ text_run a
unfolding text_run
run-stop [] b h = absurd (omega arith)
run-stop (c ∷ a) b h = go (is_text c) (run-stop a b) h
  where
    go : (t : Bool) → (text_run a < length a → text_run (a ++ b) ≡ text_run a) → cond t (suc (text_run a)) 0 < suc (length a)
        → cond t (suc (text_run (a ++ b))) 0 ≡ cond t (suc (text_run a)) 0
    go true rest h = ap suc (rest (omega arith))
    go false rest h = refl

run-over : (a b : List ℕ) → text_run a ≡ length a → text_run (a ++ b) ≡ length a + text_run b
unfolding text_run
run-over [] b h = omega arith
run-over (c ∷ a) b h = go (is_text c) (run-over a b) h
  where
    go : (t : Bool) → (text_run a ≡ length a → text_run (a ++ b) ≡ length a + text_run b) → cond t (suc (text_run a)) 0 ≡ suc (length a)
        → cond t (suc (text_run (a ++ b))) 0 ≡ suc (length a) + text_run b
    go true rest h = let more = rest (omega arith) in omega arith
    go false rest h = absurd (omega arith)

-- ---- over the first n bytes

module _ (l : List ℕ) (n : ℕ) (fits : n ≤ length l) where
  long : length (take n l) ≡ n
  long = length-take-le n l fits

  parted : text_run l ≡ text_run (take n l ++ drop n l)
  parted = ap text_run (sym (take-append-drop n l))

  pub run-stops : text_run (take n l) < n → text_run l ≡ text_run (take n l)
  run-stops h = parted ∙ run-stop (take n l) (drop n l) (rw long h)

  pub run-goes-on : n ≤ text_run (take n l) → text_run l ≡ n + text_run (drop n l)
  run-goes-on h =
      let all : text_run (take n l) ≡ length (take n l) = omega (arith, long, run_fits (take n l)) in
      parted ∙ omega (arith, long, run-over (take n l) (drop n l) all)

-- ---- where it ends, from `at` up to `stop`

module _ (s : List ℕ) (at stop : ℕ) (low : at ≤ stop) (inside : stop ≤ length s) where
  wide : length (take (stop - at) (drop at s)) ≡ stop - at
  wide = length-take-le (stop - at) (drop at s) (simp length-drop (omega arith))

  pub run-within : at + text_run (take (stop - at) (drop at s)) ≤ stop
  run-within = omega (arith, wide, run_fits (take (stop - at) (drop at s)))

  byte_of : (k : ℕ) → k < stop - at → get_or (take (stop - at) (drop at s)) k 0 ≡ get_or s (at + k) 0
  byte_of k h = get_or-take (stop - at) (drop at s) k 0 h ∙ get_or-drop at s k 0

  pub run-text : (k : ℕ) → k < text_run (take (stop - at) (drop at s)) → is_text (get_or s (at + k) 0) ≡ true
  run-text k h = rw (byte_of k (omega (arith, run-within))) at (run_inside (take (stop - at) (drop at s)) k h)

  pub run-other : at + text_run (take (stop - at) (drop at s)) < stop → is_text (get_or s (at + text_run (take (stop - at) (drop at s))) 0) ≡ false
  run-other h = rw (byte_of (text_run (take (stop - at) (drop at s))) (omega arith)) at (run_end (take (stop - at) (drop at s)) (rw wide (omega arith)))
