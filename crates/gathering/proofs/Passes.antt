-- The laws of lines gathered one after the other. Assumes nothing.
use mathlib.Core.Path.{◌≡◌, refl, sym, ap, ◌∙◌}
use Prim.Native.Nat.{ℕ, ◌+◌, ◌-◌, ◌≤◌, ◌<◌}
use native.Mathlib.Nat.{add-zero}
use native.Mathlib.Omega.{arith}
use mathlib.Core.List.{List, [], ◌∷◌, ◌++◌, append_assoc, append-nil}
use lib.ListN.{length, take, drop, get_or, length-drop, drop_of_length-le}
use lib.Seq.{paste, take-paste, drop-paste, drop-drop, get_or-drop, take_all, length-take-le}
use Rattle.text.specs.Feeds.{line_length}
use Rattle.text.proofs.LineFeeds.{line-some, line-fits}
use Rattle.gathering.specs.Pieces.{is_minus, is_other, minus_row, other_row, Gathered}
use Rattle.gathering.proofs.Pieces.{minus-first, other-first, no_row}

-- ---- one line or none

pub none-gathered : (x : List ℕ) → length x ≡ 0 → Gathered x x 0
none-gathered x h =
    let m : minus_row x ≡ [] = no_row is_minus x h in
    let o : other_row x ≡ [] = no_row is_other x h in
    record { is = empty x h ∙ sym (rw (m, o)); size = sym (ap length m) }
  where
    empty : (x : List ℕ) → length x ≡ 0 → x ≡ []
    empty [] h = refl
    empty (b ∷ x) h = absurd (omega arith)

module _ (x : List ℕ) (some : 0 < length x) (one : line_length x ≡ length x) where
  line-all : take (line_length x) x ≡ x
  line-all = take_all (line_length x) x (omega arith)

  rest-none : length (drop (line_length x) x) ≡ 0
  rest-none = simp length-drop (omega arith)

  pub minus-gathered : get_or x 0 0 ≡ 45 → Gathered x x (length x)
  minus-gathered e =
      let r = minus-first x some e in
      let m : minus_row x ≡ x = r.0 ∙ rw (no_row is_minus (drop (line_length x) x) rest-none, line-all) (append-nil x) in
      let o : other_row x ≡ [] = r.1 ∙ no_row is_other (drop (line_length x) x) rest-none in
      record { is = sym (rw (m, o) (append-nil x)); size = sym (ap length m) }

  pub other-gathered : (get_or x 0 0 ≡ 45 → ⊥) → Gathered x x 0
  other-gathered e =
      let r = other-first x some e in
      let m : minus_row x ≡ [] = r.0 ∙ no_row is_minus (drop (line_length x) x) rest-none in
      let o : other_row x ≡ x = r.1 ∙ rw (no_row is_other (drop (line_length x) x) rest-none, line-all) (append-nil x) in
      record { is = sym (rw (m, o)); size = sym (ap length m) }

-- ---- the lines before `at` are gathered: the first kind stands in the first p bytes of s, the others in those of the array o

pub record Passed (x s o : List ℕ) (p at : ℕ) : Type 0 where
  pub low : p ≤ at
  pub fits : at ≤ length s
  pub long : length s ≡ length x
  pub room : length o ≡ 2048
  pub minus : minus_row x ≡ take p s ++ minus_row (drop at s)
  pub others : other_row x ≡ take (at - p) o ++ other_row (drop at s)

pub passed_none : (x o : List ℕ) → length o ≡ 2048 → Passed x x o 0 0
passed_none x o h = record { low = omega arith; fits = omega arith; long = refl; room = h; minus = refl; others = refl }

-- what stands behind the bytes written over
behind-paste : (s S : List ℕ) (p n k e : ℕ) → p ≤ length s → n ≤ length S → p + n + k ≡ e → drop e (paste s p S n) ≡ drop e s
behind-paste s S p n k e h l is = rw (← is, ← drop-drop k (p + n) (paste s p S n), drop-paste s p S n h l) (drop-drop k (p + n) s)

-- a line of s, from `at` up to e
pub record Inside (s : List ℕ) (at e : ℕ) : Type 0 where
  pub some : at < e
  pub fits : e ≤ length s

-- one line more, up to e
module _ (x s o : List ℕ) (p at e : ℕ) (so_far : Passed x s o p at) (more : at < length s) (is : e ≡ at + line_length (drop at s)) where
  pub line-inside : Inside s at e
  line-inside =
      let ld : length (drop at s) ≡ length s - at = length-drop at s in
      record { some = omega (arith, line-some (drop at s) (omega arith)); fits = omega (arith, line-fits (drop at s)) }

  n-is : line_length (drop at s) ≡ e - at
  n-is = omega arith

  rest-is : drop (line_length (drop at s)) (drop at s) ≡ drop e s
  rest-is = drop-drop (line_length (drop at s)) at s ∙ ap (λ (k : ℕ). drop k s) (sym is)

  first-is : get_or (drop at s) 0 0 ≡ get_or s at 0
  first-is = get_or-drop at s 0 0 ∙ ap (λ (k : ℕ). get_or s k 0) (add-zero at)

  some : 0 < length (drop at s)
  some = simp length-drop (omega arith)

  pub passed-minus : (t : List ℕ) → get_or s at 0 ≡ 45 → t ≡ paste s p (drop at s) (e - at) → length t ≡ length s → Passed x t o (p + (e - at)) e
  passed-minus t k t-is lt =
      let r = minus-first (drop at s) some (first-is ∙ k) in
      let n : ℕ = e - at in
      let inside : n ≤ length (drop at s) = simp length-drop (omega (arith, line-inside.some, line-inside.fits)) in
      let low : p ≤ length s = omega (arith, so_far.low, so_far.fits) in
      let far : drop e t ≡ drop e s = ap (drop e) t-is ∙ behind-paste s (drop at s) p n (at - p) e low inside (omega (arith, so_far.low, line-inside.some)) in
      let near : take (p + n) t ≡ take p s ++ take n (drop at s) = ap (take (p + n)) t-is ∙ take-paste s p (drop at s) n low inside in
      let same : e - (p + n) ≡ at - p = omega (arith, so_far.low, line-inside.some) in
      record {
        low = omega (arith, so_far.low, line-inside.some);
        fits = omega (arith, line-inside.fits);
        long = lt ∙ so_far.long;
        room = so_far.room;
        minus = so_far.minus ∙ rw (r.0, rest-is, n-is, near, far) (sym (append_assoc (take p s) (take n (drop at s)) (minus_row (drop e s))));
        others = so_far.others ∙ rw (r.1, rest-is, far, same);
      }

  pub passed-other : (u : List ℕ) → length x ≤ 2048 → (get_or s at 0 ≡ 45 → ⊥) → u ≡ paste o (at - p) (drop at s) (e - at) → length u ≡ length o → Passed x s u p e
  passed-other u short k u-is lu =
      let r = other-first (drop at s) some (λ h. k (sym first-is ∙ h)) in
      let n : ℕ = e - at in
      let inside : n ≤ length (drop at s) = simp length-drop (omega (arith, line-inside.some, line-inside.fits)) in
      let sum : e - p ≡ at - p + n = omega (arith, so_far.low, line-inside.some) in
      let near : take (e - p) u ≡ take (at - p) o ++ take n (drop at s) =
      rw (sum, u-is) (take-paste o (at - p) (drop at s) n (omega (arith, so_far.room, so_far.fits, so_far.long)) inside) in
      record {
        low = omega (arith, so_far.low, line-inside.some);
        fits = line-inside.fits;
        long = so_far.long;
        room = lu ∙ so_far.room;
        minus = so_far.minus ∙ rw (r.0, rest-is);
        others = so_far.others ∙ rw (r.1, rest-is, n-is, near) (sym (append_assoc (take (at - p) o) (take n (drop at s)) (other_row (drop e s))));
      }

-- after the last line the others' bytes come behind
pub passed-all : (x s o t : List ℕ) (p at : ℕ) → Passed x s o p at → length s ≤ at → t ≡ paste s p (drop 0 o) (at - p) → Gathered x t p
passed-all x s o t p at so_far end t-is =
    let none : length (drop at s) ≡ 0 = simp length-drop (omega arith) in
    let m : minus_row x ≡ take p s = so_far.minus ∙ rw (no_row is_minus (drop at s) none) (append-nil (take p s)) in
    let r : other_row x ≡ take (at - p) o = so_far.others ∙ rw (no_row is_other (drop at s) none) (append-nil (take (at - p) o)) in
    let rest : drop (p + (at - p)) s ≡ [] = drop_of_length-le s {i = p + (at - p)} (omega (arith, so_far.low)) in
    record { is = t-is ∙ rw (rest, m, r) (append-nil (take p s ++ take (at - p) o)); size = sym (ap length m ∙ length-take-le p s (omega (arith, so_far.low, so_far.fits))) }
