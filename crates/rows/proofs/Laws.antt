-- The laws of looking for a line with a wanted first byte, over lists of bytes. Assumes nothing.
use mathlib.Core.Path.{◌≡◌, refl, ◌∙◌}
use mathlib.Core.Bool.{Bool, true, false, cond, ◌&&◌}
use mathlib.Core.List.{List, [], ◌∷◌, ◌++◌}
use Prim.Native.Nat.{ℕ, suc, ◌+◌, ◌≤◌}
use native.Mathlib.Omega.{arith}
use lib.ListN.{length, drop, get_or}
use lib.Seq.{drop-append_seam}
use lib.Dec.{eqb}
use Rattle.text.specs.Feeds.{line_length}
use Rattle.rows.specs.Rows.{line_where}

module _ (wanted : ℕ → Bool) where
  -- ---- no byte, a first line that is wanted or not, and how far it is at most

  pub where-none : (start : Bool) → line_where wanted start [] ≡ 0
  unfolding line_where
  where-none start = refl

  pub where-here : (b : ℕ) (l : List ℕ) → wanted b ≡ true → line_where wanted true (b ∷ l) ≡ 0
  unfolding line_where
  where-here b l e = rw e

  pub where-most : (start : Bool) (l : List ℕ) → line_where wanted start l ≤ length l
  unfolding line_where
  where-most start [] = omega arith
  where-most start (b ∷ l) = go (start && wanted b) (line_where wanted (eqb b 10) l) (where-most (eqb b 10) l)
    where
      go : (t : Bool) (k : ℕ) → k ≤ length l → cond t 0 (suc k) ≤ suc (length l)
      go true k h = omega arith
      go false k h = omega arith

  -- from the start of another line on it is as inside a line
  pub where-other : (b : ℕ) (l : List ℕ) → wanted b ≡ false → line_where wanted true (b ∷ l) ≡ line_where wanted false (b ∷ l)
  unfolding line_where
  where-other b l e = rw e

  -- ---- over a line

  pub in-line : (l : List ℕ) → line_where wanted false l ≡ line_length l + line_where wanted true (drop (line_length l) l)
  unfolding line_where line_length
  in-line [] = refl
  in-line (b ∷ l) = go (eqb b 10) (in-line l)
    where
      go : (t : Bool) → line_where wanted false l ≡ line_length l + line_where wanted true (drop (line_length l) l)
          → suc (line_where wanted t l) ≡ cond t 1 (suc (line_length l)) + line_where wanted true (drop (cond t 1 (suc (line_length l))) (b ∷ l))
      go true h = omega arith
      go false h = omega arith

  -- a first line that is known by where it ends
  pub where-line : (a x : List ℕ) → line_length (a ++ x) ≡ length a → wanted (get_or a 0 0) ≡ false
      → line_where wanted true (a ++ x) ≡ length a + line_where wanted true x
  where-line [] x long e = omega arith
  where-line (b ∷ a) x long e = where-other b (a ++ x) e ∙ in-line (b ∷ (a ++ x)) ∙ rw (long, drop-append_seam (b ∷ a) x)
