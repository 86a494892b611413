-- Laws of the text T. Assumes nothing.
use mathlib.Core.Path.{◌≡◌, refl}
use mathlib.Core.Bool.{Bool, true, false}
use mathlib.Core.List.{List}
use Prim.Native.Nat.{ℕ, zero, suc, ◌-◌, ◌≤◌, ◌<◌, min, max}
use native.Mathlib.Nat.{not-suc-le-zero}
use native.Mathlib.Omega.{arith}
use lib.ListN.{length}
use Rattle.definitions.specs.Matching.{Text, text, cut, window, after_spaces}
use Rattle.scans.specs.Leading.{is_of}
use Rattle.scans.specs.declared.Kind.TheVariants.{Only}
use Rattle.scans.proofs.Runs.{reach}
use Rattle.matching.specs.Quals.{columns_of, TextIn}
use Rattle.matching.specs.declared.Span.{Span}
use Rattle.matching.proofs.Scans.{spaces-first}

windowed : (from to p : ℕ) (l : List ℕ) (start end : ℕ) → 0 < from → start ≡ min (max p (from - 1)) (length l) → end ≡ max start (min to (length l))
    → text start end ≡ window (columns_of from to) p l
unfolding columns_of window cut
windowed zero to p l start end h e f = absurd (not-suc-le-zero h)
windowed (suc n) to p l start end h e f = rw (f, e)

-- the window of all columns, and of some
module _ (l : List ℕ) (p from to : ℕ) (fits : p ≤ length l) where
  pub whole-window : from ≡ 0 → TextIn l (record { start = p; end = length l }) (window (columns_of from to) p l)
  unfolding columns_of window
  whole-window e = rw e (record { is = refl; ordered = fits; inside = omega arith })

  pub cut-window : 0 < from → (later start sooner end : ℕ) → later ≡ max p (from - 1) → start ≡ min later (length l) → sooner ≡ min to (length l) → end ≡ max start sooner
      → TextIn l (record { start = start; end = end }) (window (columns_of from to) p l)
  cut-window h later start sooner end a b c d =
      record { is = windowed from to p l start end h (rw (← a) b) (rw (← c) d); ordered = omega arith; inside = omega arith }

-- S
module _ (l : List ℕ) (r : Span) (t : Text) (w : TextIn l r t) where
  pub no-skip : (s : Bool) → s ≡ false → TextIn l r (after_spaces s l t)
  unfolding after_spaces
  no-skip s e = rw e w

  pub skip : (s : Bool) → s ≡ true → (first : ℕ) → first ≡ reach (is_of (Only 32)) l r.start r.end → first ≤ r.end → TextIn l (record { start = first; end = r.end }) (after_spaces s l t)
  unfolding after_spaces
  skip s h first e f = rw h (record { is = rw (e, spaces-first, ← w.is); ordered = f; inside = w.inside })
