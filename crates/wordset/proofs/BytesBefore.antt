-- Laws of the byte before a place. Assumes nothing.
use mathlib.Core.Path.{◌≡◌}
use mathlib.Core.List.{List}
use Prim.Native.Nat.{ℕ, zero, suc, ◌-◌, ◌<◌}
use native.Mathlib.Nat.{not-suc-le-zero}
use native.Mathlib.Numerals.{sub-one}
use lib.ListN.{get_or}
use Rattle.definitions.specs.Matching.{byte_before}

pub before-start : (l : List ℕ) (i : ℕ) → i ≡ 0 → byte_before l i ≡ 0
unfolding byte_before
before-start l i e = rw e

pub before-later : (l : List ℕ) (i : ℕ) → 0 < i → byte_before l i ≡ get_or l (i - 1) 0
unfolding byte_before
before-later l zero h = absurd (not-suc-le-zero h)
before-later l (suc i) h = rw sub-one
