-- The bytes beside a place, for W. Assumes nothing.
use mathlib.Core.Path.{◌≡◌}
use mathlib.Core.Bool.{Bool, true, false, not}
use mathlib.Core.List.{List}
use Prim.Native.Nat.{ℕ}
use lib.ListN.{get_or}
use Rattle.definitions.specs.Matching.{byte_before, is_apart}

module _ (isWord : ℕ → Bool) (l : List ℕ) (i j : ℕ) where
  pub joined : not (isWord (byte_before l i)) ≡ false → is_apart isWord true l i j ≡ false
  unfolding is_apart
  joined e = rw e

  pub apart_by : (b : Bool) → not (isWord (byte_before l i)) ≡ true → not (isWord (get_or l j 0)) ≡ b → is_apart isWord true l i j ≡ b
  unfolding is_apart
  apart_by b e f = rw (e, f)
