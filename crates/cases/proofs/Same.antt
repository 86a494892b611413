-- Laws of bytes that are all the same. Assumes nothing.
use mathlib.Core.Path.{◌≡◌, refl}
use mathlib.Core.Bool.{Bool, true, false, ◌&&◌}
use mathlib.Core.List.{List, [], ◌∷◌}
use Prim.Native.Nat.compare
use Prim.Native.Nat.{ℕ, suc}
use native.Mathlib.Nat.{zero-add, sub-zero}
use lib.ListN.{length}
use lib.Dec.{eqb}
use native.Mathlib.Omega.{arith}
use borrow.Author.Tests.{ne_eqb}
use Rattle.scans.specs.Leading.{leading, is_of}
use Rattle.scans.specs.declared.Kind.TheVariants.{Only}
use Rattle.scans.proofs.Runs.{reach}
use Rattle.cases.specs.Buffers.{all_are}

-- all are b where the run of b ends at the end
run-all : (b : ℕ) (s : List ℕ) → eqb (leading (is_of (Only b)) (length s) s) (length s) ≡ all_are b s
unfolding leading is_of all_are
run-all b [] = refl
run-all b (x ∷ s) = go (eqb x b) (run-all b s)
  where
    go : (t : Bool) → eqb (leading (is_of (Only b)) (length s) s) (length s) ≡ all_are b s
        → eqb (elim t [ true ↦ suc (leading (is_of (Only b)) (length s) s) | false ↦ 0 ]) (suc (length s)) ≡ t && all_are b s
    go true h = rw compare.suc-suc h
    go false h = ne_eqb 0 (suc (length s)) (omega arith)

pub all-reach : (b : ℕ) (s : List ℕ) (r : ℕ) → r ≡ reach (is_of (Only b)) s 0 (length s) → eqb r (length s) ≡ all_are b s
all-reach b s r e = rw (e, zero-add, sub-zero) (run-all b s)
