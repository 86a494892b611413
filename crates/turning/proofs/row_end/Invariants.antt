-- `turning::row_end` meets its contract. The loop's invariant is `Within`. Assumes nothing.
use Prim.Native.Nat.{◌-◌}
use lib.ListN.{length}
use Rattle.turning.proofs.Walks.{Within}
use Rattle.turning.proofs.row_end.Given as goal

abbrev pub invariant-loop-i : goal.invariant-loop-i
invariant-loop-i l = Within l.b l.j l.initial.i l.i

abbrev pub decreases-loop-i : goal.decreases-loop-i
decreases-loop-i l = length l.j - l.i
