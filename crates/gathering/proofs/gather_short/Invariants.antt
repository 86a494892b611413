-- `gathering::gather_short` meets its contract. The loop's invariant: the lines before `at` are gathered. Assumes nothing.
use Prim.Native.Nat.{◌-◌}
use lib.ListN.{length}
use Rattle.gathering.proofs.Passes.{Passed}
use Rattle.gathering.proofs.gather_short.Given as goal

abbrev pub invariant-loop-at : goal.invariant-loop-at
invariant-loop-at l = Passed l.initial.s l.s l.others l.p l.at

abbrev pub decreases-loop-at : goal.decreases-loop-at
decreases-loop-at l = length l.s - l.at
