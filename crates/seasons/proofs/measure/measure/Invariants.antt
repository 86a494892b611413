-- `seasons::measure::measure` meets its contract. The loop's invariant is `Measuring`. Assumes nothing.
use Prim.Native.Nat.{◌+◌, ◌-◌}
use lib.ListN.{length}
use Rattle.seasons.proofs.Lengths.{Measuring}
use Rattle.seasons.proofs.measure.measure.Given as goal

abbrev pub invariant-loop-next : goal.invariant-loop-next
invariant-loop-next l = Measuring l.j l.k l.size l.p l.left

abbrev pub decreases-loop-next : goal.decreases-loop-next
decreases-loop-next l = length l.j + length l.k - (l.p.first + l.p.second)
