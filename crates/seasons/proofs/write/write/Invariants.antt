-- `seasons::write::write` meets its contract. The loop's invariant is `Going`. Assumes nothing.
use Prim.Native.Nat.{◌+◌, ◌-◌}
use lib.ListN.{length}
use Rattle.seasons.proofs.Writing.{Going}
use Rattle.seasons.proofs.write.write.Given as goal

abbrev pub invariant-loop-next : goal.invariant-loop-next
invariant-loop-next l = Going l.j l.k l.initial.dest l.p l.out l.dest

abbrev pub decreases-loop-next : goal.decreases-loop-next
decreases-loop-next l = length l.j + length l.k - (l.p.first + l.p.second)
