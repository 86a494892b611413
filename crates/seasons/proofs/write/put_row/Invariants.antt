-- `seasons::write::put_row` meets its contract. The loop's invariant is `Rowing`. Assumes nothing.
use Prim.Native.Nat.{◌+◌, ◌-◌}
use lib.ListN.{length}
use Rattle.seasons.proofs.Writing.{Rowing}
use Rattle.seasons.proofs.write.put_row.Given as goal

abbrev pub invariant-loop-next : goal.invariant-loop-next
invariant-loop-next l = Rowing l.kind l.j l.k l.initial.at l.initial.dest l.out l.at l.dest l.o

abbrev pub decreases-loop-next : goal.decreases-loop-next
decreases-loop-next l = length l.j + length l.k - (l.at.first + l.at.second)
