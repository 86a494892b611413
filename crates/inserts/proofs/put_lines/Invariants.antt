use Prim.Native.Nat.{◌-◌}
use Rattle.inserts.proofs.Putting.{Putting}
use Rattle.inserts.proofs.put_lines.Given as goal

abbrev pub invariant-loop-at : goal.invariant-loop-at
invariant-loop-at l = Putting l.initial.j l.initial.r l.s l.start l.end l.j l.r l.at

abbrev pub decreases-loop-at : goal.decreases-loop-at
decreases-loop-at l = l.end - l.at
