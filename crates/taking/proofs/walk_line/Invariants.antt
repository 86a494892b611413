use Prim.Native.Nat.{◌-◌}
use Rattle.wordset.specs.Sets.{in_set}
use Rattle.taking.proofs.InWalk.{AtHead}
use Rattle.taking.proofs.walk_line.Given as goal

abbrev pub invariant-loop-i : goal.invariant-loop-i
invariant-loop-i l = AtHead (in_set l.set 0) l.way l.line l.start l.end l.pattern l.leads l.marks l.best l.idle l.i

abbrev pub decreases-loop-i : goal.decreases-loop-i
decreases-loop-i l = l.end - l.i
