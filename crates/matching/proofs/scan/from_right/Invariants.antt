-- At each turn the whole search comes to what is left of it (`RightTurn`). Assumes nothing.
use Prim.Native.Nat.{◌-◌}
use Rattle.wordset.specs.Sets.{in_set}
use Rattle.matching.proofs.Sides.{RightTurn}
use Rattle.matching.proofs.scan.from_right.Given as goal

abbrev pub invariant-loop-start : goal.invariant-loop-start
invariant-loop-start l = RightTurn (in_set l.set 0) l.word l.fold l.s l.line l.start l.end l.count l.k l.i

abbrev pub decreases-loop-start : goal.decreases-loop-start
decreases-loop-start l = l.i - l.start
