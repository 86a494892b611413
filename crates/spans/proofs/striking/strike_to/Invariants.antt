use Prim.Native.Nat.{◌-◌}
use Rattle.editor.specs.Shows.{strike_over}
use Rattle.spans.proofs.Struck.{Passing}
use Rattle.spans.proofs.striking.strike_to.Given as goal

abbrev pub invariant-loop-s : goal.invariant-loop-s
invariant-loop-s l = Passing strike_over l.end l.initial.j l.initial.s l.j l.s

abbrev pub decreases-loop-s : goal.decreases-loop-s
decreases-loop-s l = l.end - l.s.back
