use Rattle.globals.proofs.Counting.{Counted}
use Rattle.globals.proofs.count.Given as goal

abbrev pub invariant-loop-n : goal.invariant-loop-n
invariant-loop-n l = Counted l.w l.n
