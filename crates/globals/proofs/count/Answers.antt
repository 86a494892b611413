use native.Mathlib.Omega.{arith}
use Rattle.globals.proofs.Counting.{counted_none, counted-end, counted-one, counted-all}
use Rattle.globals.proofs.count.Goals as goal

pub loop-n-init : goal.loop-n-init
loop-n-init c = counted_none _

pub returns-then-w-top-eq0 : goal.returns-then-w-top-eq0
returns-then-w-top-eq0 c = let l = c.loop-n in
    (counted-end _ _ l.invariant c.if-w-top-eq0.true, l.invariant.few)

pub loop-n-preserved : goal.loop-n-preserved
loop-n-preserved c = counted-one _ _ c.loop-n.invariant (omega arith) c.if-w-top-eq0.false

pub returns : goal.returns
returns c = let l = c.loop-n in
    (omega (arith, l.invariant.few, counted-all _ _ l.invariant (omega arith)), omega arith)
