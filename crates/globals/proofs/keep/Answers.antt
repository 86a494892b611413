use native.Mathlib.Omega.{arith}
use lib.ListN.{length-set}
use Rattle.globals.proofs.Counting.{kept-none, kept-ended, kept-sixteenth}
use Rattle.globals.proofs.keep.Goals as goal

pub returns-then-n-eq-MOST : goal.returns-then-n-eq-MOST
returns-then-n-eq-MOST c = kept-none _ _ _ c.count-n.ensures.0 c.if-n-eq-MOST.true

pub bounds-w-at-then-n-lt-MOST : goal.bounds-w-at-then-n-lt-MOST
bounds-w-at-then-n-lt-MOST c = rw length-set (omega (arith, c.count-n.ensures.1))

pub returns-then-n-lt-MOST : goal.returns-then-n-lt-MOST
returns-then-n-lt-MOST c = kept-ended _ _ _ c.count-n.ensures.0 c.count-n.ensures.1 c.if-n-eq-MOST.false c.if-n-lt-MOST.true

pub returns-else-n-lt-MOST : goal.returns-else-n-lt-MOST
returns-else-n-lt-MOST c = kept-sixteenth _ _ _ c.count-n.ensures.0 c.count-n.ensures.1 c.if-n-eq-MOST.false c.if-n-lt-MOST.false
