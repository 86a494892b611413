use native.Mathlib.Omega.{arith}
use Rattle.spans.proofs.Nexts.{seeking-start, seeking-few, seeking-eof, seeking-live, seeking-less, seeking-on}
use Rattle.spans.proofs.finding.live_from.Goals as goal

pub loop-at-init : goal.loop-at-init
loop-at-init c = λ b a h q. seeking-start b a h q

pub returns-then-at-j : goal.returns-then-at-j
returns-then-at-j c = λ b a h q. seeking-eof (c.loop-at.invariant b a h q) c.if-at-j.true

pub bounds-j-at : goal.bounds-j-at
bounds-j-at c = c.if-at-j.false

pub returns-then-j-at-ne45 : goal.returns-then-j-at-ne45
returns-then-j-at-ne45 c = λ b a h q. seeking-live (c.loop-at.invariant b a h q) c.if-at-j.false c.if-j-at-ne45.true

pub overflow_add-n : goal.overflow_add-n
overflow_add-n c = omega (arith, seeking-few (c.loop-at.invariant c.requires.0 c.requires.1 c.requires.2 c.requires.3), c.requires.4)

pub record_end-at-requires : goal.record_end-at-requires
record_end-at-requires c = omega (arith, c.if-at-j.false)

pub loop-at-smaller : goal.loop-at-smaller
loop-at-smaller c =
    let w = seeking-less (c.loop-at.invariant c.requires.0 c.requires.1 c.requires.2 c.requires.3) c.if-at-j.false _ c.record_end-at.ensures in
    omega (arith, w.0, w.1)

pub loop-at-preserved : goal.loop-at-preserved
loop-at-preserved c = λ b a h q. seeking-on (c.loop-at.invariant b a h q) c.if-at-j.false _ c.record_end-at.ensures c.if-j-at-ne45.false
