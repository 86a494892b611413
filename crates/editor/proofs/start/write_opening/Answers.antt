use mathlib.Core.Path.{refl, ◌∙◌}
use native.Mathlib.Omega.{arith}
use Rattle.editor.proofs.Opening.{writing_start, writing-low, writing-fits, writing-next, writing-done}
use Rattle.editor.proofs.start.write_opening.Goals as goal

pub loop-i-init : goal.loop-i-init
loop-i-init c =
    (writing_start c.args.t.now c.args.j.now c.requires.0, refl)

pub line_start-from-requires : goal.line_start-from-requires
line_start-from-requires c = omega (arith, c.loop-i.invariant.0.within)

pub overflow_sub-n : goal.overflow_sub-n
overflow_sub-n c = omega (arith, (writing-low c.loop-i.invariant.0 c.loop-i-test.true c.line_start-from.result c.line_start-from.ensures))

pub put_kept-o-requires : goal.put_kept-o-requires
put_kept-o-requires c =
    writing-fits c.loop-i.invariant.0 c.loop-i-test.true c.line_start-from.result c.line_start-from.ensures c.requires.1

pub overflow_add-lines : goal.overflow_add-lines
overflow_add-lines c =
    omega (arith, c.loop-i.invariant.0.few, c.loop-i-test.true)

pub loop-i-smaller : goal.loop-i-smaller
loop-i-smaller c = (writing-low c.loop-i.invariant.0 c.loop-i-test.true c.line_start-from.result c.line_start-from.ensures)

pub loop-i-preserved : goal.loop-i-preserved
loop-i-preserved c =
    let l = c.loop-i in
    let r = c.put_kept-o in
    (writing-next l.invariant.0 c.loop-i-test.true c.line_start-from.result c.line_start-from.ensures r.new.j r.result r.ensures.0 r.ensures.1, r.auto.j ∙ l.invariant.1)

pub shape_of-j : goal.shape_of-j
shape_of-j c = c.loop-i.invariant.1

pub returns : goal.returns
returns c = writing-done c.loop-i.invariant.0 (omega (arith, c.loop-i-test.false))
