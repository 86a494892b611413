-- `closing::arranging::arrange` meets its contract. The loop's invariant: the records before `at` are arranged. Assumes nothing.
use mathlib.Core.Path.{refl, ◌∙◌}
use native.Mathlib.Omega.{arith}
use Rattle.closing.proofs.Rows.{done_none, done_more, row-further, done_all}
use Rattle.closing.proofs.arranging.arrange.Goals as goal

pub loop-at-init : goal.loop-at-init
loop-at-init c = (omega arith, refl, λ rs g q. done_none rs _ g q)

pub loop-at-smaller : goal.loop-at-smaller
loop-at-smaller c =
    let l = c.loop-at in
    let p = c.requires in
    let r = c.arrange_row-at in
    omega (arith, row-further p.0 l.s l.at (l.invariant.2 p.0 p.1 p.2) r.new.s r.result r.ensures.0 (omega arith), r.ensures.2)

pub loop-at-preserved : goal.loop-at-preserved
loop-at-preserved c =
    let l = c.loop-at in
    let r = c.arrange_row-at in (
      omega (arith, r.ensures.2, r.auto.s),
      r.auto.s ∙ l.invariant.1,
      λ rs g q. done_more rs l.s l.at (l.invariant.2 rs g q) r.new.s r.result r.ensures.0,
    )

pub shape_of-s : goal.shape_of-s
shape_of-s c = c.loop-at.invariant.1

pub returns : goal.returns
returns c =
    let l = c.loop-at in
    λ rs g q. done_all rs l.s l.at (l.invariant.2 rs g q) (omega arith)
