-- `run::decoded::run_items` meets its contract. Assumes nothing.
use mathlib.Core.Path.{refl, ap, ◌∙◌}
use Rattle.seeks.specs.Edited.{looked_by}
use native.Mathlib.Omega.{arith}
use Rattle.control.proofs.Pulling.{at-start, none-yet}
use Rattle.run.proofs.Going.{going_start, going_done, going-wants, going-late, going-on, going-stops, stands-pulled, went-lines}
use Rattle.run.proofs.Stepping.{step-came}
use Rattle.run.proofs.decoded.run_items.Goals as goal

pub loop-x-init : goal.loop-x-init
loop-x-init c = (
  (λ items e t d r. going_start _ _ items e t (at-start _ _ _ items d.start _ c.start-c.ensures) c.requires.1 d r),
  omega arith,
  none-yet _ _ c.start-c.ensures,
  refl,
  refl,
  refl,
)

pub pull-next-requires : goal.pull-next-requires
pull-next-requires c = let g = (let p = c.requires in c.loop-x.invariant.0 p.0.0.0 p.2.0 p.2.1 p.0.0.1 p.2.2) in ((_, g.from, g.stands), omega arith)

pub shape_of-w-in_default : goal.shape_of-w-in_default
shape_of-w-in_default c = c.pull-next.auto.w ∙ c.loop-x.invariant.3

pub returns-in_default : goal.returns-in_default
returns-in_default c = record { lent = c.loop-x.invariant.5; runs = record { long = c.loop-x.invariant.4; runs = λ items e t d r. let g = c.loop-x.invariant.0 items e t d r in going_done g _ c.pull-next.ensures.0 _ _ c.in_default.is (c.pull-next.ensures.1 _ g.from g.stands) } }

pub shape_of-w-then-made-budget : goal.shape_of-w-then-made-budget
shape_of-w-then-made-budget c = c.pull-next.auto.w ∙ c.loop-x.invariant.3

pub returns-then-made-budget : goal.returns-then-made-budget
returns-then-made-budget c =
    let start = c.requires.0.0.1 in
    record { lent = c.loop-x.invariant.5; runs = record { long = c.loop-x.invariant.4; runs = λ items e t d r. let g = c.loop-x.invariant.0 items e t d r in let h = going-wants g start.form start.start.ready.short _ _ _ _ c.in-Some.is (c.pull-next.ensures.1 _ g.from g.stands) in going-late g _ c.pull-next.ensures.0 _ _ h c.if-made-budget.true } }

pub answer_step-r-requires : goal.answer_step-r-requires
answer_step-r-requires c =
    let start = c.requires.0.0.1 in
    let g = (let p = c.requires in c.loop-x.invariant.0 p.0.0.0 p.2.0 p.2.1 p.0.0.1 p.2.2) in
    let h = going-wants g start.form start.start.ready.short _ _ _ _ c.in-Some.is (c.pull-next.ensures.1 _ g.from g.stands) in
    (((_, g.from, h.op, h.c₁, h.c₀, h.wants, (g.carries, stands-pulled g _ c.pull-next.ensures.0)), (g.then, g.rest, g.ready)), omega arith, omega (arith, h.shown.few, c.requires.0.1))

pub overflow_add-made : goal.overflow_add-made
overflow_add-made c =
    let start = c.requires.0.0.1 in
    let g = (let p = c.requires in c.loop-x.invariant.0 p.0.0.0 p.2.0 p.2.1 p.0.0.1 p.2.2) in
    let h = going-wants g start.form start.start.ready.short _ _ _ _ c.in-Some.is (c.pull-next.ensures.1 _ g.from g.stands) in
    let w = step-came c.args.ed.now.journal.now g h c.pull-next.ensures.0 c.loop-x.invariant.4 (omega arith) _ _ _ c.answer_step-r.ensures.answers_step.seeks in
    omega (arith, w.few, c.requires.0.1)

pub loop-x-smaller : goal.loop-x-smaller
loop-x-smaller c =
    let start = c.requires.0.0.1 in
    let g = (let p = c.requires in c.loop-x.invariant.0 p.0.0.0 p.2.0 p.2.1 p.0.0.1 p.2.2) in
    let h = going-wants g start.form start.start.ready.short _ _ _ _ c.in-Some.is (c.pull-next.ensures.1 _ g.from g.stands) in
    let w = step-came c.args.ed.now.journal.now g h c.pull-next.ensures.0 c.loop-x.invariant.4 (omega arith) _ _ _ c.answer_step-r.ensures.answers_step.seeks in
    omega (arith, w.began, w.few)

pub loop-x-preserved : goal.loop-x-preserved
loop-x-preserved c =
    let start = c.requires.0.0.1 in
    let g = (let p = c.requires in c.loop-x.invariant.0 p.0.0.0 p.2.0 p.2.1 p.0.0.1 p.2.2) in
    let h = going-wants g start.form start.start.ready.short _ _ _ _ c.in-Some.is (c.pull-next.ensures.1 _ g.from g.stands) in
    let w = step-came c.args.ed.now.journal.now g h c.pull-next.ensures.0 c.loop-x.invariant.4 (omega arith) _ _ _ c.answer_step-r.ensures.answers_step.seeks in (
      (λ items e t d r. let g = c.loop-x.invariant.0 items e t d r in let h = going-wants g start.form start.start.ready.short _ _ _ _ c.in-Some.is (c.pull-next.ensures.1 _ g.from g.stands) in going-on g _ refl _ _ _ _ _ h _ c.answer_step-r.ensures.only_carried (step-came c.args.ed.now.journal.now g h c.pull-next.ensures.0 c.loop-x.invariant.4 (omega arith) _ _ _ c.answer_step-r.ensures.answers_step.seeks) _ _ c.go_on-c.ensures (ap (λ r. looked_by r c.answer_step-r.new.ed.st) c.in-Ok.is)),
      omega (arith, w.few),
      went-lines _ c.in-Some.x _ _ _ c.go_on-c.ensures h.shown.yes_few h.shown.no_few (omega (arith, w.began, c.loop-x.invariant.2)),
      c.answer_step-r.auto.w ∙ c.pull-next.auto.w ∙ c.loop-x.invariant.3,
      c.answer_step-r.ensures.answers_step.long ∙ c.loop-x.invariant.4,
      c.answer_step-r.ensures.answers_step.keeps ∙ c.loop-x.invariant.5,
    )

pub shape_of-w-in-Err : goal.shape_of-w-in-Err
shape_of-w-in-Err c = c.answer_step-r.auto.w ∙ c.pull-next.auto.w ∙ c.loop-x.invariant.3

pub returns-in-Err : goal.returns-in-Err
returns-in-Err c =
    let start = c.requires.0.0.1 in
    record { lent = c.answer_step-r.ensures.answers_step.keeps ∙ c.loop-x.invariant.5; runs = record { long = c.answer_step-r.ensures.answers_step.long ∙ c.loop-x.invariant.4; runs = λ items e t d r. let g = c.loop-x.invariant.0 items e t d r in let h = going-wants g start.form start.start.ready.short _ _ _ _ c.in-Some.is (c.pull-next.ensures.1 _ g.from g.stands) in going-stops g _ refl _ _ _ _ _ h _ c.answer_step-r.ensures.only_carried (step-came c.args.ed.now.journal.now g h c.pull-next.ensures.0 c.loop-x.invariant.4 (omega arith) _ _ _ c.answer_step-r.ensures.answers_step.seeks) _ _ (ap (λ r. looked_by r c.answer_step-r.new.ed.st) c.in-Err.is) _ (rw c.from.ensures at c.stopped.ensures) } }
