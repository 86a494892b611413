use mathlib.Core.Path.{refl, ap}
use Rattle.control.proofs.Pulling.{running-in, skipping-in, failing-in, leaving-in, running-step, skipping_step, failing-step, leaving-step}
use Rattle.control.proofs.Standing.{kept-none}
use Rattle.control.specs.declared.Step.TheVariants.{On}
use Rattle.control.proofs.Moving.{is-as, is_same, steps-running, steps-skipping, steps-failing, steps-leaving}
use Rattle.control.proofs.item_step.Goals as goal

pub run_item-requires : goal.run_item-requires
run_item-requires c = let p = c.requires.0 in running-in p.0 _ _ _ p.1 c.requires.1 p.2 c.in-Running.is

pub returns-in-Running : goal.returns-in-Running
returns-in-Running c = (c.run_item.ensures.0, (λ s from h. running-step _ _ _ _ c.requires.1 s from h _ c.in-Running.is c.run_item.ensures.1), is_same _ _ _ _ (steps-running _ _ _ c.in-Running.is) c.run_item.ensures.2)

pub skip_item-requires : goal.skip_item-requires
skip_item-requires c = let p = c.requires.0 in skipping-in p.0 _ _ _ p.1 c.requires.1 p.2 _ c.in-Skipping.is

pub returns-in-Skipping : goal.returns-in-Skipping
returns-in-Skipping c = (kept-none _ _, (λ s from h. skipping_step _ _ _ c.requires.1 s from h _ _ c.in-Skipping.is c.skip_item.ensures.0), is-as _ _ _ _ _ (steps-skipping _ _ _ _ c.in-Skipping.is) (ap On c.skip_item.ensures.1) refl)

pub else_item-requires : goal.else_item-requires
else_item-requires c = let p = c.requires.0 in failing-in p.0 _ _ _ p.1 c.requires.1 p.2 _ c.in-Failing.is

pub returns-in-Failing : goal.returns-in-Failing
returns-in-Failing c = (c.else_item.ensures.0, (λ s from h. failing-step _ _ _ _ c.requires.1 s from h _ _ c.in-Failing.is c.else_item.ensures.1), is-as _ _ _ _ _ (steps-failing _ _ _ _ c.in-Failing.is _ _ c.else_item.ensures.2) refl refl)

pub line_item-requires : goal.line_item-requires
line_item-requires c = let p = c.requires.0 in leaving-in p.0 _ _ _ p.1 c.requires.1 p.2 c.in-Leaving.is

pub returns-in-Leaving : goal.returns-in-Leaving
returns-in-Leaving c = (kept-none _ _, (λ s from h. leaving-step _ _ _ c.requires.1 s from h _ c.in-Leaving.is c.line_item.ensures.0), is-as _ _ _ _ _ (steps-leaving _ _ _ c.in-Leaving.is) (ap On c.line_item.ensures.1) refl)
