use Rattle.control.proofs.Pulling.{came-further, came-on, came-next, came-end}
use Rattle.control.proofs.Standing.{kept-none, kept-twice}
use mathlib.Core.Path.{refl}
use native.Mathlib.Omega.{arith}
use Rattle.control.specs.Moves.{ends, gives, goes}
use Rattle.control.proofs.Moving.{step_is}
use Rattle.control.proofs.pull_items.Goals as goal

pub loop-point-init : goal.loop-point-init
loop-point-init c = (kept-none _ _, (λ s from h. record { to = from; shows = h; same = refl }), λ r v h. h)

pub item_step-step-requires : goal.item_step-step-requires
item_step-step-requires c = let p = c.requires in let k = c.loop-point.invariant.1 p.0 p.1 p.2 in ((p.0, k.to, k.shows), c.loop-point-test.true)

pub loop-point-smaller : goal.loop-point-smaller
loop-point-smaller c = let p = c.requires in let k = c.loop-point.invariant.1 p.0 p.1 p.2 in omega (arith, c.loop-point-test.true, came-further p.0 _ _ _ _ _ _ c.in-On.is (c.item_step-step.ensures.1 p.0) k.to k.shows)

pub loop-point-preserved : goal.loop-point-preserved
loop-point-preserved c = (kept-twice _ _ _ _ c.loop-point.invariant.0 c.item_step-step.ensures.0, (λ s from h. came-on s _ _ _ _ _ _ c.in-On.is (c.item_step-step.ensures.1 s) from (c.loop-point.invariant.1 s from h)), λ r v h. c.loop-point.invariant.2 r v (goes _ _ _ _ r v c.loop-point-test.true (step_is _ _ _ _ c.in-On.is c.item_step-step.ensures.2) h))

pub shape_of-w-in-Gives : goal.shape_of-w-in-Gives
shape_of-w-in-Gives c = (kept-twice _ _ _ _ c.loop-point.invariant.0 c.item_step-step.ensures.0).as_long

pub returns-in-Gives : goal.returns-in-Gives
returns-in-Gives c = (kept-twice _ _ _ _ c.loop-point.invariant.0 c.item_step-step.ensures.0, (λ s from h. came-next s _ _ _ _ _ _ _ c.in-Gives.is (c.item_step-step.ensures.1 s) from (c.loop-point.invariant.1 s from h)), c.loop-point.invariant.2 _ _ (gives _ _ _ _ c.loop-point-test.true (step_is _ _ _ _ c.in-Gives.is c.item_step-step.ensures.2)))

pub shape_of-w : goal.shape_of-w
shape_of-w c = c.loop-point.invariant.0.as_long

pub returns : goal.returns
returns c = (c.loop-point.invariant.0, (λ s from h. came-end s _ _ _ _ from c.loop-point-test.false (c.loop-point.invariant.1 s from h)), c.loop-point.invariant.2 _ _ (ends _ _ c.loop-point-test.false))
