use Rattle.control.proofs.Leaving.{left-start, left-looked, left-group, left-more, left-none}
use Rattle.control.proofs.Standing.{stands-in}
use mathlib.Core.Path.{refl, ◌∙◌}
use native.Mathlib.Omega.{arith}
use Rattle.control.proofs.Moving.{leaves-group, leaves-more, leaves_none}
use Rattle.control.proofs.bodies.leave_to.Goals as goal

pub loop-d-init : goal.loop-d-init
loop-d-init c = ((λ s items frames h. left-start s _ _ _ _ items frames h), refl)

pub overflow_add-end : goal.overflow_add-end
overflow_add-end c = let p = c.requires in omega (arith, c.loop-d.auto.d, c.loop-d-test.true, stands-in p.0 _ _ _ _ p.1 p.3.stands)

pub is_group-requires : goal.is_group-requires
is_group-requires c = let p = c.requires in left-looked p.0 _ _ _ _ p.1 p.2 p.3 _ c.loop-d-test.true c.loop-d.auto.d (c.loop-d.invariant.0 p.0 p.1 p.2 p.3)

pub returns-then-is_group : goal.returns-then-is_group
returns-then-is_group c = ((λ s items frames h. left-group s _ _ _ _ items frames h _ c.loop-d-test.true c.loop-d.auto.d (c.loop-d.invariant.0 s items frames h) _ c.is_group.ensures.0 c.if-is_group.true _ c.stand.ensures), leaves-group _ _ _ _ _ c.loop-d-test.true _ c.is_group.ensures.1 c.if-is_group.true _ c.stand.ensures ∙ c.loop-d.invariant.1)

pub loop-d-preserved : goal.loop-d-preserved
loop-d-preserved c = ((λ s items frames h. left-more s _ _ _ _ items frames h _ c.loop-d-test.true c.loop-d.auto.d (c.loop-d.invariant.0 s items frames h) _ c.is_group.ensures.0 c.if-is_group.false), leaves-more _ _ _ _ _ c.loop-d-test.true _ c.is_group.ensures.1 c.if-is_group.false ∙ c.loop-d.invariant.1)

pub returns : goal.returns
returns c = ((λ s items frames h. left-none s _ _ _ _ items frames h _ (omega (arith, c.loop-d-test.false)) _ c.stand-2.ensures (c.loop-d.invariant.0 s items frames h)), leaves_none _ _ _ _ _ (omega (arith, c.loop-d-test.false)) _ c.stand-2.ensures ∙ c.loop-d.invariant.1)
