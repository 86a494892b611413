-- At each turn the whole search comes to what is left of it (`LeftTurn`). Assumes nothing.
use mathlib.Core.Path.{sym, ◌∙◌}
use native.Mathlib.Omega.{arith}
use borrow.Author.Rules.{rules}
use Rattle.matching.proofs.Sides.{left-begins, left-inside, left-found, left-missed, left-skipped, left-skip-falls, left-too-few, left-next, left-reached}
use Rattle.matching.proofs.scan.from_left.Goals as goal

pub loop-start-init : goal.loop-start-init
loop-start-init c = left-begins _ _ _ _ _ _ _ _ (search rules)

pub stands-requires : goal.stands-requires
stands-requires c = omega (arith, left-inside _ _ _ _ _ _ _ _ _ _ _ c.loop-start.invariant c.next_place-i.ensures c.requires.1)

pub returns-then-k-le1 : goal.returns-then-k-le1
returns-then-k-le1 c = left-found _ _ _ _ _ _ _ _ _ _ _ c.loop-start.invariant c.next_place-i.ensures c.if-k-le1.true (sym c.stands.ensures ∙ c.if-stands.true)

pub overflow_sub-top-then-stands : goal.overflow_sub-top-then-stands
overflow_sub-top-then-stands c = (left-reached _ _ _ _ _ _ _ _ _ _ _ c.loop-start.invariant c.next_place-i.ensures).1

pub returns-then-top-i : goal.returns-then-top-i
returns-then-top-i c = left-too-few _ _ _ _ _ _ _ _ _ _ _ c.loop-start.invariant c.next_place-i.ensures c.if-k-le1.false (sym c.stands.ensures ∙ c.if-stands.true) _ c.max-step.ensures c.if-top-i.true

pub overflow_add-i : goal.overflow_add-i
overflow_add-i c = omega (arith, left-reached _ _ _ _ _ _ _ _ _ _ _ c.loop-start.invariant c.next_place-i.ensures)

pub loop-start-smaller-then-stands : goal.loop-start-smaller-then-stands
loop-start-smaller-then-stands c = omega (arith, left-reached _ _ _ _ _ _ _ _ _ _ _ c.loop-start.invariant c.next_place-i.ensures, c.max-step.ensures, c.if-top-i.false)

pub loop-start-preserved-then-stands : goal.loop-start-preserved-then-stands
loop-start-preserved-then-stands c = left-next _ _ _ _ _ _ _ _ _ _ _ c.loop-start.invariant c.next_place-i.ensures c.if-k-le1.false (sym c.stands.ensures ∙ c.if-stands.true) _ c.max-step.ensures c.if-top-i.false

pub returns-then-i-top : goal.returns-then-i-top
returns-then-i-top c = left-missed _ _ _ _ _ _ _ _ _ _ _ c.loop-start.invariant c.next_place-i.ensures (sym c.stands.ensures ∙ c.if-stands.false) c.if-i-top.true

pub overflow_add-i-else-stands : goal.overflow_add-i-else-stands
overflow_add-i-else-stands c = omega (arith, left-reached _ _ _ _ _ _ _ _ _ _ _ c.loop-start.invariant c.next_place-i.ensures, c.if-i-top.false)

pub loop-start-smaller : goal.loop-start-smaller
loop-start-smaller c = left-skip-falls _ _ _ _ _ _ _ _ _ _ _ c.loop-start.invariant c.next_place-i.ensures (sym c.stands.ensures ∙ c.if-stands.false) c.if-i-top.false

pub loop-start-preserved : goal.loop-start-preserved
loop-start-preserved c = left-skipped _ _ _ _ _ _ _ _ _ _ _ c.loop-start.invariant c.next_place-i.ensures (sym c.stands.ensures ∙ c.if-stands.false) c.if-i-top.false
