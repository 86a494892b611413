-- At each turn the whole search comes to what is left of it (`RightTurn`). Assumes nothing.
use mathlib.Core.Path.{sym, ◌∙◌}
use native.Mathlib.Omega.{arith}
use borrow.Author.Rules.{rules}
use Rattle.matching.proofs.Sides.{right-begins, right-inside, right-found, right-missed, right-skipped, right-skip-falls, right-too-few, right-next, right-next-falls}
use Rattle.matching.proofs.scan.from_right.Goals as goal

pub loop-start-init : goal.loop-start-init
loop-start-init c = right-begins _ _ _ _ _ _ _ _ (search rules)

pub stands-requires : goal.stands-requires
stands-requires c = omega (arith, right-inside _ _ _ _ _ _ _ _ _ _ c.loop-start.invariant c.requires.1)

pub returns-then-k-le1 : goal.returns-then-k-le1
returns-then-k-le1 c = right-found _ _ _ _ _ _ _ _ _ _ c.loop-start.invariant c.if-k-le1.true (sym c.stands.ensures ∙ c.if-stands.true)

pub overflow_sub-i-then-stands : goal.overflow_sub-i-then-stands
overflow_sub-i-then-stands c = c.loop-start.invariant.lo

pub returns-then-i-start : goal.returns-then-i-start
returns-then-i-start c = right-too-few _ _ _ _ _ _ _ _ _ _ c.loop-start.invariant c.if-k-le1.false (sym c.stands.ensures ∙ c.if-stands.true) _ c.max-step.ensures c.if-i-start.true

pub loop-start-smaller-then-stands : goal.loop-start-smaller-then-stands
loop-start-smaller-then-stands c = right-next-falls _ _ _ _ _ _ _ _ _ _ c.loop-start.invariant c.if-k-le1.false (sym c.stands.ensures ∙ c.if-stands.true) _ c.max-step.ensures c.if-i-start.false

pub loop-start-preserved-then-stands : goal.loop-start-preserved-then-stands
loop-start-preserved-then-stands c = right-next _ _ _ _ _ _ _ _ _ _ c.loop-start.invariant c.if-k-le1.false (sym c.stands.ensures ∙ c.if-stands.true) _ c.max-step.ensures c.if-i-start.false

pub returns-then-i-start-2 : goal.returns-then-i-start-2
returns-then-i-start-2 c = right-missed _ _ _ _ _ _ _ _ _ _ c.loop-start.invariant (sym c.stands.ensures ∙ c.if-stands.false) c.if-i-start-2.true

pub overflow_sub-i-else-stands : goal.overflow_sub-i-else-stands
overflow_sub-i-else-stands c = omega (arith, c.loop-start.invariant.lo, c.if-i-start-2.false)

pub loop-start-smaller : goal.loop-start-smaller
loop-start-smaller c = right-skip-falls _ _ _ _ _ _ _ _ _ _ c.loop-start.invariant (sym c.stands.ensures ∙ c.if-stands.false) c.if-i-start-2.false

pub loop-start-preserved : goal.loop-start-preserved
loop-start-preserved c = right-skipped _ _ _ _ _ _ _ _ _ _ c.loop-start.invariant (sym c.stands.ensures ∙ c.if-stands.false) c.if-i-start-2.false
