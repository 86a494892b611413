-- `patterns::close_bracket` meets its contract. Assumes nothing.
use mathlib.Core.Path.{sym, ◌∙◌}
use native.Mathlib.Omega.{arith}
use Rattle.patterns.proofs.Places.{next-within}
use Rattle.patterns.proofs.Closing.{not-closed, closed-blank, closed}
use Rattle.patterns.proofs.close_bracket.Goals as goal

pub returns-then-not-is_next : goal.returns-then-not-is_next
returns-then-not-is_next c = not-closed _ _ (sym c.is_next.ensures ∙ c.if-not-is_next.true)

pub returns-then-blank : goal.returns-then-blank
returns-then-blank c = closed-blank _ _ (sym c.is_next.ensures ∙ c.if-not-is_next.false) c.if-blank.true

pub overflow_add-at : goal.overflow_add-at
overflow_add-at c =
    let within = next-within _ _ 41 (omega arith) (sym c.is_next.ensures ∙ c.if-not-is_next.false) in
    omega (arith, within)

pub returns : goal.returns
returns c = rw c.solid.ensures (closed _ _ (sym c.is_next.ensures ∙ c.if-not-is_next.false) c.if-blank.false)
