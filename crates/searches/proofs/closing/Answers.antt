-- `searches::closing` meets its contract. Assumes nothing.
use mathlib.Core.Path.{sym, ◌∙◌}
use native.Mathlib.Omega.{arith}
use Rattle.searches.proofs.Operators.{bracket-inside, closes_here, never-closed, something-else}
use Rattle.searches.proofs.closing.Goals as goal

pub overflow_add-result : goal.overflow_add-result
overflow_add-result c = omega (arith, bracket-inside c.args.s.now c.args.at _ c.skip_spaces-i.ensures.place (sym c.next_byte.ensures ∙ c.if-next_byte-eq41.true), c.well_formed.0.0)

pub returns-then-next_byte-eq41 : goal.returns-then-next_byte-eq41
returns-then-next_byte-eq41 c = closes_here c.args.s.now c.args.at _ c.skip_spaces-i.ensures.place (sym c.next_byte.ensures ∙ c.if-next_byte-eq41.true) c.skip_spaces-i.ensures.within.0

pub returns-then-s-end : goal.returns-then-s-end
returns-then-s-end c = rw c.at.ensures (never-closed c.args.s.now c.args.at _ c.skip_spaces-i.ensures.place (λ e. c.if-next_byte-eq41.false (c.next_byte.ensures ∙ e)) _ c.skip_blank-end.ensures.place c.skip_blank-end.ensures.within.1 c.if-s-end.true)

pub returns : goal.returns
returns c = rw c.at-2.ensures (something-else c.args.s.now c.args.at _ c.skip_spaces-i.ensures.place (λ e. c.if-next_byte-eq41.false (c.next_byte.ensures ∙ e)) _ c.skip_blank-end.ensures.place c.skip_blank-end.ensures.within.1 c.if-s-end.false)
