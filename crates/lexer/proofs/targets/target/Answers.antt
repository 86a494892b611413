use Rattle.lexer.proofs.AtPlace.{next-inside}
use mathlib.Core.Path.{sym, ◌∙◌}
use native.Mathlib.Omega.{arith}
use Rattle.lexer.proofs.Spans.{target-here, target-eof, target-number}
use Rattle.lexer.proofs.targets.target.Goals as goal

pub overflow_add-result : goal.overflow_add-result
overflow_add-result c = omega (arith, next-inside c.args.s.now c.args.at (omega (arith, c.next_byte-b.ensures, c.if-b-eq46.true)))

pub returns-then-b-eq46 : goal.returns-then-b-eq46
returns-then-b-eq46 c = target-here _ _ (sym c.next_byte-b.ensures ∙ c.if-b-eq46.true)

pub overflow_add-result-then-b-eq42 : goal.overflow_add-result-then-b-eq42
overflow_add-result-then-b-eq42 c = omega (arith, next-inside c.args.s.now c.args.at (omega (arith, c.next_byte-b.ensures, c.if-b-eq42.true)))

pub returns-then-b-eq42 : goal.returns-then-b-eq42
returns-then-b-eq42 c = target-eof _ _ (λ e. c.if-b-eq46.false (c.next_byte-b.ensures ∙ e)) (sym c.next_byte-b.ensures ∙ c.if-b-eq42.true)

pub returns : goal.returns
returns c = target-number _ _ _ (λ e. c.if-b-eq46.false (c.next_byte-b.ensures ∙ e)) (λ e. c.if-b-eq42.false (c.next_byte-b.ensures ∙ e)) c.number.ensures
