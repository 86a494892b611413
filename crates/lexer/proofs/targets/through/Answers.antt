use mathlib.Core.Path.{sym, ap, ◌∙◌}
use native.Mathlib.Omega.{arith}
use Rattle.lexer.proofs.AtPlace.{next-inside}
use Rattle.definitions.specs.Bytes.{is_digit}
use Rattle.lexer.proofs.Spans.{through-eof, through-number, through-alone}
use Rattle.lexer.proofs.targets.through.Goals as goal

pub overflow_add-result : goal.overflow_add-result
overflow_add-result c = omega (arith, next-inside c.args.s.now c.skip_spaces-i.result (omega (arith, c.next_byte-b.ensures, c.if-b-eq42.true)))

pub returns-then-b-eq42 : goal.returns-then-b-eq42
returns-then-b-eq42 c = through-eof _ _ _ c.skip_spaces-i.ensures.place (omega arith) (omega arith) (sym c.next_byte-b.ensures ∙ c.if-b-eq42.true)

pub returns-then-is_digit : goal.returns-then-is_digit
returns-then-is_digit c = through-number _ _ _ c.skip_spaces-i.ensures.place (omega arith) (omega arith) (λ e. c.if-b-eq42.false (c.next_byte-b.ensures ∙ e)) _ (ap is_digit (sym c.next_byte-b.ensures) ∙ sym c.is_digit.ensures ∙ c.if-is_digit.true) c.number.ensures

pub returns : goal.returns
returns c = through-alone _ _ _ c.skip_spaces-i.ensures.place (omega arith) (omega arith) (λ e. c.if-b-eq42.false (c.next_byte-b.ensures ∙ e)) (ap is_digit (sym c.next_byte-b.ensures) ∙ sym c.is_digit.ensures ∙ c.if-is_digit.false)
