use Rattle.definitions.specs.Bytes.{is_digit}
use mathlib.Core.Path.{sym, ap, ◌∙◌}
use native.Mathlib.Omega.{arith}
use Rattle.lexer.proofs.Digits.{no_number, number-zero, number-large, number_is}
use Rattle.lexer.proofs.numbers.number.Goals as goal

pub returns-then-not-is_digit : goal.returns-then-not-is_digit
returns-then-not-is_digit c = rw c.at.ensures (no_number _ _ (ap is_digit (sym c.next_byte.ensures) ∙ (sym c.is_digit.ensures ∙ c.if-not-is_digit.true)))

pub returns-then-d-lt1 : goal.returns-then-d-lt1
returns-then-d-lt1 c =
    let a = c.args in
    let d = c.digits-d in
    rw c.at-then-d-lt1.ensures (
    number-zero a.s.now a.at d.result.value d.result.next
    (ap is_digit (sym c.next_byte.ensures) ∙ (sym c.is_digit.ensures ∙ c.if-not-is_digit.false))
    d.ensures.read c.if-d-lt1.true)

pub returns-then-d-gt65535 : goal.returns-then-d-gt65535
returns-then-d-gt65535 c =
    let a = c.args in
    let d = c.digits-d in
    rw c.at-then-d-gt65535.ensures (
    number-large a.s.now a.at d.result.value d.result.next
    (ap is_digit (sym c.next_byte.ensures) ∙ (sym c.is_digit.ensures ∙ c.if-not-is_digit.false))
    d.ensures.read c.if-d-gt65535.true)

pub returns : goal.returns
returns c =
    let a = c.args in
    let d = c.digits-d in
    number_is a.s.now a.at d.result.value d.result.next
    (ap is_digit (sym c.next_byte.ensures) ∙ (sym c.is_digit.ensures ∙ c.if-not-is_digit.false))
    d.ensures.read (omega arith) (omega arith) (omega arith)
