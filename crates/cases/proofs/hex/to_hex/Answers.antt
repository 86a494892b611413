-- `cases::hex::to_hex` meets its contract. Assumes nothing.
use Rattle.std.proofs.Common.{◌≡◌, ◌/◌, min, length, ◌∙◌, arith}
use Rattle.cases.proofs.Digits.{to-turn, digits-length, digits-done}
use Rattle.cases.proofs.hex.to_hex.Goals as goal

pub loop-i-preserved : goal.loop-i-preserved
loop-i-preserved c =
    let a = c.args in
    let l = c.loop-i in
    to-turn a.out.now a.s.now _ l.i _ _ l.invariant (omega arith) (omega arith) c.hex_digit.ensures c.hex_digit-in-loop-i.ensures

pub returns-clause-value : goal.returns-clause-value
returns-clause-value c =
    let a = c.args in
    (digits-length a.out.now a.s.now c.min-most.result (omega (arith, c.min-most.ensures)), omega arith)

pub returns-clause-out_after : goal.returns-clause-out_after
returns-clause-out_after c =
    let a = c.args in
    let l = c.loop-i in
    let all : l.i ≡ min (length a.s.now) (length a.out.now / 2) = omega (arith, c.min-most.ensures) in
    l.invariant ∙ digits-done a.out.now a.s.now l.i all
