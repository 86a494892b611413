-- `cases::hex::from_hex` meets its contract. Assumes nothing.
use Rattle.std.proofs.Common.{◌≡◌, ◌/◌, min, length, ◌∙◌, arith}
use Rattle.cases.proofs.Digits.{from-turn, bytes-length, bytes-done}
use Rattle.cases.proofs.hex.from_hex.Goals as goal

pub loop-n-preserved : goal.loop-n-preserved
loop-n-preserved c =
    let l = c.loop-n in
    let a = c.args in
    from-turn a.out.now a.s.now _ l.n _ _ l.invariant (omega arith) (omega arith) c.digit.ensures.0 c.digit-in-loop-n.ensures.0

pub returns-clause-value : goal.returns-clause-value
returns-clause-value c =
    let a = c.args in
    (bytes-length a.out.now a.s.now c.min-most.result (omega (arith, c.min-most.ensures)), omega arith)

pub returns-clause-out_after : goal.returns-clause-out_after
returns-clause-out_after c =
    let a = c.args in
    let l = c.loop-n in
    let all : l.n ≡ min (length a.s.now / 2) (length a.out.now) = omega (arith, c.min-most.ensures) in
    l.invariant ∙ bytes-done a.out.now a.s.now l.n all
