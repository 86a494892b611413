-- `cases::fields::number` meets its contract. Assumes nothing.
use Rattle.std.proofs.Common.{min, sym, ap, ◌∙◌, arith}
use Rattle.cases.proofs.Places.{value-end, value_on, value-over}
use Rattle.cases.proofs.fields.number.Goals as goal

pub returns-then-n-gt65535 : goal.returns-then-n-gt65535
returns-then-n-gt65535 c =
    let l = c.loop-b in
    sym (l.invariant.1 ∙ value-over c.args.s.now l.n l.b-index _ (omega arith) (c.from.ensures ∙ c.digit.ensures.0) c.if-n-gt65535.true)

pub loop-b-preserved : goal.loop-b-preserved
loop-b-preserved c =
    let l = c.loop-b in
    let more = value_on c.args.s.now l.n l.b-index _ (omega arith) (c.from.ensures ∙ c.digit.ensures.0) in
    (omega arith, l.invariant.1 ∙ ap (min 65535) more)

pub returns : goal.returns
returns c =
    let l = c.loop-b in
    omega (arith, l.invariant.1, value-end c.args.s.now l.n l.b-index (omega arith))
