-- `cases::fields::field` meets its contract. Assumes nothing.
use Rattle.std.proofs.Common.{◌≡◌, ◌+◌, ◌-◌, sym, ◌∙◌, arith}
use Rattle.cases.proofs.Places.{field-here, field-last, field-on}
use Rattle.cases.proofs.fields.field.Goals as goal

pub returns-then-s-end : goal.returns-then-s-end
returns-then-s-end c =
    let l = c.loop in
    let e = c.field_end-end.ensures in
    (field-last _ _ _ e.0 (c.args.k - l.counter) (omega arith) (omega arith) ∙ sym l.invariant.1, record { ordered = e.1; inside = e.2 })

pub loop-preserved : goal.loop-preserved
loop-preserved c =
    let l = c.loop in
    let left : c.args.k - (l.counter + 1) ≡ c.args.k - l.counter - 1 = omega arith in
    (omega arith, l.invariant.1 ∙ rw left (field-on _ _ _ c.field_end-end.ensures.0 (c.args.k - l.counter) (omega arith) (omega arith)))

pub returns : goal.returns
returns c =
    let l = c.loop in
    let e = c.field_end.ensures in
    (field-here _ _ _ e.0 (c.args.k - l.counter) (omega arith) ∙ sym l.invariant.1, record { ordered = e.1; inside = e.2 })
