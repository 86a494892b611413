-- `leads::last_lead` meets its contract. The loop's invariant: the last byte is one of the first n. Assumes nothing.
use mathlib.Core.Path.{refl, sym, ◌∙◌}
use mathlib.Core.Bool.{true, false}
use native.Mathlib.Omega.{arith}
use Rattle.leads.proofs.Ranging.{last_step, last_none}
use Rattle.leads.proofs.last_lead.Goals as goal

pub loop-b-init : goal.loop-b-init
loop-b-init c = (omega arith, λ p r. refl)

pub returns-then-may_begin : goal.returns-then-may_begin
returns-then-may_begin c =
    let l = c.loop-b in
    (omega arith, λ p r. sym (l.invariant.1 p r ∙ last_step p l.b (omega arith) true (sym (c.may_begin.ensures p r) ∙ c.if-may_begin.true)))

pub loop-b-preserved : goal.loop-b-preserved
loop-b-preserved c =
    let l = c.loop-b in
    (omega arith, λ p r. l.invariant.1 p r ∙ last_step p l.b (omega arith) false (sym (c.may_begin.ensures p r) ∙ c.if-may_begin.false))

pub returns : goal.returns
returns c =
    let l = c.loop-b in
    (omega arith, λ p r. sym (l.invariant.1 p r ∙ last_none p l.b (omega arith)))
