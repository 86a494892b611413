use mathlib.Core.Path.{sym, ◌∙◌}
use native.Mathlib.Omega.{arith}
use Rattle.taking.proofs.InWalk.{none-size, marks-fit, begins, orders, goes, goes_on, none-begun, passes, settles, idles, end-takes, end-orders}
use Rattle.taking.proofs.walk_line.Goals as goal

pub loop-i-init : goal.loop-i-init
loop-i-init c =
    let pre = c.requires in
    passes (begins (record { from = pre.1; inside = pre.2; short = pre.3; few = pre.4; pattern = pre.6 }) _ _ _ pre.5) pre.5 _ _ c.next_lead-i.ensures

pub at_place-best-requires : goal.at_place-best-requires
at_place-best-requires c =
    let pre = c.requires in
    (pre.0, omega arith, pre.3, marks-fit c.loop-i.invariant.come)

pub is_idle-idle-requires : goal.is_idle-idle-requires
is_idle-idle-requires c =
    let gone = goes c.loop-i.invariant.come c.loop-i-test.true _ _ c.at_place-best.auto.marks c.at_place-best.ensures in
    omega (arith, gone.size)

pub answer-requires : goal.answer-requires
answer-requires c =
    let gone = goes c.loop-i.invariant.come c.loop-i-test.true _ _ c.at_place-best.auto.marks c.at_place-best.ensures in
    orders gone

pub shape_of-marks-then-is_settled : goal.shape_of-marks-then-is_settled
shape_of-marks-then-is_settled c =
    let gone = goes c.loop-i.invariant.come c.loop-i-test.true _ _ c.at_place-best.auto.marks c.at_place-best.ensures in
    gone.size ∙ sym (none-size c.requires.5)

pub returns-then-is_settled : goal.returns-then-is_settled
returns-then-is_settled c =
    let gone = goes c.loop-i.invariant.come c.loop-i-test.true _ _ c.at_place-best.auto.marks c.at_place-best.ensures in
    let none = none-begun gone (sym c.if-idle.true ∙ c.is_idle-idle.ensures) in
    let settled = sym c.if-is_settled.true ∙ c.is_settled.ensures in
    λ p h. c.answer.ensures ∙ settles gone none settled p h

pub loop-i-smaller-then-idle : goal.loop-i-smaller-then-idle
loop-i-smaller-then-idle c = omega (arith, c.next_lead-i-then-idle.ensures.from)

pub loop-i-preserved-then-idle : goal.loop-i-preserved-then-idle
loop-i-preserved-then-idle c =
    let gone = goes c.loop-i.invariant.come c.loop-i-test.true _ _ c.at_place-best.auto.marks c.at_place-best.ensures in
    let none = none-begun gone (sym c.if-idle.true ∙ c.is_idle-idle.ensures) in
    passes gone none _ _ c.next_lead-i-then-idle.ensures

pub loop-i-preserved : goal.loop-i-preserved
loop-i-preserved c =
    let gone = goes c.loop-i.invariant.come c.loop-i-test.true _ _ c.at_place-best.auto.marks c.at_place-best.ensures in
    goes_on gone _ c.if-idle.false

pub answer-requires-then-not-leads_with : goal.answer-requires-then-not-leads_with
answer-requires-then-not-leads_with c = orders c.loop-i.invariant.come

pub shape_of-marks-then-not-leads_with : goal.shape_of-marks-then-not-leads_with
shape_of-marks-then-not-leads_with c = c.loop-i.invariant.come.size ∙ sym (none-size c.requires.5)

pub returns-then-not-leads_with : goal.returns-then-not-leads_with
returns-then-not-leads_with c =
    let inv = c.loop-i.invariant in
    let no_lead = sym c.leads_with.ensures ∙ c.if-not-leads_with.true in
    λ p h. c.answer-then-not-leads_with.ensures ∙ idles inv.come c.loop-i-test.false (inv.none c.if-idle-2.true) no_lead p h

pub at_place-best-requires-2 : goal.at_place-best-requires-2
at_place-best-requires-2 c =
    let pre = c.requires in
    (pre.0, pre.2, pre.3, marks-fit c.loop-i.invariant.come)

pub answer-requires-2 : goal.answer-requires-2
answer-requires-2 c =
    end-orders c.loop-i.invariant.come c.loop-i-test.false _ _ _ c.at_place-best-2.ensures

pub shape_of-marks : goal.shape_of-marks
shape_of-marks c = c.at_place-best-2.auto.marks ∙ c.loop-i.invariant.come.size ∙ sym (none-size c.requires.5)

pub returns : goal.returns
returns c =
    λ p h. c.answer-2.ensures ∙ end-takes c.loop-i.invariant.come c.loop-i-test.false _ _ _ c.at_place-best-2.ensures p h
