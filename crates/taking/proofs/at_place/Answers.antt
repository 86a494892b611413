use Rattle.taking.proofs.Places.{place-ends, place-passes}
use Rattle.taking.proofs.at_place.Goals as goal

pub returns-then-may_end : goal.returns-then-may_end
returns-then-may_end c =
    let entered = c.entering-enter.ensures in
    let swept = c.sweep-out.ensures in
    λ p h. place-ends _ _ _ _ _ _ _ _ _ _ _ _ _ entered c.may_end.ensures p (swept p h) c.if-may_end.true _ c.better.ensures

pub returns : goal.returns
returns c =
    let entered = c.entering-enter.ensures in
    let swept = c.sweep-out.ensures in
    λ p h. place-passes _ _ _ _ _ _ _ _ _ _ _ _ _ entered c.may_end.ensures p (swept p h) c.if-may_end.false
