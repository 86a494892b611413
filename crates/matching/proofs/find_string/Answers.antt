use Rattle.matching.proofs.Finding.{too_short, found-counted, found-start, found-end, found-whole, not-whole}
use Rattle.matching.proofs.find_string.Goals as goal

pub returns-then-end-start : goal.returns-then-end-start
returns-then-end-start c = too_short _ _ _ _ _ _ c.if-end-start.true

pub returns-then-q : goal.returns-then-q
returns-then-q c = found-counted _ _ _ _ _ _ _ _ c.if-q-eq0.true c.if-q.true c.from_right.ensures

pub returns-then-q-eq0 : goal.returns-then-q-eq0
returns-then-q-eq0 c = found-counted _ _ _ _ _ _ _ _ c.if-q-eq0.true c.if-q.false c.from_left.ensures

pub returns-then-q-eq1 : goal.returns-then-q-eq1
returns-then-q-eq1 c = found-start _ _ _ _ _ _ _ c.if-end-start.false c.if-q-eq1.true c.only_at.ensures

pub returns-then-q-eq2 : goal.returns-then-q-eq2
returns-then-q-eq2 c = found-end _ _ _ _ _ _ _ c.if-end-start.false c.if-q-eq2.true c.only_at-then-q-eq2.ensures

pub returns-then-end-start-2 : goal.returns-then-end-start-2
returns-then-end-start-2 c =
    found-whole _ _ _ _ _ _ c.if-q-eq0.false c.if-q-eq1.false c.if-q-eq2.false _ c.if-end-start-2.true c.only_at-then-end-start-2.ensures

pub returns : goal.returns
returns c =
    not-whole _ _ _ _ _ _ c.if-q-eq0.false c.if-q-eq1.false c.if-q-eq2.false c.if-end-start-2.false c.if-end-start.false
