-- `script::groups::open_group` meets its contract. Assumes nothing.
use Rattle.script.proofs.Nested.{too_deep, opening-bare, opening-body}
use Rattle.script.proofs.groups.open_group.Goals as goal

pub returns-then-st-ge16 : goal.returns-then-st-ge16
returns-then-st-ge16 c = λ s acc h less. rw c.at.ensures (too_deep s _ _ _ acc h less c.if-st-ge16.true)

pub returns-then-st-eq0 : goal.returns-then-st-eq0
returns-then-st-eq0 c = λ s acc h less. rw (opening-bare s _ _ _ acc h less c.if-st-ge16.false c.if-st-eq0.true) (c.open_bare.ensures s acc h less)

pub returns : goal.returns
returns c = λ s acc h less. rw (opening-body s _ _ _ acc h less c.if-st-ge16.false c.if-st-eq0.false) (c.open_body.ensures s acc h less)
