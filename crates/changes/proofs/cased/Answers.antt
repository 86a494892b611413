use Rattle.changes.proofs.Casing.{case-upper, case-lower}
use Rattle.changes.proofs.cased.Goals as goal

pub returns-then-up : goal.returns-then-up
returns-then-up c = case-upper _ _ _ c.if-up.true c.upper.ensures

pub returns : goal.returns
returns c = case-lower _ _ _ c.if-up.false c.lower.ensures
