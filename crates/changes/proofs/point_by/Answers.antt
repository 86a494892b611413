use Rattle.changes.proofs.Commands.{point-after-by, point-before-by}
use Rattle.changes.proofs.point_by.Goals as goal

pub returns-then-after : goal.returns-then-after
returns-then-after c = point-after-by _ _ _ c.if-after.true

pub returns : goal.returns
returns c = point-before-by _ _ _ c.if-after.false
