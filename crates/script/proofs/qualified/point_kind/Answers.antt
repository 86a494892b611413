-- `script::qualified::point_kind` meets its contract. Assumes nothing.
use Rattle.items.specs.Kinds.{point_kind}
use Rattle.script.proofs.qualified.point_kind.Goals as goal

pub returns-then-after : goal.returns-then-after
unfolding point_kind
returns-then-after c = rw c.if-after.true

pub returns-else-after : goal.returns-else-after
unfolding point_kind
returns-else-after c = rw c.if-after.false
