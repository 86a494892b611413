-- `script::qualified::split_kind` meets its contract. Assumes nothing.
use Rattle.items.specs.Kinds.{split_kind}
use Rattle.script.proofs.qualified.split_kind.Goals as goal

pub returns-then-after : goal.returns-then-after
unfolding split_kind
returns-then-after c = rw c.if-after.true

pub returns-else-after : goal.returns-else-after
unfolding split_kind
returns-else-after c = rw c.if-after.false
