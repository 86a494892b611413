-- `script::qualified::change_kind` meets its contract. Assumes nothing.
use Rattle.lexer.specs.Shapes.{change_of}
use Rattle.items.specs.Kinds.{change_kind}
use Rattle.script.proofs.qualified.change_kind.Goals as goal

pub returns-then-pointing : goal.returns-then-pointing
unfolding change_kind change_of
returns-then-pointing c = rw (c.in-After.is, c.if-pointing.true)

pub returns-else-pointing : goal.returns-else-pointing
unfolding change_kind change_of
returns-else-pointing c = rw (c.in-After.is, c.if-pointing.false)

pub returns-then-pointing-2 : goal.returns-then-pointing-2
unfolding change_kind change_of
returns-then-pointing-2 c = rw (c.in-Before.is, c.if-pointing-2.true)

pub returns-else-pointing-2 : goal.returns-else-pointing-2
unfolding change_kind change_of
returns-else-pointing-2 c = rw (c.in-Before.is, c.if-pointing-2.false)

pub returns-then-pointing-3 : goal.returns-then-pointing-3
unfolding change_kind change_of
returns-then-pointing-3 c = rw (c.in-Exchange.is, c.if-pointing-3.true)

pub returns-else-pointing-3 : goal.returns-else-pointing-3
unfolding change_kind change_of
returns-else-pointing-3 c = rw (c.in-Exchange.is, c.if-pointing-3.false)
