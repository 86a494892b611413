-- `script::qualified::global_kind` meets its contract. Assumes nothing.
use Rattle.lexer.specs.Shapes.{change_of}
use Rattle.items.specs.Kinds.{global_kind}
use Rattle.script.proofs.qualified.global_kind.Goals as goal

pub returns-in-After : goal.returns-in-After
unfolding global_kind change_of
returns-in-After c = rw c.in-After.is

pub returns-in-Before : goal.returns-in-Before
unfolding global_kind change_of
returns-in-Before c = rw c.in-Before.is

pub returns-in-Exchange : goal.returns-in-Exchange
unfolding global_kind change_of
returns-in-Exchange c = rw c.in-Exchange.is
