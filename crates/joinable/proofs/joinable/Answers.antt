-- `joinable::joinable` meets its contract. One law for each way out. Assumes nothing.
use mathlib.Core.Path.{sym, ◌∙◌}
use borrow.Author.Tests.{lt-leb}
use Rattle.joinable.proofs.Taken.{taken_none, taken-records, taken-many, taken-by}
use Rattle.joinable.proofs.joinable.Goals as goal

pub returns-in_default : goal.returns-in_default
returns-in_default c = taken_none c.args.j.now (sym c.in_default.ensures)

pub in_order-requires : goal.in_order-requires
in_order-requires c = taken-records c.args.j.now c.in-Some.m (sym c.in-Some.ensures)

pub returns-then-m-le65535 : goal.returns-then-m-le65535
returns-then-m-le65535 c = taken-by c.args.j.now c.in-Some.m (sym c.in-Some.ensures) c.if-m-le65535.true c.in_order.result c.in_order.ensures

pub returns-else-m-le65535 : goal.returns-else-m-le65535
returns-else-m-le65535 c = lt-leb _ _ c.if-m-le65535.false ∙ taken-many c.args.j.now c.in-Some.m (sym c.in-Some.ensures) c.if-m-le65535.false
