use Rattle.changes.proofs.Commands.{not-pointing, point-past-after, point-past-before, point-exchanged}
use Rattle.changes.proofs.point_after.Goals as goal

pub returns-then-not-pointing : goal.returns-then-not-pointing
returns-then-not-pointing c = not-pointing _ _ _ _ _ _ (c.if-not-pointing.true)

pub returns-in-After : goal.returns-in-After
returns-in-After c = point-past-after _ _ _ _ _ _ (c.if-not-pointing.false) c.in-After.is

pub returns-in-Before : goal.returns-in-Before
returns-in-Before c = point-past-before _ _ _ _ _ _ (c.if-not-pointing.false) c.in-Before.is

pub returns-in-Exchange : goal.returns-in-Exchange
returns-in-Exchange c = point-exchanged _ _ _ _ _ _ (c.if-not-pointing.false) c.in-Exchange.is
