use borrow.Author.Tests.{ne_eqb}
use Rattle.commands.specs.Performing.{pointing_by}
use Rattle.commands.proofs.qualified.is_pointing.Goals as goal

pub returns-in-81 : goal.returns-in-81
unfolding pointing_by
returns-in-81 c = rw c.in-81.is

pub returns-in-83 : goal.returns-in-83
unfolding pointing_by
returns-in-83 c = rw c.in-83.is

pub returns-in-85 : goal.returns-in-85
unfolding pointing_by
returns-in-85 c = rw c.in-85.is

pub returns-in_default : goal.returns-in_default
unfolding pointing_by
returns-in_default c = let n = c.in_default.in_default-own.rest in rw (ne_eqb _ _ n.0.0.1, ne_eqb _ _ n.0.1, ne_eqb _ _ n.1)
