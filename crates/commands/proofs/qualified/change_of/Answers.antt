use borrow.Author.Tests.{ne_eqb}
use Rattle.commands.specs.Performing.{change_by}
use Rattle.commands.proofs.qualified.change_of.Goals as goal

pub returns-in-80 : goal.returns-in-80
unfolding change_by
returns-in-80 c = rw c.in-80.is

pub returns-in-81 : goal.returns-in-81
unfolding change_by
returns-in-81 c = rw c.in-81.is

pub returns-in-82 : goal.returns-in-82
unfolding change_by
returns-in-82 c = rw c.in-82.is

pub returns-in-83 : goal.returns-in-83
unfolding change_by
returns-in-83 c = rw c.in-83.is

pub returns-in_default : goal.returns-in_default
unfolding change_by
returns-in_default c = let n = c.in_default.in_default-own.rest in rw (ne_eqb _ _ n.0.0.0.1, ne_eqb _ _ n.0.0.1, ne_eqb _ _ n.0.1, ne_eqb _ _ n.1)
