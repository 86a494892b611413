use borrow.Author.Tests.{ne_eqb}
use Rattle.commands.specs.Performing.{split_by}
use Rattle.commands.proofs.qualified.is_split.Goals as goal

pub returns-in-66 : goal.returns-in-66
unfolding split_by
returns-in-66 c = rw c.in-66.is

pub returns-in-67 : goal.returns-in-67
unfolding split_by
returns-in-67 c = rw c.in-67.is

pub returns-in_default : goal.returns-in_default
unfolding split_by
returns-in_default c = let n = c.in_default.in_default-own.rest in rw (ne_eqb _ _ n.0.1, ne_eqb _ _ n.1)
