-- `vectors::runs::rest_after` meets its contract. Assumes nothing.
use Rattle.std.proofs.Common.{rules}
use borrow.Author.Tests.{tests}
use Rattle.vectors.specs.Cases.{rest_after}
use Rattle.vectors.proofs.runs.rest_after.Goals as goal

pub returns-in-1-to-9 : goal.returns-in-1-to-9
unfolding rest_after
returns-in-1-to-9 c = search (rules, tests)

pub returns-in-1-to-9-2 : goal.returns-in-1-to-9-2
unfolding rest_after
returns-in-1-to-9-2 c = search (rules, tests)

pub returns-in_default : goal.returns-in_default
unfolding rest_after
returns-in_default c = search (rules, tests)

pub returns-in_default-2 : goal.returns-in_default-2
unfolding rest_after
returns-in_default-2 c = search (rules, tests)

pub returns-in_default-3 : goal.returns-in_default-3
unfolding rest_after
returns-in_default-3 c = search (rules, tests)
