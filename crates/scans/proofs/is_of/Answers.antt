-- `scans::is_of` meets its contract. Assumes nothing.
use borrow.Author.Tests.{eq-eqb, ne_eqb}
use Rattle.scans.specs.Leading.{is_of}
use Rattle.scans.proofs.is_of.Goals as goal

pub returns-in-Only : goal.returns-in-Only
unfolding is_of
returns-in-Only c = rw c.in-Only.is

pub returns-in-Not : goal.returns-in-Not
unfolding is_of
returns-in-Not c = rw c.in-Not.is

pub returns-in-NotFolded : goal.returns-in-NotFolded
unfolding is_of
returns-in-NotFolded c = rw (c.in-NotFolded.is, c.upper.ensures)

pub returns-then-b-a : goal.returns-then-b-a
unfolding is_of
returns-then-b-a c = rw (c.in-Either.is, eq-eqb _ _ c.if-b-a.true)

pub returns-else-b-a : goal.returns-else-b-a
unfolding is_of
returns-else-b-a c = rw (c.in-Either.is, ne_eqb _ _ c.if-b-a.false)

pub returns-then-b-a-2 : goal.returns-then-b-a-2
unfolding is_of
returns-then-b-a-2 c = rw (c.in-Neither.is, ne_eqb _ _ c.if-b-a-2.true)

pub returns-else-b-a-2 : goal.returns-else-b-a-2
unfolding is_of
returns-else-b-a-2 c = rw (c.in-Neither.is, eq-eqb _ _ c.if-b-a-2.false)
