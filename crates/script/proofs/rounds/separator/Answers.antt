-- `script::rounds::separator` meets its contract. Assumes nothing.
use borrow.Author.Tests.{eq-eqb, ne_eqb}
use Rattle.script.specs.Placed.{separated}
use Rattle.script.proofs.rounds.separator.Goals as goal

pub returns-then-st-ne0 : goal.returns-then-st-ne0
unfolding separated
returns-then-st-ne0 c = rw (ne_eqb _ _ c.if-st-ne0.true, c.at.ensures)

pub returns : goal.returns
unfolding separated
returns c = rw (eq-eqb _ _ c.if-st-ne0.false)
