-- `script::rounds::script_end` meets its contract. Assumes nothing.
use borrow.Author.Tests.{eq-eqb, ne_eqb}
use Rattle.script.specs.Placed.{ended}
use Rattle.script.proofs.rounds.script_end.Goals as goal

pub returns-then-st-ne0 : goal.returns-then-st-ne0
unfolding ended
returns-then-st-ne0 c = rw (ne_eqb _ _ c.if-st-ne0.true, c.at.ensures)

pub returns-then-st-ne0-2 : goal.returns-then-st-ne0-2
unfolding ended
returns-then-st-ne0-2 c = rw (eq-eqb _ _ c.if-st-ne0.false, ne_eqb _ _ c.if-st-ne0-2.true, c.at-then-st-ne0-2.ensures)

pub returns : goal.returns
unfolding ended
returns c = rw (eq-eqb _ _ c.if-st-ne0.false, eq-eqb _ _ c.if-st-ne0-2.false)
