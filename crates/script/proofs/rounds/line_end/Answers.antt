-- `script::rounds::line_end` meets its contract. Assumes nothing.
use Rattle.script.proofs.OneRound.{separator-missing, line-inside, line-outside}
use Rattle.script.proofs.rounds.line_end.Goals as goal

pub returns-then-st-ne0 : goal.returns-then-st-ne0
returns-then-st-ne0 c = λ s acc h less. rw c.at.ensures (separator-missing s _ _ _ acc h c.if-st-ne0.true _ _)

pub returns-then-st-ne0-2 : goal.returns-then-st-ne0-2
returns-then-st-ne0-2 c = λ s acc h less. line-inside s _ _ _ acc h c.if-st-ne0.false c.if-st-ne0-2.true less

pub returns : goal.returns
returns c = λ s acc h less. line-outside s _ _ _ acc h c.if-st-ne0.false c.if-st-ne0-2.false less
