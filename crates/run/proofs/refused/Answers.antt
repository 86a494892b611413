-- `run::refused` meets its contract. Assumes nothing.
use Rattle.run.specs.Answers.{refused_by}
use Rattle.run.proofs.refused.Goals as goal

pub returns : goal.returns
unfolding refused_by
returns c = rw c.from.ensures
