use Rattle.taking.proofs.Leaves.{settles-not, settles}
use Rattle.taking.proofs.is_settled.Goals as goal

pub returns-then-last : goal.returns-then-last
returns-then-last c = settles-not _ _ c.if-last.true

pub returns : goal.returns
returns c = settles _ _ c.if-last.false
