-- `run::decoded::stopped` meets its contract. Assumes nothing.
use Rattle.run.proofs.Going.{done-place, stop-place}
use Rattle.run.proofs.decoded.stopped.Goals as goal

pub returns-then-number-eq0 : goal.returns-then-number-eq0
returns-then-number-eq0 c = done-place _ _ _ _ c.if-number-eq0.true

pub returns : goal.returns
returns c = stop-place _ _ _ _ c.if-number-eq0.false
