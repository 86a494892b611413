-- `cases::buffers::all_are` meets its contract. Assumes nothing.
use Rattle.cases.proofs.Same.{all-reach}
use Rattle.cases.proofs.buffers.all_are.Goals as goal

pub returns : goal.returns
returns c = all-reach _ _ _ c.past_long.ensures.0
