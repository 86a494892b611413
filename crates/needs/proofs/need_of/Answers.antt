-- `needs::need_of` meets its contract. Assumes nothing.
use Rattle.needs.proofs.Whole.{whole-there, whole-needs}
use Rattle.needs.proofs.need_of.Goals as goal

pub alternatives-whole-requires : goal.alternatives-whole-requires
alternatives-whole-requires c = whole-there c.args.pattern.now c.requires.0 c.requires.1

pub returns : goal.returns
returns c = whole-needs c.args.pattern.now c.alternatives-whole.ensures
