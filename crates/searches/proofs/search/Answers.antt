-- `searches::search` meets its contract. Assumes nothing.
use Rattle.searches.proofs.Parts.{whole-search}
use Rattle.searches.proofs.search.Goals as goal

pub returns : goal.returns
returns c = whole-search c.args.s.now c.args.at _ _ _ _ c.part.ensures
