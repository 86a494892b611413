use Rattle.matching.proofs.Writing.{first-written}
use Rattle.matching.proofs.search.first_word.Goals as goal

pub returns : goal.returns
returns c = first-written _ _ _ c.flags_of.ensures.0
