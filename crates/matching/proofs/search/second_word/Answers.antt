use Rattle.matching.proofs.Writing.{second-written}
use Rattle.matching.proofs.search.second_word.Goals as goal

pub returns : goal.returns
returns c = second-written _ _
