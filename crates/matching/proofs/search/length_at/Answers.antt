use mathlib.Core.Path.{refl}
use Rattle.matching.specs.Words.{length_at}
use Rattle.matching.proofs.search.length_at.Goals as goal

pub returns : goal.returns
unfolding length_at
returns c = refl
