use Rattle.matching.proofs.Finding.{turned-match}
use Rattle.matching.proofs.matches_line.Goals as goal

pub returns : goal.returns
returns c = rw c.is_some.ensures (turned-match _ _ _ _ _ _ c.find.ensures)
