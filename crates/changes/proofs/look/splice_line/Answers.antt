use Rattle.changes.proofs.Building.{splice-built}
use Rattle.changes.proofs.look.splice_line.Goals as goal

pub returns : goal.returns
returns c = splice-built _ _ _ _ _ _ c.requires.0 c.requires.1 c.requires.2 c.copy_in.ensures c.copy_in-2.ensures c.copy_in-3.ensures
