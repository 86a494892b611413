-- `middle::next_line` meets its contract. The record found is found from its own place. Assumes nothing.
use mathlib.Core.Path.{sym}
use Rattle.journal.proofs.Here.{found-again}
use Rattle.middle.proofs.next_line.Goals as goal

pub at_middle-requires : goal.at_middle-requires
at_middle-requires c = found-again _ _ _ (sym c.in-Some.ensures)
