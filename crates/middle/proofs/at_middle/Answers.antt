-- `middle::at_middle` meets its contract. The record found is found from its own place. Assumes nothing.
use mathlib.Core.Path.{sym}
use Rattle.journal.proofs.Here.{found-again}
use Rattle.middle.proofs.at_middle.Goals as goal

pub met_by-requires : goal.met_by-requires
met_by-requires c = (c.requires, found-again _ _ _ (sym c.in-Some.ensures))
