use native.Mathlib.Omega.{arith}
use Rattle.control.proofs.Pulling.{among-items, pulls-items, in_search, passed-lines, pulls-look}
use Rattle.control.proofs.pull.Goals as goal

pub pull_items-requires : goal.pull_items-requires
pull_items-requires c = let p = c.requires.0 in (p.0, p.1, among-items _ _ c.in-Items.is p.0 _ _ p.1 p.2)

pub returns-in-Items : goal.returns-in-Items
returns-in-Items c = pulls-items _ _ c.in-Items.is _ _ _ _ c.pull_items.ensures

pub look-requires : goal.look-requires
look-requires c = let p = c.requires.0 in ((p.0, _, p.1, in_search _ _ _ _ c.in-Seeking.is p.0 _ _ p.1 p.2), omega (arith, c.requires.1, passed-lines _ _ _ _ c.in-Seeking.is))

pub returns-in-Seeking : goal.returns-in-Seeking
returns-in-Seeking c = pulls-look _ _ _ _ c.in-Seeking.is _ _ _ c.look.ensures
