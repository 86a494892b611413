use mathlib.Core.Path.{ap, ◌∙◌}
use Rattle.control.specs.Shown.{look_by}
use Rattle.control.proofs.Looking.{in-search, look-shows}
use Rattle.control.proofs.Moving.{looks-as}
use Rattle.control.proofs.look.Goals as goal

pub kind_of-requires : goal.kind_of-requires
kind_of-requires c = let p = c.requires.0 in in-search p.0 _ p.1 _ _ _ p.2 p.3

pub place_of-requires : goal.place_of-requires
place_of-requires c = let p = c.requires.0 in in-search p.0 _ p.1 _ _ _ p.2 p.3

pub returns : goal.returns
returns c = ((λ s end from h. look-shows s _ end _ _ _ _ (c.look_of.ensures ∙ ap look_by c.kind_of.ensures) _ c.place_of.ensures from h), looks-as _ _ _ _ _ (c.look_of.ensures ∙ ap look_by c.kind_of.ensures) _ c.place_of.ensures)
