-- `seasons::measure::length_of` meets its contract. By the texts. Assumes nothing.
use mathlib.Core.Path.{◌∙◌}
use Rattle.seasons.proofs.Lengths.{length_two, length-old, length-new, length_none}
use Rattle.seasons.proofs.measure.length_of.Goals as goal

pub returns-in-Some-Some : goal.returns-in-Some-Some
returns-in-Some-Some c = let w = c.in-Some-Some in c.both_length.ensures ∙ length_two _ _ _ c.requires _ _ w.is-0 w.is-1

pub returns-in-Some-None : goal.returns-in-Some-None
returns-in-Some-None c = let w = c.in-Some-None in c.marked_length.ensures ∙ length-old _ _ _ c.requires _ w.is-0 w.is-1

pub returns-in-None-Some : goal.returns-in-None-Some
returns-in-None-Some c = let w = c.in-None-Some in c.marked_length-in-None-Some.ensures ∙ length-new _ _ _ c.requires _ w.is-0 w.is-1

pub returns-in-None-None : goal.returns-in-None-None
returns-in-None-None c = let w = c.in-None-None in length_none _ _ _ c.requires w.is-0 w.is-1
