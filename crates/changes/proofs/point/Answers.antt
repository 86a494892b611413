use mathlib.Core.Path.{refl}
use Rattle.wordset.specs.Sets.{in_set}
use Rattle.changes.specs.Current.{sought}
use Rattle.editor.proofs.Shown.{point-text}
use Rattle.editor.proofs.Parts.{handed}
use Rattle.changes.proofs.Commands.{has-match, has_short, point-stop, point-found}
use Rattle.changes.proofs.point.Goals as goal

pub point_by-ed-requires : goal.point_by-ed-requires
point_by-ed-requires c = has_short (has-match (in_set c.args.set.now 0) (sought c.args.q c.args.script.now c.args.from c.args.to) _ c.match_here.ensures _ _ c.in_ok-i.was c.requires.1)

pub returns-in_err-i : goal.returns-in_err-i
returns-in_err-i c = record {
  keeps = refl;
  long = refl;
  does = (refl, rw (handed _ _ c.from_residual.ensures.1) (point-stop (in_set c.args.set.now 0) (sought c.args.q c.args.script.now c.args.from c.args.to) _ c.match_here.ensures _ _ c.in_err-i.was));
}

pub invariant_of-ed : goal.invariant_of-ed
invariant_of-ed c = record { shows = point-text _ c.args.ed.now.shows }

pub returns : goal.returns
returns c = record {
  keeps = refl;
  long = refl;
  does = (refl, point-found (in_set c.args.set.now 0) (sought c.args.q c.args.script.now c.args.from c.args.to) _ c.match_here.ensures _ _ c.in_ok-i.was _ _ _ c.point_by-ed.ensures refl);
}
