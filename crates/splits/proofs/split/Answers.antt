use mathlib.Core.Path.{refl}
use Rattle.wordset.specs.Sets.{in_set}
use Rattle.changes.specs.Current.{sought}
use Rattle.editor.proofs.Parts.{handed}
use Rattle.changes.proofs.Commands.{has-match, has_short}
use Rattle.splits.proofs.Splitting.{split-stop, has-cut, split-found}
use Rattle.splits.proofs.split.Goals as goal

pub point_by-requires : goal.point_by-requires
point_by-requires c =
    has_short (has-match (in_set c.args.set.now 0) (sought c.args.q c.args.script.now c.args.from c.args.to) _ c.match_here.ensures _ _ c.in_ok-i.was c.requires.1)

pub cut_here-requires : goal.cut_here-requires
cut_here-requires c =
    has-cut (in_set c.args.set.now 0) (sought c.args.q c.args.script.now c.args.from c.args.to) _ c.match_here.ensures _ _ _ c.in_ok-i.was _ c.point_by.ensures c.requires.1

pub returns-in_err-i : goal.returns-in_err-i
returns-in_err-i c =
    record { keeps = refl; long = refl; does = rw (handed _ _ c.from_residual.ensures.1) (split-stop (in_set c.args.set.now 0) (sought c.args.q c.args.script.now c.args.from c.args.to) _ c.match_here.ensures _ _ c.in_err-i.was) }

pub returns : goal.returns
returns c =
    record {
      keeps = c.cut_here.ensures.keeps;
      long = c.cut_here.ensures.long;
      does = split-found (in_set c.args.set.now 0) (sought c.args.q c.args.script.now c.args.from c.args.to) _ c.match_here.ensures _ _ _ c.in_ok-i.was _ c.point_by.ensures _ _ c.cut_here.ensures.does;
    }
