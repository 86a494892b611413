use mathlib.Core.Path.{refl}
use native.Mathlib.Omega.{arith}
use Rattle.text.proofs.Parts.{part_length}
use Rattle.wordset.specs.Sets.{in_set}
use Rattle.changes.specs.Current.{sought}
use Rattle.editor.proofs.Parts.{handed}
use Rattle.changes.proofs.Commands.{has-match, alter-stop, alter-found}
use Rattle.changes.proofs.alter.Goals as goal

pub match_here-requires : goal.match_here-requires
match_here-requires c = let w = c.requires in
    (w.0, w.1, w.2.first, w.2.inside, w.3, w.4)

pub alter_at-requires : goal.alter_at-requires
alter_at-requires c = let w = c.requires.2 in
    (has-match (in_set c.args.set.now 0) (sought c.args.q c.args.script.now c.args.from c.args.to) _ c.match_here.ensures _ _ c.in_ok-i.was c.requires.1, omega (arith, part_length c.args.script.now c.args.start c.args.end w.within, w.short), w.text)

pub returns-in_err-i : goal.returns-in_err-i
returns-in_err-i c = record {
  keeps = refl;
  long = refl;
  does = rw (handed _ _ c.from_residual.ensures.1) (alter-stop (in_set c.args.set.now 0) (sought c.args.q c.args.script.now c.args.from c.args.to) _ c.match_here.ensures _ _ _ _ c.in_err-i.was);
}

pub returns : goal.returns
returns c = record {
  keeps = c.alter_at.ensures.keeps;
  long = c.alter_at.ensures.long;
  does = alter-found (in_set c.args.set.now 0) (sought c.args.q c.args.script.now c.args.from c.args.to) _ c.match_here.ensures _ _ c.in_ok-i.was _ _ _ _ _ c.alter_at.ensures.does;
}
