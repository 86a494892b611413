use mathlib.Core.List.{◌∷◌}
use mathlib.Core.Path.{refl, ◌∙◌}
use Rattle.definitions.specs.Editor.{before_of, after_of, land}
use Rattle.editor.specs.Shows.{lent}
use Rattle.editor.proofs.Walking.{passable}
use Rattle.editor.proofs.Moving.{ahead-on}
use Rattle.editor.proofs.Shown.{shown, went-text}
use Rattle.editor.proofs.Editor.go_ahead.Goals as goal

pub pass_record-s-requires : goal.pass_record-s-requires
pass_record-s-requires c = passable (shown c.args.self.now.shows).2.holds c.requires

pub land_live-l-requires : goal.land_live-l-requires
land_live-l-requires c =
    let w = passable (shown c.args.self.now.shows).2.holds c.requires in
    (w.1 ∷ w.0, w.2, c.pass_record-s.ensures.0 w.0 w.1 w.2 w.3)

pub read_current-self-requires : goal.read_current-self-requires
read_current-self-requires c =
    let w = passable (shown c.args.self.now.shows).2.holds c.requires in
    let h = c.pass_record-s.ensures.0 w.0 w.1 w.2 w.3 in
    (before_of (land (w.1 ∷ w.0) w.2), after_of (land (w.1 ∷ w.0) w.2), c.land_live-l.ensures.0 (w.1 ∷ w.0) w.2 h)

pub invariant_of-self : goal.invariant_of-self
invariant_of-self c =
    let w = shown c.args.self.now.shows in
    record { shows = went-text _ (ahead-on (lent c.args.self.now.journal.now) w.0 w.1 w.2 c.requires c.pass_record-s.ensures c.land_live-l.ensures c.read_current-self.ensures) }

pub returns : goal.returns
returns c = record {
  keeps = refl;
  long = c.land_live-l.auto.j ∙ c.pass_record-s.auto.j;
  does = λ e t h. ahead-on _ e t h c.requires c.pass_record-s.ensures c.land_live-l.ensures c.read_current-self.ensures;
}
