use mathlib.Core.List.{[]}
use mathlib.Core.Path.{refl, ◌∙◌}
use Rattle.editor.proofs.Parts.{passed-on}
use Rattle.editor.proofs.Shown.{shown, went-by, stops-by}
use Rattle.commands.proofs.FirstRead.{join-eof, join-unread, join-shown, join-read}
use Rattle.commands.proofs.passing.join.Goals as goal

pub returns-then-ed : goal.returns-then-ed
returns-then-ed c = record { keeps = refl; long = refl; does = λ e x t s h. join-eof _ x e t h c.if-ed.true }

pub read_ahead-requires : goal.read_ahead-requires
read_ahead-requires c = (c.requires.0, c.if-ed.false)

pub returns-in_err-read_ahead : goal.returns-in_err-read_ahead
returns-in_err-read_ahead c =
    let r = c.read_ahead.ensures in
    record {
      keeps = r.keeps;
      long = r.long;
      does = λ e x t s h. rw (passed-on _ _ _ c.in_err-read_ahead.was c.from_residual.ensures.1) (join-unread _ x e t h c.if-ed.false _ (r.does e x t s h.shows) (stops-by _ c.in_err-read_ahead.was));
    }

pub join-requires : goal.join-requires
join-requires c =
    let r = c.read_ahead.ensures in
    let w = c.requires in
    (join-shown [] w.0.0 w.1.0 w.1.1 w.1.2 c.if-ed.false _ (r.does w.1.0 w.0.0 w.1.1 w.0.1 w.1.2.shows) (went-by _ c.in_ok-read_ahead.was), w.2)

pub returns : goal.returns
returns c =
    let r = c.read_ahead.ensures in
    let d = c.join.ensures in
    record {
      keeps = d.keeps ∙ r.keeps;
      long = d.long ∙ r.long;
      does = λ e x t s h. join-read _ x e t h c.if-ed.false _ (r.does e x t s h.shows) _ _ (went-by _ c.in_ok-read_ahead.was) r.long d.does;
    }
