use mathlib.Core.Path.{◌∙◌}
use Rattle.editor.proofs.Parts.{passed-on}
use Rattle.editor.proofs.Shown.{shown, went-by, stops-by}
use Rattle.spans.proofs.ReadsAhead.{ahead-there, ahead-stop, ahead-on}
use Rattle.spans.proofs.ahead.go_ahead.Goals as goal

pub returns-in_err-read_ahead : goal.returns-in_err-read_ahead
returns-in_err-read_ahead c =
    let r = c.read_ahead.ensures in
    let more = c.requires.1 in
    record {
      keeps = r.keeps;
      long = r.long;
      does = λ e x t s h. rw (passed-on _ _ _ c.in_err-read_ahead.was c.from_residual.ensures.1) (ahead-stop x e t h more _ (stops-by _ c.in_err-read_ahead.was) (r.does e x t s h));
    }

pub go_ahead-requires : goal.go_ahead-requires
go_ahead-requires c =
    let r = c.read_ahead.ensures in
    let w = c.requires in
    let x = shown c.args.ed.now.shows in
    (ahead-there w.0.0 x.0 x.1 x.2 w.1 _ (went-by _ c.in_ok-read_ahead.was) (r.does x.0 w.0.0 x.1 w.0.1 x.2)).1

pub returns : goal.returns
returns c =
    let r = c.read_ahead.ensures in
    let g = c.go_ahead.ensures in
    let more = c.requires.1 in
    record {
      keeps = g.keeps ∙ r.keeps;
      long = g.long ∙ r.long;
      does = λ e x t s h. ahead-on x e t h more _ _ _ (went-by _ c.in_ok-read_ahead.was) (r.does e x t s h) r.long g.does;
    }
