use mathlib.Core.Path.{◌∙◌}
use Rattle.editor.proofs.Parts.{passed-on}
use Rattle.editor.proofs.Shown.{shown, went-by, stops-by}
use Rattle.commands.proofs.FirstRead.{here-unread, here-read}
use Rattle.commands.proofs.passing.delete_here.Goals as goal

pub returns-in_err-read_span : goal.returns-in_err-read_span
returns-in_err-read_span c =
    let r = c.read_span.ensures in
    record {
      keeps = r.keeps;
      long = r.long;
      does = λ e x t s h. rw (passed-on _ _ _ c.in_err-read_span.was c.from_residual.ensures.1) (here-unread x _ _ e t _ _ (stops-by _ c.in_err-read_span.was) (r.does e x t s h));
    }

pub returns : goal.returns
returns c =
    let r = c.read_span.ensures in
    let d = c.delete_here.ensures in
    record {
      keeps = d.keeps ∙ r.keeps;
      long = d.long ∙ r.long;
      does = λ e x t s h. here-read x _ _ e t _ _ _ (went-by _ c.in_ok-read_span.was) (r.does e x t s h) r.long d.does;
    }
