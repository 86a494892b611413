use mathlib.Core.Path.{◌∙◌}
use Rattle.editor.proofs.Parts.{passed-on}
use Rattle.editor.proofs.Shown.{shown, went-by, stops-by}
use Rattle.spans.proofs.Wholes.{from_on, delete-is}
use Rattle.commands.proofs.FirstRead.{from-unmoved}
use Rattle.commands.proofs.passing.delete_span.Goals as goal

pub returns-in_err-go_to : goal.returns-in_err-go_to
returns-in_err-go_to c =
    let r = c.go_to.ensures in
    record {
      keeps = r.keeps;
      long = r.long;
      does = λ e x t s h. rw (delete-is _ _ _ e x t, passed-on _ _ _ c.in_err-go_to.was c.from_residual.ensures.1) (from-unmoved x _ _ _ e t _ _ (stops-by _ c.in_err-go_to.was) (r.does e x t s h));
    }

pub returns : goal.returns
returns c =
    let r = c.go_to.ensures in
    let d = c.delete_here.ensures in
    record {
      keeps = d.keeps ∙ r.keeps;
      long = d.long ∙ r.long;
      does = λ e x t s h. rw (delete-is _ _ _ e x t) (from_on x _ _ _ e t _ _ _ (went-by _ c.in_ok-go_to.was) (r.does e x t s h) r.long (λ y u v. d.does y x u s v));
    }
