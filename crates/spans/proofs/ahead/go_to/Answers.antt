use mathlib.Core.Path.{◌∙◌}
use Rattle.editor.proofs.Parts.{passed-on}
use Rattle.editor.proofs.Shown.{went-by, stops-by}
use Rattle.spans.proofs.ReadsAhead.{target-stop, target-on}
use Rattle.spans.proofs.ahead.go_to.Goals as goal

pub returns-in_err-read_target : goal.returns-in_err-read_target
returns-in_err-read_target c =
    let r = c.read_target.ensures in
    record {
      keeps = r.keeps;
      long = r.long;
      does = λ e x t s h. rw (passed-on _ _ _ c.in_err-read_target.was c.from_residual.ensures.1) (target-stop _ x _ e t _ (stops-by _ c.in_err-read_target.was) (r.does e x t s h));
    }

pub returns : goal.returns
returns c =
    let r = c.read_target.ensures in
    let g = c.go_to.ensures in
    record {
      keeps = g.keeps ∙ r.keeps;
      long = g.long ∙ r.long;
      does = λ e x t s h. target-on _ x _ e t _ _ (went-by _ c.in_ok-read_target.was) (r.does e x t s h) r.long g.does;
    }
