use mathlib.Core.Path.{◌∙◌}
use Rattle.definitions.specs.Given.{no_globals}
use Rattle.editor.proofs.Parts.{handed}
use Rattle.editor.proofs.Shown.{went-by, stops-by}
use Rattle.spans.proofs.Wholes.{from_on, from-stop}
use Rattle.replacing.proofs.Whole.{replace-is}
use Rattle.replacing.proofs.replace_span.Goals as goal

pub returns-in_err-go_to : goal.returns-in_err-go_to
returns-in_err-go_to c =
    let m = c.go_to.ensures in
    record {
      keeps = m.keeps;
      long = m.long;
      does = λ e t h. rw (replace-is _ _ _ _ e no_globals t, handed _ _ c.from_residual.ensures.1) (from-stop no_globals _ _ _ e t _ _ (stops-by _ c.in_err-go_to.was) (m.does e t h));
    }

pub returns : goal.returns
returns c =
    let r = c.replace_here.ensures in
    let m = c.go_to.ensures in
    record {
      keeps = r.keeps ∙ m.keeps;
      long = r.long ∙ m.long;
      does = λ e t h. rw (replace-is _ _ _ _ e no_globals t) (from_on no_globals _ _ _ e t _ _ _ (went-by _ c.in_ok-go_to.was) (m.does e t h) m.long r.does);
    }
