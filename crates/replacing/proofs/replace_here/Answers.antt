use mathlib.Core.Path.{ap, ◌∙◌}
use lib.ListN.{length}
use Rattle.definitions.specs.Given.{no_globals}
use Rattle.editor.proofs.Parts.{handed}
use Rattle.editor.proofs.Shown.{shown}
use Rattle.spans.proofs.Founds.{ends-by, unfound-by}
use Rattle.spans.proofs.Wholes.{reached, reached-spanned, here-stop}
use Rattle.replacing.proofs.Whole.{replace-here}
use Rattle.replacing.proofs.replace_here.Goals as goal

pub replace_to-requires : goal.replace_to-requires
replace_to-requires c =
    let f = c.span_end.ensures in
    let w = shown c.args.ed.now.shows in
    (rw f.same (reached-spanned (reached _ (ends-by _ c.in_ok-to.was) (f.finds w.0 w.1 w.2))), c.requires)

pub returns-in_err-to : goal.returns-in_err-to
returns-in_err-to c =
    let f = c.span_end.ensures in
    record {
      keeps = f.keeps;
      long = ap length f.same;
      does = λ e t h. rw (f.same, handed _ _ c.from_residual.ensures.1) (here-stop no_globals _ _ e t _ (unfound-by _ c.in_err-to.was) (f.finds e t h));
    }

pub returns : goal.returns
returns c =
    let f = c.span_end.ensures in
    let r = c.replace_to.ensures in
    record {
      keeps = r.keeps ∙ f.keeps;
      long = r.long ∙ ap length f.same;
      does = λ e t h. replace-here _ _ _ _ e t (reached _ (ends-by _ c.in_ok-to.was) (f.finds e t h)) (rw f.same at r.does);
    }
