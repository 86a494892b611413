use mathlib.Core.Path.{ap, ◌∙◌}
use lib.ListN.{length}
use Rattle.definitions.specs.Given.{no_globals}
use Rattle.editor.proofs.Parts.{handed}
use Rattle.editor.proofs.Shown.{shown, on-text}
use Rattle.spans.proofs.Founds.{ends-by, unfound-by}
use Rattle.spans.proofs.Wholes.{reached, reached-spanned, here-stop, delete-on}
use Rattle.spans.proofs.deleting.delete_here.Goals as goal

pub strike_span-ed-requires : goal.strike_span-ed-requires
strike_span-ed-requires c =
    let w = shown c.args.ed.now.shows in
    rw c.span_end.ensures.same (reached-spanned (reached _ (ends-by _ c.in_ok-end.was) (c.span_end.ensures.finds w.0 w.1 w.2)))

pub returns-in_err-end : goal.returns-in_err-end
returns-in_err-end c =
    let f = c.span_end.ensures in
    record {
      keeps = f.keeps;
      long = ap length f.same;
      does = λ e t h. rw (f.same, handed _ _ c.from_residual.ensures.1) (here-stop no_globals _ _ e t _ (unfound-by _ c.in_err-end.was) (f.finds e t h));
    }

pub invariant_of-ed : goal.invariant_of-ed
invariant_of-ed c =
    let f = c.span_end.ensures in
    let r = c.strike_span-ed in
    let w = shown c.args.ed.now.shows in
    record { shows = on-text _ (delete-on _ _ _ w.0 w.1 (r.auto.j ∙ ap length f.same) (reached _ (ends-by _ c.in_ok-end.was) (f.finds w.0 w.1 w.2)) (rw f.same at r.ensures)) }

pub returns : goal.returns
returns c =
    let f = c.span_end.ensures in
    let r = c.strike_span-ed in
    record {
      keeps = f.keeps;
      long = r.auto.j ∙ ap length f.same;
      does = λ e t h. delete-on _ _ _ e t (r.auto.j ∙ ap length f.same) (reached _ (ends-by _ c.in_ok-end.was) (f.finds e t h)) (rw f.same at r.ensures);
    }
