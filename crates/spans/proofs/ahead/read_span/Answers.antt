use mathlib.Core.Path.{◌∙◌, ap}
use lib.ListN.{length}
use Rattle.editor.proofs.Parts.{passed-on, handed}
use Rattle.editor.proofs.Shown.{shown, went-by, stops-by}
use Rattle.spans.proofs.Founds.{ends-by, unfound-by}
use Rattle.spans.proofs.ReadsAhead.{span-unread, span-unfound, span-there, span-read}
use Rattle.spans.proofs.ahead.read_span.Goals as goal

pub returns-in_err-read_through : goal.returns-in_err-read_through
returns-in_err-read_through c =
    let r = c.read_through.ensures in
    record {
      keeps = r.keeps;
      long = r.long;
      does = λ e x t s h. rw (passed-on _ _ _ c.in_err-read_through.was c.from_residual.ensures.1) (span-unread _ x _ e t _ (stops-by _ c.in_err-read_through.was) (r.does e x t s h));
    }

pub read_after-requires : goal.read_after-requires
read_after-requires c =
    let w = c.requires in
    let x = shown c.args.ed.now.shows in
    let r = c.read_through.ensures in
    (w, rw c.span_end.ensures.same (span-there _ w.0 _ x.0 x.1 (went-by _ c.in_ok-read_through.was) (r.does x.0 w.0 x.1 w.1 x.2) r.long c.span_end.ensures.finds (ends-by _ c.in_ok-end.was)))

pub returns-in_err-end : goal.returns-in_err-end
returns-in_err-end c =
    let r = c.read_through.ensures in
    let f = c.span_end.ensures in
    record {
      keeps = f.keeps ∙ r.keeps;
      long = ap length f.same ∙ r.long;
      does = λ e x t s h. rw (f.same, handed _ _ c.from_residual-in_err-end.ensures.1) (span-unfound _ x _ e t (went-by _ c.in_ok-read_through.was) (r.does e x t s h) r.long f.finds (unfound-by _ c.in_err-end.was));
    }

pub returns : goal.returns
returns c =
    let r = c.read_through.ensures in
    let f = c.span_end.ensures in
    let a = c.read_after.ensures in
    record {
      keeps = a.keeps ∙ f.keeps ∙ r.keeps;
      long = a.long ∙ ap length f.same ∙ r.long;
      does = λ e x t s h. span-read _ x _ e t (went-by _ c.in_ok-read_through.was) (r.does e x t s h) r.long f.finds (ends-by _ c.in_ok-end.was) _ _ (λ y u i v w. (rw f.same at a.does) y x u i s v w);
    }
