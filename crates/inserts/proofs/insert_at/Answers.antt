use mathlib.Core.Path.{◌∙◌}
use Rattle.definitions.specs.Given.{no_globals}
use Rattle.inserts.proofs.Codes.{spot-none}
use Rattle.editor.proofs.Parts.{passed-on}
use Rattle.editor.proofs.Shown.{went-by, stops-by}
use Rattle.inserts.proofs.Places.{insert-none, insert-stop, insert-then}
use Rattle.inserts.proofs.insert_at.Goals as goal

pub returns-then-spot-eq0 : goal.returns-then-spot-eq0
returns-then-spot-eq0 c = record {
  keeps = c.insert_lines.ensures.keeps;
  long = c.insert_lines.ensures.long;
  does = λ e t h. insert-none _ _ e no_globals t _ _ _ (spot-none _ c.if-spot-eq0.true) (c.insert_lines.ensures.does no_globals e t h);
}

pub returns-in_err-go_to : goal.returns-in_err-go_to
returns-in_err-go_to c =
    let m = c.go_to in
    record {
      keeps = m.ensures.keeps;
      long = m.ensures.long;
      does = λ e t h. rw (passed-on _ _ _ c.in_err-go_to.was c.from_residual.ensures.1) (insert-stop no_globals _ e t _ _ c.if-spot-eq0.false _ _ (stops-by _ c.in_err-go_to.was) (m.ensures.does e t h));
    }

pub returns : goal.returns
returns c =
    let m = c.go_to in
    let i = c.insert_lines-2 in
    record {
      keeps = i.ensures.keeps ∙ m.ensures.keeps;
      long = i.ensures.long ∙ m.ensures.long;
      does = λ e t h. insert-then no_globals _ e t _ _ c.if-spot-eq0.false _ _ (went-by _ c.in_ok-go_to.was) (m.ensures.does e t h) m.ensures.long i.ensures.does;
    }
