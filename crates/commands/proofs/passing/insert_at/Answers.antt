use mathlib.Core.Path.{◌∙◌}
use Rattle.editor.proofs.Parts.{passed-on}
use Rattle.editor.proofs.Shown.{shown, went-by, stops-by}
use Rattle.inserts.proofs.Codes.{spot-none}
use Rattle.inserts.proofs.Places.{insert-none, insert-stop, insert-then}
use Rattle.commands.proofs.passing.insert_at.Goals as goal

pub returns-then-spot-eq0 : goal.returns-then-spot-eq0
returns-then-spot-eq0 c =
    let i = c.insert_lines.ensures in
    record { keeps = i.keeps; long = i.long; does = λ e x t s h. insert-none _ _ e x t _ _ _ (spot-none _ c.if-spot-eq0.true) (i.does x e t h) }

pub returns-in_err-go_to : goal.returns-in_err-go_to
returns-in_err-go_to c =
    let m = c.go_to.ensures in
    record {
      keeps = m.keeps;
      long = m.long;
      does = λ e x t s h. rw (passed-on _ _ _ c.in_err-go_to.was c.from_residual.ensures.1) (insert-stop x _ e t _ _ c.if-spot-eq0.false _ _ (stops-by _ c.in_err-go_to.was) (m.does e x t s h));
    }

pub returns : goal.returns
returns c =
    let m = c.go_to.ensures in
    let i = c.insert_lines-2.ensures in
    record {
      keeps = i.keeps ∙ m.keeps;
      long = i.long ∙ m.long;
      does = λ e x t s h. insert-then x _ e t _ _ c.if-spot-eq0.false _ _ (went-by _ c.in_ok-go_to.was) (m.does e x t s h) m.long i.does;
    }
