use Rattle.editor.proofs.Parts.{handed}
use Rattle.editor.proofs.Shown.{went-by, stops-by}
use Rattle.seeks.proofs.Finding.{on-eof, on_line, on-stop}
use Rattle.seeks.proofs.look_on.Goals as goal

pub returns-then-ed : goal.returns-then-ed
returns-then-ed c =
    let g = c.go_on.ensures in
    record { keeps = g.keeps; long = g.long; looks = on-eof _ _ _ _ _ _ g.does _ (went-by _ c.in_ok-go_on.was) c.if-ed.true }

pub returns : goal.returns
returns c =
    let g = c.go_on.ensures in
    record { keeps = g.keeps; long = g.long; looks = on_line _ _ _ _ _ _ g.does _ (went-by _ c.in_ok-go_on.was) c.if-ed.false }

pub returns-in_err-go_on : goal.returns-in_err-go_on
returns-in_err-go_on c =
    let g = c.go_on.ensures in
    record { keeps = g.keeps; long = g.long; looks = rw (handed _ _ c.from_residual.ensures.1) (on-stop _ _ _ _ _ _ g.does _ _ (stops-by _ c.in_err-go_on.was)) }
