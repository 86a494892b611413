use Rattle.editor.proofs.Parts.{handed}
use Rattle.editor.proofs.Shown.{went-by, stops-by}
use Rattle.seeks.proofs.Finding.{look-back-line, look-back-stop}
use Rattle.seeks.proofs.look_back.Goals as goal

pub returns : goal.returns
returns c =
    let m = c.go_back.ensures in
    record { keeps = m.keeps; long = m.long; looks = λ e x t h. look-back-line _ _ _ _ e x t (m.does x e t h) (went-by _ c.in_ok-go_back.was) }

pub returns-in_err-go_back : goal.returns-in_err-go_back
returns-in_err-go_back c =
    let m = c.go_back.ensures in
    record { keeps = m.keeps; long = m.long; looks = λ e x t h. rw (handed _ _ c.from_residual.ensures.1) (look-back-stop _ _ _ _ e x t (m.does x e t h) _ (stops-by _ c.in_err-go_back.was)) }
