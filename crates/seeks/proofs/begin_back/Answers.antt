use mathlib.Core.Path.{refl}
use Rattle.editor.proofs.Parts.{handed}
use Rattle.editor.proofs.Shown.{went-by, stops-by}
use Rattle.seeks.proofs.Tests.{begin-back-line, begin-back-on, begin-back-stop}
use Rattle.seeks.proofs.begin_back.Goals as goal

pub returns-then-ed : goal.returns-then-ed
returns-then-ed c = record { keeps = refl; long = refl; looks = begin-back-line _ c.if-ed.true }

pub returns : goal.returns
returns c =
    let m = c.go_back.ensures in
    record { keeps = m.keeps; long = m.long; looks = λ e x t h. begin-back-on _ _ _ c.if-ed.false _ (went-by _ c.in_ok-go_back.was) e x t h (m.does x e t h) }

pub returns-in_err-go_back : goal.returns-in_err-go_back
returns-in_err-go_back c =
    let m = c.go_back.ensures in
    record { keeps = m.keeps; long = m.long; looks = λ e x t h. rw (handed _ _ c.from_residual.ensures.1) (begin-back-stop _ _ _ c.if-ed.false _ _ (stops-by _ c.in_err-go_back.was) e x t h (m.does x e t h)) }
