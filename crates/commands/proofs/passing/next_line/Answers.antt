use mathlib.Core.Path.{refl}
use Rattle.editor.proofs.Moving.{next-eof, next-on}
use Rattle.commands.proofs.passing.next_line.Goals as goal

pub returns-then-ed : goal.returns-then-ed
returns-then-ed c = record { keeps = refl; long = refl; does = λ e x t s h. next-eof _ x e t h c.if-ed.true }

pub returns : goal.returns
returns c =
    let g = c.go_ahead.ensures in
    record { keeps = g.keeps; long = g.long; does = λ e x t s h. next-on _ x e t _ _ h c.if-ed.false (g.does e x t s h) }
