use mathlib.Core.Path.{refl}
use Rattle.editor.proofs.Moving.{next-eof, next-on}
use Rattle.editor.proofs.Editor.next_line.Goals as goal

pub returns-then-self : goal.returns-then-self
returns-then-self c = record { keeps = refl; long = refl; does = λ e t h. next-eof _ _ e t h c.if-self.true }

pub returns : goal.returns
returns c = record { keeps = c.go_ahead.ensures.keeps; long = c.go_ahead.ensures.long; does = λ e t h. next-on _ _ e t _ _ h c.if-self.false (c.go_ahead.ensures.does e t h) }
