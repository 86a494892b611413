use Rattle.editor.proofs.Moving.{move-by}
use Rattle.editor.proofs.Editor.move_to.Goals as goal

pub returns : goal.returns
returns c = record { keeps = c.go_to.ensures.keeps; long = c.go_to.ensures.long; does = λ e t h. move-by _ _ e t _ _ _ (c.go_to.ensures.does e t h) }
