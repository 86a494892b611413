use Rattle.editor.proofs.Moving.{previous-by}
use Rattle.editor.proofs.Editor.previous_line.Goals as goal

pub returns : goal.returns
returns c = record { keeps = c.go_back.ensures.keeps; long = c.go_back.ensures.long; does = λ x e t h. previous-by _ x e t _ _ (c.go_back.ensures.does x e t h) }
