use Rattle.editor.proofs.Moving.{move-by}
use Rattle.commands.proofs.passing.move_to.Goals as goal

pub returns : goal.returns
returns c =
    let g = c.go_to.ensures in
    record { keeps = g.keeps; long = g.long; does = λ e x t s h. move-by _ x e t _ _ _ (g.does e x t s h) }
