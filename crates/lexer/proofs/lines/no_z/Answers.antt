use mathlib.Core.Path.{◌∙◌}
use Rattle.lexer.specs.Inserted.{no_z_at}
use Rattle.lexer.proofs.lines.no_z.Goals as goal
use Rattle.lexer.proofs.lines.no_z.Goals.{then-in_group, else-in_group}

pub returns : goal.returns
unfolding no_z_at
returns c =
    c.at.ensures ∙ elim c.if-in_group.branch [ then-in_group w ↦ rw (w.fault-is, w.if-in_group.true) | else-in_group w ↦ rw (w.fault-is, w.if-in_group.false) ]
