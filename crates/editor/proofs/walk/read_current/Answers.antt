use mathlib.Core.Path.{ap, ◌∙◌}
use Rattle.editor.specs.Shows.{raised}
use Rattle.editor.proofs.Walking.{line-at-eof, line-at-new, line-at-old}
use Rattle.editor.proofs.walk.read_current.Goals as goal
use Rattle.editor.proofs.walk.read_current.Goals.{then-at-j+else-j-at-eq43, else-at-j}

pub returns-then-j-at-eq43 : goal.returns-then-j-at-eq43
returns-then-j-at-eq43 c = λ b a h. c.read_to.ensures ∙ ap (raised _) (line-at-new b a h c.if-at-j.true c.if-j-at-eq43.true)

pub returns : goal.returns
returns c = λ b a h. c.read_to-2.ensures ∙ ap (raised _) (elim c.if-at-j.branch [ then-at-j+else-j-at-eq43 w ↦ line-at-old b a h w.if-at-j.true w.if-j-at-eq43.false | else-at-j w ↦ line-at-eof b a h w.if-at-j.false ])
