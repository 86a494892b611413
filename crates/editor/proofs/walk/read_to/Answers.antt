use native.Mathlib.Omega.{arith}
use Rattle.editor.proofs.Walking.{raised_by}
use Rattle.editor.proofs.walk.read_to.Goals as goal
use Rattle.editor.proofs.walk.read_to.Goals.{then-a-to, else-a-to}

pub returns-then-st-to : goal.returns-then-st-to
returns-then-st-to c = raised_by _ _ _ (elim c.if-a-to.branch [ then-a-to w ↦ omega arith | else-a-to w ↦ omega arith ])

pub returns-else-st-to : goal.returns-else-st-to
returns-else-st-to c = raised_by _ _ _ (elim c.if-a-to.branch [ then-a-to w ↦ omega arith | else-a-to w ↦ omega arith ])
