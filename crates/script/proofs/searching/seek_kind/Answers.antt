-- `script::searching::seek_kind` meets its contract. Assumes nothing.
use Rattle.lexer.specs.Shapes.{seek_of}
use Rattle.items.specs.Kinds.{seek_kind}
use native.Mathlib.Omega.{arith}
use Rattle.script.proofs.searching.seek_kind.Goals as goal

pub returns-in-Forward : goal.returns-in-Forward
unfolding seek_kind seek_of
returns-in-Forward c = (rw c.in-Forward.is, omega arith)

pub returns-in-Backward : goal.returns-in-Backward
unfolding seek_kind seek_of
returns-in-Backward c = (rw c.in-Backward.is, omega arith)

pub returns-in-Deleting : goal.returns-in-Deleting
unfolding seek_kind seek_of
returns-in-Deleting c = (rw c.in-Deleting.is, omega arith)
