-- `script::commands::plain_kind` meets its contract. Assumes nothing.
use Rattle.script.specs.Commands.{plain_kind}
use native.Mathlib.Omega.{arith}
use Rattle.script.proofs.commands.plain_kind.Goals as goal

pub returns-in-Quit : goal.returns-in-Quit
unfolding plain_kind
returns-in-Quit c = (rw c.in-Quit.is, omega arith)

pub returns-in-Next : goal.returns-in-Next
unfolding plain_kind
returns-in-Next c = (rw c.in-Next.is, omega arith)

pub returns-in-Previous : goal.returns-in-Previous
unfolding plain_kind
returns-in-Previous c = (rw c.in-Previous.is, omega arith)

pub returns-in-Copy : goal.returns-in-Copy
unfolding plain_kind
returns-in-Copy c = (rw c.in-Copy.is, omega arith)

pub returns-in-PointStart : goal.returns-in-PointStart
unfolding plain_kind
returns-in-PointStart c = (rw c.in-PointStart.is, omega arith)

pub returns-in-Right : goal.returns-in-Right
unfolding plain_kind
returns-in-Right c = (rw c.in-Right.is, omega arith)

pub returns-in-Left : goal.returns-in-Left
unfolding plain_kind
returns-in-Left c = (rw c.in-Left.is, omega arith)

pub returns-in-CutByte : goal.returns-in-CutByte
unfolding plain_kind
returns-in-CutByte c = (rw c.in-CutByte.is, omega arith)

pub returns-in-Lower : goal.returns-in-Lower
unfolding plain_kind
returns-in-Lower c = (rw c.in-Lower.is, omega arith)

pub returns-in-Upper : goal.returns-in-Upper
unfolding plain_kind
returns-in-Upper c = (rw c.in-Upper.is, omega arith)

pub returns-in-Cancel : goal.returns-in-Cancel
unfolding plain_kind
returns-in-Cancel c = (rw c.in-Cancel.is, omega arith)
