-- `script::searching::branch_kind` meets its contract. Assumes nothing.
use Rattle.items.specs.Kinds.{branch_kind}
use native.Mathlib.Omega.{arith}
use Rattle.script.proofs.searching.branch_kind.Goals as goal

pub returns-then-holds : goal.returns-then-holds
unfolding branch_kind
returns-then-holds c = (rw c.if-holds.true, omega arith)

pub returns-else-holds : goal.returns-else-holds
unfolding branch_kind
returns-else-holds c = (rw c.if-holds.false, omega arith)
