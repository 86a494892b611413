-- `patterns::bytes::is_next` meets its contract. Assumes nothing.
use mathlib.Core.Path.{sym}
use native.Mathlib.Omega.{arith}
use Rattle.patterns.proofs.Places.{none-next, is-next}
use Rattle.patterns.proofs.bytes.is_next.Goals as goal

pub returns-then-at-s : goal.returns-then-at-s
returns-then-at-s c = sym (is-next _ _ (omega arith) _)

pub returns-else-at-s : goal.returns-else-at-s
returns-else-at-s c = sym (none-next _ _ (omega arith) _ (omega arith))
