use mathlib.Core.Path.{sym}
use native.Mathlib.Omega.{arith}
use Rattle.lexer.proofs.AtPlace.{next-in, next-end}
use Rattle.lexer.proofs.bytes.next_byte.Goals as goal

pub returns-then-at-s : goal.returns-then-at-s
returns-then-at-s c = sym (next-in _ _ (omega arith))

pub returns-else-at-s : goal.returns-else-at-s
returns-else-at-s c = sym (next-end _ _ (omega arith))
