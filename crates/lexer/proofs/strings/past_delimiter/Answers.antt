use native.Mathlib.Omega.{arith}
use Rattle.lexer.proofs.Parts.{past-closed, past_open, past_end}
use Rattle.lexer.proofs.strings.past_delimiter.Goals as goal

pub returns-then-s-at : goal.returns-then-s-at
returns-then-s-at c = record { place = past-closed _ _ _ (omega arith) c.if-s-at.true; within = omega arith }

pub returns-else-s-at : goal.returns-else-s-at
returns-else-s-at c = record { place = past_open _ _ _ (omega arith) c.if-s-at.false; within = omega arith }

pub returns-else-at-s : goal.returns-else-at-s
returns-else-at-s c = record { place = past_end _ _ _ (omega arith); within = omega arith }
