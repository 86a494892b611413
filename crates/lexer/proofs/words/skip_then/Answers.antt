use native.Mathlib.Omega.{arith}
use Rattle.lexer.proofs.ThenElse.{then_is, then-other}
use Rattle.lexer.proofs.words.skip_then.Goals as goal

pub returns-then-w-eq1414022478 : goal.returns-then-w-eq1414022478
returns-then-w-eq1414022478 c = record { place = then_is _ _ _ _ _ c.skip_spaces-i.ensures.place c.name-w.ensures.read c.if-w-eq1414022478.true; within = omega arith }

pub returns-else-w-eq1414022478 : goal.returns-else-w-eq1414022478
returns-else-w-eq1414022478 c = record { place = then-other _ _ _ _ _ c.skip_spaces-i.ensures.place c.name-w.ensures.read c.if-w-eq1414022478.false; within = omega arith }
