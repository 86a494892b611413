use native.Mathlib.Omega.{arith}
use Rattle.lexer.proofs.Blanks.{spaces-to}
use Rattle.lexer.proofs.spaces.skip_spaces.Goals as goal

pub returns : goal.returns
returns c = record { place = spaces-to _ _ _ c.past.ensures.0; within = omega arith }
