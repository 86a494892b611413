use native.Mathlib.Omega.{arith}
use Rattle.lexer.proofs.Blanks.{comment-to}
use Rattle.lexer.proofs.spaces.skip_comment.Goals as goal

pub returns : goal.returns
returns c = record { place = comment-to _ _ _ c.past.ensures.0; within = omega arith }
