use native.Mathlib.Omega.{arith}
use Rattle.lexer.proofs.Parts.{string-to, string-found}
use Rattle.lexer.proofs.strings.string_end.Goals as goal

pub returns : goal.returns
returns c = let all = string-found _ _ _ _ (omega arith) (omega arith) (string-to _ _ _ _ c.past.ensures.0) in record { text = all.0; place = all.1.0; within = all.1.1 }
