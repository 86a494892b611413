use native.Mathlib.Omega.{arith}
use Rattle.lexer.proofs.AtPlace.{expect-is, expect-other, expect-end}
use Rattle.lexer.proofs.bytes.expect.Goals as goal
use Rattle.lexer.proofs.bytes.expect.Goals.{then-at-s+else-s-at, else-at-s}

pub returns-then-s-at : goal.returns-then-s-at
returns-then-s-at c = (expect-is _ _ _ (omega arith) c.if-s-at.true, omega arith, omega arith)

pub returns : goal.returns
returns c =
    rw c.at.ensures
    (elim c.if-at-s.branch [
      | then-at-s+else-s-at w ↦ expect-other _ _ _ (omega arith) w.if-s-at.false
      | else-at-s w ↦ expect-end _ _ _ (omega arith) (omega arith)
    ])
