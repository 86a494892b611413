use native.Mathlib.Omega.{arith}
use Rattle.lexer.proofs.ThenElse.{else_is, else-other, else-passed}
use Rattle.lexer.proofs.words.skip_else.Goals as goal

pub returns-then-w-eq1162629957 : goal.returns-then-w-eq1162629957
returns-then-w-eq1162629957 c = (
  else_is _ _ _ _ _ c.skip_spaces-i.ensures.place c.name-w.ensures.read c.if-w-eq1162629957.true,
  else-passed _ _ _ _ _ c.skip_spaces-i.ensures.place c.name-w.ensures.read _ c.skip_spaces.ensures.place,
  omega arith,
  omega arith,
)

pub returns : goal.returns
returns c = else-other _ _ _ _ _ c.skip_spaces-i.ensures.place c.name-w.ensures.read c.if-w-eq1162629957.false
