-- `patterns::range_end` meets its contract. Assumes nothing.
use mathlib.Core.Path.{sym, ◌∙◌}
use native.Mathlib.Omega.{arith}
use Rattle.patterns.proofs.Characters.{range_none, range-is, range_other}
use Rattle.patterns.proofs.range_end.Goals as goal

pub returns-then-s-at : goal.returns-then-s-at
returns-then-s-at c = range_none _ _ _ (omega arith)

pub returns-then-is_range : goal.returns-then-is_range
returns-then-is_range c = rw c.solid.ensures (range-is _ _ _ (omega arith) (sym c.is_range.ensures ∙ c.if-is_range.true))

pub returns : goal.returns
returns c = range_other _ _ _ (omega arith) (sym c.is_range.ensures ∙ c.if-is_range.false)
