-- `patterns::single` meets its contract. Assumes nothing.
use mathlib.Core.Path.{sym, ◌∙◌}
use native.Mathlib.Omega.{arith}
use Rattle.patterns.proofs.Places.{next-within}
use Rattle.patterns.proofs.Characters.{single-mismatch, single-match}
use Rattle.patterns.proofs.single.Goals as goal

pub overflow_add-at : goal.overflow_add-at
overflow_add-at c = let within = next-within _ _ 126 (omega arith) (sym c.is_next.ensures ∙ c.if-is_next.true) in omega (arith, within)

pub character-requires : goal.character-requires
character-requires c = let within = next-within _ _ 126 (omega arith) (sym c.is_next.ensures ∙ c.if-is_next.true) in omega (arith, within)

pub returns-then-is_next : goal.returns-then-is_next
returns-then-is_next c = single-mismatch _ _ (sym c.is_next.ensures ∙ c.if-is_next.true) c.character.ensures

pub returns : goal.returns
returns c = single-match _ _ (sym c.is_next.ensures ∙ c.if-is_next.false) c.character-2.ensures
