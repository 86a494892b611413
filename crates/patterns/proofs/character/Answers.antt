-- `patterns::character` meets its contract. Assumes nothing.
use mathlib.Core.Path.{sym, ◌∙◌}
use native.Mathlib.Omega.{arith}
use Rattle.patterns.proofs.Characters.{character-none, character-quoted, character-sign, character-plain}
use Rattle.patterns.proofs.character.Goals as goal

pub returns-then-s-at : goal.returns-then-s-at
returns-then-s-at c = character-none _ _ (omega arith)

pub returns-then-b-eq34 : goal.returns-then-b-eq34
returns-then-b-eq34 c = character-quoted _ _ (omega arith) c.if-b-eq34.true c.after_quote.ensures

pub returns-then-is_sign : goal.returns-then-is_sign
returns-then-is_sign c = character-sign _ _ (omega arith) c.if-b-eq34.false (sym c.is_sign.ensures ∙ c.if-is_sign.true)

pub returns : goal.returns
returns c =
    character-plain _ _ (omega arith) c.if-b-eq34.false (sym c.is_sign.ensures ∙ c.if-is_sign.false)
    c.after_plain.ensures
