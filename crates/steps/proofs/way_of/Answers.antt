-- `steps::way_of` meets its contract. Assumes nothing.
use mathlib.Core.List.{List, [], ◌∷◌}
use Prim.Native.Nat.{ℕ}
use types.Run.{miss}
use Rattle.steps.specs.Steps.{ask_look}
use Rattle.steps.proofs.Views.{deletes-asked}
use borrow.Author.Rules.{rules}
use borrow.Enum.Refused.{opened}
use Rattle.steps.proofs.way_of.Goals as goal

-- the tags of what neither F nor BF asks
abbrev others : List ℕ
others = 0 ∷ 1 ∷ 2 ∷ 3 ∷ 4 ∷ 5 ∷ 8 ∷ 9 ∷ []

pub returns-in-Find : goal.returns-in-Find
unfolding ask_look
returns-in-Find c = search rules

pub returns-in-FindBack : goal.returns-in-FindBack
unfolding ask_look
returns-in-FindBack c = search rules

pub returns-in_default : goal.returns-in_default
unfolding ask_look
returns-in_default c = deletes-asked c.requires.0 _ c.requires.1 (λ q. miss others 6 tt (rw q at (opened c.in_default.in_default-own.keys3))) (λ q. miss others 7 tt (rw q at (opened c.in_default.in_default-own.keys3)))
