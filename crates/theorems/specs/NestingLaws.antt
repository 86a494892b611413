-- What the laws of nesting speak of (proofs/NestingLaws): how many bodies are opened and closed, and what may stand before a bracket.
use Rattle.std.specs.Prelude.{◌≡◌, Bool, true, false, List, [], ◌∷◌, ℕ, suc}
use Rattle.std.proofs.Common.{subst}
use Rattle.std.proofs.Math.Option.{none, some}
use Rattle.definitions.specs.Control.{Item, simple, seek, opens, bracket, close, otherwise, leave, line_end}

-- how many bodies items open, and how many they close
unfoldable pub opens_in : List Item → ℕ
opens_in [] = 0
opens_in (simple at op ∷ rest) = opens_in rest
opens_in (seek at s se ∷ rest) = opens_in rest
opens_in (opens at o ∷ rest) = suc (opens_in rest)
opens_in (bracket ∷ rest) = opens_in rest
opens_in (close ∷ rest) = opens_in rest
opens_in (otherwise ∷ rest) = opens_in rest
opens_in (leave at ∷ rest) = opens_in rest
opens_in (line_end ∷ rest) = opens_in rest

unfoldable pub closes_in : List Item → ℕ
closes_in [] = 0
closes_in (simple at op ∷ rest) = closes_in rest
closes_in (seek at s se ∷ rest) = closes_in rest
closes_in (opens at o ∷ rest) = closes_in rest
closes_in (bracket ∷ rest) = closes_in rest
closes_in (close ∷ rest) = suc (closes_in rest)
closes_in (otherwise ∷ rest) = closes_in rest
closes_in (leave at ∷ rest) = closes_in rest
closes_in (line_end ∷ rest) = closes_in rest

-- only these may stand directly before `bracket`
unfoldable pub may_bracket : Item → Bool
may_bracket (simple at op) = false
may_bracket (seek at s se) = false
may_bracket (opens at o) = true
may_bracket bracket = false
may_bracket close = false
may_bracket otherwise = true
may_bracket (leave at) = false
may_bracket line_end = false

pub none-some : {A : Type 0} {a : A} → none ≡ some a → ⊥
none-some e = subst (λ o. elim o as (λ x. Type 0) [ none ↦ Unit {0} | some b ↦ ⊥ ]) e tt
