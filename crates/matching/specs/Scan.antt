-- How many places a search from the left may pass by the first byte alone. Assumes nothing.
use Rattle.std.specs.Prelude.{Bool, not, List, [], ◌∷◌, ℕ, eqb}
use Rattle.definitions.specs.Bytes.{Line}
use Rattle.definitions.specs.Matching.{folded}
use Rattle.scans.specs.Leading.{leading}

-- a byte that is not b, both upper-cased where u is given
unfoldable pub is_other : Bool → ℕ → ℕ → Bool
is_other u b x = not (eqb (folded u x) (folded u b))

-- how many of the next n bytes stand before the first that is the string's first byte; nothing is passed for the empty string
unfoldable pub other_places : Bool → Line → ℕ → List ℕ → ℕ
other_places u [] n l = 0
other_places u (b ∷ s) n l = leading (is_other u b) n l
