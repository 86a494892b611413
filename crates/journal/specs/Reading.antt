-- Number and length for each answer of a reader of journals (document 01; 32: document 02, wish 7).
use Rattle.std.specs.Prelude.{List, ℕ, Result, Ok, Err}
use Rattle.definitions.specs.Listing.{Written, written}
use Rattle.journal.specs.declared.Refusal.{Refusal}
use Rattle.journal.specs.declared.Refusal.TheVariants.{Short, Malformed, Differ}

unfoldable pub refusal_number : Refusal → ℕ
refusal_number Short = 10
refusal_number Malformed = 11
refusal_number Differ = 32

unfoldable pub reading_number : Result ℕ Refusal → ℕ
unfolding refusal_number
reading_number (Ok n) = 0
reading_number (Err e) = refusal_number e

-- "refused, the length is 0"
unfoldable pub reading_length : Result ℕ Refusal → ℕ
reading_length (Ok n) = n
reading_length (Err e) = 0

-- the answer `r`, with the destination's bytes afterwards
unfoldable pub answered : Result ℕ Refusal → List ℕ → Written
unfolding reading_number reading_length
answered r d = written (reading_number r) (reading_length r) d
