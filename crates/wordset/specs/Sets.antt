-- A word set in three words of 32 bits: a bit for each byte from 32 to 127, the lowest bit first (document 02, wish 8).
use Rattle.std.specs.Prelude.{◌≡◌, Bool, ◌&&◌, List, ℕ, ◌+◌, ◌-◌, ◌/◌, ◌%◌, ◌^◌, get_or, eqb, leb, ltb}
use Rattle.definitions.specs.WordSet.{Named, is_word_byte}

-- is the bit k of a word 1
unfoldable pub has_bit : ℕ → ℕ → Bool
has_bit word k = eqb (word / 2 ^ k % 2) 1

-- is the byte in the set that the words from i on hold
unfoldable pub in_set : List ℕ → ℕ → ℕ → Bool
in_set w i b = leb 32 b && (ltb b 128 && has_bit (get_or w (i + (b / 32 - 1)) 0) (b % 32))

-- the words from i on hold the bytes that the names name
abbrev pub SetAt : List ℕ → ℕ → List Named → Type 0
SetAt w i xs = in_set w i ≡ is_word_byte xs
