-- How word sets come to stand in three words: letters and digits where a run begins, then what WORD names (document 02, wish 8).
use Rattle.std.specs.Prelude.{◌≡◌, List, [], ◌∷◌, ℕ, zero, suc, ◌+◌, ◌-◌, ◌/◌, ◌%◌, ◌^◌, ◌<◌, get_or, set, Result, Ok, Err, ⊤}
use Rattle.std.proofs.lemmas.List.Edits.{sets}
use Rattle.std.specs.Int.Bits.{bit_or}
use Rattle.definitions.specs.WordSet.{byte, quoted_byte, range, FirstName, name, misused, Names, all_names, misused_at}
use Rattle.wordset.specs.Sets.{SetAt}
use Rattle.wordset.specs.declared.Name.{Name}
use Rattle.wordset.specs.declared.Misused.{Misused}

-- the words of `letters_and_digits`: the bits 16 to 25, then twice 1 to 26
abbrev pub first_words : List ℕ
first_words = 67043328 ∷ 134217726 ∷ 134217726 ∷ []

-- the word of a byte's bit, and the words from k on with that bit set
abbrev pub word_of : ℕ → ℕ → ℕ
word_of k b = k + (b / 32 - 1)

abbrev pub with_byte : List ℕ → ℕ → ℕ → List ℕ
with_byte w k b = set w (word_of k b) (bit_or (get_or w (word_of k b) 0) (2 ^ (b % 32)))

-- the bits of n bytes from b on set
unfoldable pub with_bytes : List ℕ → ℕ → ℕ → ℕ → List ℕ
with_bytes w k b zero = w
with_bytes w k b (suc n) = with_bytes (with_byte w k b) k (suc b) n

-- the bytes from x to y, named by n bytes
abbrev pub bytes_named : ℕ → ℕ → ℕ → Name
bytes_named x y n = record { first = x; last = y; len = n }

-- a `-` or `"` is misused at a place
abbrev pub misused-here : ℕ → Misused
misused-here p = record { at = p }

-- the name at place i as the code has it: the bytes from one to another, and how many bytes the name has
unfoldable pub name_of : ℕ → FirstName → Result Name Misused
name_of i (name (byte x) more) = Ok (bytes_named x x (suc more))
name_of i (name (quoted_byte x) more) = Ok (bytes_named x x (suc more))
name_of i (name (range x y) more) = Ok (bytes_named x y (suc more))
name_of i (misused k) = Err (misused-here (i + k))

-- the three words from k on are written, and no other
abbrev pub ThreePut : List ℕ → ℕ → List ℕ → Type 0
ThreePut w k w' = (a b c : ℕ) × (a < 2 ^ 32) × (b < 2 ^ 32) × (c < 2 ^ 32) × (w' ≡ sets w k (a ∷ b ∷ c ∷ []))

-- what is answered, and the set that then stands; where a `-` or `"` is misused, the words hold what was named before it, which nothing reads
unfoldable pub DecodedAs : Names → List ℕ → ℕ → Result ⊤ Misused → Type 0
DecodedAs (all_names xs) w k r = (r ≡ Ok tt) × SetAt w k xs
DecodedAs (misused_at p) w k r = r ≡ Err (misused-here p)

abbrev pub Decodes : Names → List ℕ → ℕ → List ℕ → Result ⊤ Misused → Type 0
Decodes ns w k w' r = ThreePut w k w' × DecodedAs ns w' k r
