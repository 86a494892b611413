-- The marks of a pattern, and how a byte of the line moves them. A mark stands on a byte of the pattern and says from which place on the line a match
-- can have begun that has come just past that byte: the least such place, or `never`. Assumes nothing.
use Rattle.std.specs.Prelude.{◌≡◌, Bool, true, false, cond, ◌&&◌, ◌||◌, List, [], ◌∷◌, ◌++◌, ℕ, zero, suc, ◌+◌, min, length, drop, get_or}
use Rattle.definitions.specs.Bytes.{Line}
use Rattle.definitions.specs.Reader.{cursor, got}
use Rattle.definitions.specs.Patterns.{Pattern, one_byte, empty_row, in_row, either_of, any_number, fits, read_pattern}

-- no place: more than any line has
unfoldable pub never : ℕ
never = 65535

-- the string is the pattern p
abbrev pub Reads : Line → Pattern → Type 0
Reads s p = read_pattern 0 s ≡ got p (cursor (length s) [])

-- how many marks the pattern has: one for each character, range or mismatch, and one for each `#`, which says what has come past the end of its item
unfoldable pub slots : Pattern → ℕ
slots (one_byte mismatch x) = 1
slots empty_row = 0
slots (in_row p q) = slots p + slots q
slots (either_of p q) = slots p + slots q
slots (any_number p) = suc (slots p)

-- The least place where a match can have begun that has come past p, whose marks stand first in `ms`; `enter` is the least place of those that stand
-- just before p.
unfoldable pub out_of : ℕ → Pattern → List ℕ → ℕ
out_of enter (one_byte mismatch x) ms = get_or ms 0 never
out_of enter empty_row ms = enter
out_of enter (in_row p q) ms = out_of (out_of enter p ms) q (drop (slots p) ms)
out_of enter (either_of p q) ms = min (out_of enter p ms) (out_of enter q (drop (slots p) ms))
out_of enter (any_number p) ms = min enter (get_or ms 0 never)

-- the marks of `#` with its item's marks after it
unfoldable pub with_end : Pattern → List ℕ → List ℕ
with_end p ms = out_of never p ms ∷ ms

-- the marks of p after the byte b
unfoldable pub swept : ℕ → ℕ → Pattern → List ℕ → List ℕ
swept b enter (one_byte mismatch x) ms = cond (fits mismatch x b) enter never ∷ []
swept b enter empty_row ms = []
swept b enter (in_row p q) ms = swept b enter p ms ++ swept b (out_of enter p ms) q (drop (slots p) ms)
swept b enter (either_of p q) ms = swept b enter p ms ++ swept b enter q (drop (slots p) ms)
swept b enter (any_number p) ms = with_end p (swept b (min enter (get_or ms 0 never)) p (drop 1 ms))

-- no marks: n of them
unfoldable pub no_marks : ℕ → List ℕ
no_marks zero = []
no_marks (suc n) = never ∷ no_marks n

-- the marks after the bytes, from no marks on; `enter j` is what stands before the pattern at the jth place
unfoldable pub marks_from : (ℕ → ℕ) → Pattern → List ℕ → List ℕ → List ℕ
marks_from enter p ms [] = ms
marks_from enter p ms (b ∷ s) = marks_from (λ j. enter (suc j)) p (swept b (enter 0) p ms) s

unfoldable pub marks_after : (ℕ → ℕ) → Pattern → List ℕ → List ℕ
marks_after enter p s = marks_from enter p (no_marks (slots p)) s

-- the empty bytes are in the language
unfoldable pub takes_none : Pattern → Bool
takes_none (one_byte mismatch x) = false
takes_none empty_row = true
takes_none (in_row p q) = takes_none p && takes_none q
takes_none (either_of p q) = takes_none p || takes_none q
takes_none (any_number p) = true

-- some bytes of the language begin with b
unfoldable pub begins : Pattern → ℕ → Bool
begins (one_byte mismatch x) b = fits mismatch x b
begins empty_row b = false
begins (in_row p q) b = begins p b || (takes_none p && begins q b)
begins (either_of p q) b = begins p b || begins q b
begins (any_number p) b = begins p b
