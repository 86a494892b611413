-- Arguments in words, as they are written and read.
use Rattle.std.specs.Prelude.{cond, ℕ, suc, ◌+◌, ◌*◌, ◌/◌, ◌%◌, eqb}

-- a string's word
abbrev pub string_start : ℕ → ℕ
string_start word = word % 32768

abbrev pub string_length : ℕ → ℕ
string_length word = word / 32768

-- the lines of D and R from a to b, 65,536 for EOF: the number in the first word, and the second word
unfoldable pub span_number : ℕ → ℕ
span_number b = cond (eqb b 65536) 1 0

unfoldable pub span_word : ℕ → ℕ → ℕ
span_word a b = cond (eqb b 65536) a (a + 65536 * b)

-- and back: where they begin, and how far they go, 0 for one line, 65,536 for `*`
abbrev pub span_from : ℕ → ℕ
span_from word = word % 65536

unfoldable pub span_through : ℕ → ℕ → ℕ
span_through n word = cond (eqb n 1) 65536 (word / 65536)

-- I's line; 65,537 where none is given
unfoldable pub spot_word : ℕ → ℕ
spot_word n = cond (eqb n 65537) 0 (suc n)
