-- Bytes and lines (document 01, "Tables and the journal"). Bytes are numbers, a line is its bytes without the byte 10 (LF) that ends it.
use Rattle.std.specs.Prelude.{Bool, true, false, cond, ◌&&◌, ◌||◌, List, [], ◌∷◌, ◌++◌, ℕ, ◌+◌, ◌-◌, length, eqb, leb}
use Prim.Native.String.{String}
use Prim.Native.Char.{code}

abbrev pub Line : Type 0
Line = List ℕ

-- the bytes of a quoted text
unfoldable pub bytes : String → List ℕ
bytes String.[] = []
bytes (String.◌∷◌ c s) = code c ∷ bytes s

-- "bytes from 32 to 126 (decimal)"
unfoldable pub is_text : ℕ → Bool
is_text b = leb 32 b && leb b 126

unfoldable pub is_digit : ℕ → Bool
is_digit b = leb 48 b && leb b 57

unfoldable pub is_capital : ℕ → Bool
is_capital b = leb 65 b && leb b 90

unfoldable pub is_small : ℕ → Bool
is_small b = leb 97 b && leb b 122

unfoldable pub is_letter : ℕ → Bool
is_letter b = is_capital b || is_small b

-- a to z become A to Z; every other byte, those over 126 too, stays (W3.2)
unfoldable pub upper : ℕ → ℕ
upper b = cond (is_small b) (b - 32) b

-- A to Z become a to z; every other byte stays
unfoldable pub lower : ℕ → ℕ
lower b = cond (is_capital b) (b + 32) b

unfoldable pub eq_line : Line → Line → Bool
eq_line [] [] = true
eq_line [] (y ∷ ys) = false
eq_line (x ∷ xs) [] = false
eq_line (x ∷ xs) (y ∷ ys) = eqb x y && eq_line xs ys

-- the byte `b` stands first in a list of lines
unfoldable pub before : ℕ → List Line → List Line
before b [] = (b ∷ []) ∷ []
before b (l ∷ ls) = (b ∷ l) ∷ ls

-- the lines of bytes, each ended by LF; bytes after the last LF count as one line more
unfoldable pub lines_of : List ℕ → List Line
lines_of [] = []
lines_of (b ∷ bs) = elim (eqb b 10) [ true ↦ [] ∷ lines_of bs | false ↦ before b (lines_of bs) ]

-- a line as it is written: ended by LF
unfoldable pub line_bytes : Line → List ℕ
line_bytes l = l ++ (10 ∷ [])

-- lines as they are written
unfoldable pub lines_bytes : List Line → List ℕ
lines_bytes [] = []
lines_bytes (l ∷ ls) = line_bytes l ++ lines_bytes ls

-- the last byte, `d` where there is none
unfoldable pub last_byte : ℕ → List ℕ → ℕ
last_byte d [] = d
last_byte d (b ∷ bs) = last_byte b bs

unfoldable pub all_text : List ℕ → Bool
all_text [] = true
all_text (b ∷ bs) = is_text b && all_text bs

-- "lines of 0 to 255 bytes from 32 to 126"
unfoldable pub is_line : Line → Bool
is_line l = all_text l && leb (length l) 255

unfoldable pub all_lines : List Line → Bool
all_lines [] = true
all_lines (l ∷ ls) = is_line l && all_lines ls

-- "each ended by byte 10 (LF)": no byte follows the last LF
unfoldable pub are_lines : List ℕ → Bool
are_lines bs = eqb (last_byte 10 bs) 10 && all_lines (lines_of bs)
