-- The script's reader, its small parts: places, spaces, comments, numbers, names, strings (document 01, "Script text"; manual 3.2).
use Rattle.std.specs.Prelude.{Bool, true, false, cond, ◌&&◌, ◌||◌, List, [], ◌∷◌, ℕ, zero, suc, ◌+◌, ◌-◌, ◌*◌, length, drop, eqb, leb}
use Prim.Native.String.{String}
use Prim.Native.Char.{code}
use Rattle.definitions.specs.Bytes.{Line, is_digit, is_letter, upper}

-- "The script is read by one reader that carries its place, a byte offset from 0": the place, and the bytes from there on
pub data Cursor : Type 0 where
  cursor : ℕ → List ℕ → Cursor

-- a thing read, with the cursor after it; or a refusal: number and place
pub data Got (A : Type 0) : Type 0 where
  got : A → Cursor → Got A
  refused : ℕ → ℕ → Got A

-- the next thing is read, or the refusal is passed upward
unfoldable pub and_then : {A B : Type 0} → Got A → (A → Cursor → Got B) → Got B
and_then (got a c) f = f a c
and_then (refused n at) f = refused n at

unfoldable pub place_at : Cursor → ℕ
place_at (cursor at bs) = at

unfoldable pub bytes_left : Cursor → ℕ
bytes_left (cursor at bs) = length bs

-- the next byte; 0, which no script has, at the end
unfoldable pub next_byte : Cursor → ℕ
next_byte (cursor at []) = 0
next_byte (cursor at (b ∷ bs)) = b

unfoldable pub after_byte : Cursor → Cursor
after_byte (cursor at []) = cursor at []
after_byte (cursor at (b ∷ bs)) = cursor (suc at) bs

unfoldable pub is_next : ℕ → Cursor → Bool
is_next b c = eqb b (next_byte c)

-- the byte `b` must stand next; else 3 at what stands there (R9)
unfoldable pub expect : ℕ → Cursor → Got (Unit {0})
expect b c = cond (is_next b c) (got tt (after_byte c)) (refused 3 (place_at c))

-- ---- spaces and comments

unfoldable pub spaces_at : ℕ → List ℕ → Cursor
spaces_at at [] = cursor at []
spaces_at at (b ∷ bs) = elim (eqb b 32) [ true ↦ spaces_at (suc at) bs | false ↦ cursor at (b ∷ bs) ]

-- "Spaces may stand between items": a line end is none (R1, R9)
unfoldable pub skip_spaces : Cursor → Cursor
skip_spaces (cursor at bs) = spaces_at at bs

unfoldable pub line_end_at : ℕ → List ℕ → Cursor
line_end_at at [] = cursor at []
line_end_at at (b ∷ bs) = elim (eqb b 10) [ true ↦ cursor at (b ∷ bs) | false ↦ line_end_at (suc at) bs ]

-- "Backslash starts a comment to the line's end": the cursor at the line's end
unfoldable pub skip_comment : Cursor → Cursor
skip_comment (cursor at bs) = line_end_at at bs

-- beside & and |: spaces, line ends and comments; `true`: in a comment
unfoldable pub blank_at : Bool → ℕ → List ℕ → Cursor
blank_at inComment at [] = cursor at []
blank_at true at (b ∷ bs) = elim (eqb b 10) [ true ↦ blank_at false (suc at) bs | false ↦ blank_at true (suc at) bs ]
blank_at false at (b ∷ bs) =
    elim (eqb b 92) [
      | true ↦ blank_at true (suc at) bs
      | false ↦ elim (eqb b 32 || eqb b 10) [ true ↦ blank_at false (suc at) bs | false ↦ cursor at (b ∷ bs) ]
    ]

-- "Line ends may stand .. beside & or | in a bracketed search" (R19)
unfoldable pub skip_blank : Cursor → Cursor
skip_blank (cursor at bs) = blank_at false at bs

-- ---- numbers and names

-- what stands next as one number, the value of digits or the packed letters of a name, with the cursor after it
pub data Token : Type 0 where
  token : ℕ → Cursor → Token

unfoldable pub digits_at : ℕ → ℕ → List ℕ → Token
digits_at n at [] = token n (cursor at [])
digits_at n at (b ∷ bs) = elim (is_digit b) [ true ↦ digits_at (n * 10 + (b - 48)) (suc at) bs | false ↦ token n (cursor at (b ∷ bs)) ]

-- the digits that stand next, as a number, any number of them (R13)
unfoldable pub digits : Cursor → Token
digits (cursor at bs) = digits_at 0 at bs

unfoldable pub is_digit_next : Cursor → Bool
is_digit_next c = is_digit (next_byte c)

-- "Numbers are 1 to 65,535": else 3 at the number
unfoldable pub in_range : ℕ → Token → Got ℕ
in_range at (token n c) = cond (leb 1 n && leb n 65535) (got n c) (refused 3 at)

-- a number must stand next
unfoldable pub number : Cursor → Got ℕ
number c = cond (is_digit_next c) (in_range (place_at c) (digits c)) (refused 3 (place_at c))

unfoldable pub letters_at : ℕ → ℕ → ℕ → List ℕ → Token
letters_at k n at [] = token n (cursor at [])
letters_at k n at (b ∷ bs) =
    elim (is_letter b) [
      | true ↦ elim k [ zero ↦ letters_at zero n (suc at) bs | suc j ↦ letters_at j (n * 256 + upper b) (suc at) bs ]
      | false ↦ token n (cursor at (b ∷ bs))
    ]

-- "Command names: first four letters significant, any case, ended by a non-letter" (R4): the four letters packed in a number, the first highest
unfoldable pub name : Cursor → Token
name (cursor at bs) = letters_at 4 0 at bs

unfoldable pub packed_from : ℕ → String → ℕ
packed_from n String.[] = n
packed_from n (String.◌∷◌ c s) = packed_from (n * 256 + code c) s

-- a quoted name as such a number
unfoldable pub packed : String → ℕ
packed s = packed_from 0 s

unfoldable pub is_token : ℕ → Token → Bool
is_token w (token n c) = eqb w n

unfoldable pub after_token : Token → Cursor
after_token (token n c) = c

-- ---- strings

-- "Delimiters: ! ' * + , - . / : ?"
unfoldable pub is_delimiter : ℕ → Bool
is_delimiter b = eqb b 33 || eqb b 39 || (leb 42 b && leb b 47) || eqb b 58 || eqb b 63

-- "A string holds no delimiter of its own; the closing one may be missing at line end": the bytes up to the delimiter `d` or the line's end
unfoldable pub string_up_to : ℕ → List ℕ → Line
string_up_to d [] = []
string_up_to d (b ∷ bs) = elim (eqb b d || eqb b 10) [ true ↦ [] | false ↦ b ∷ string_up_to d bs ]

unfoldable pub string_next : ℕ → Cursor → Line
string_next d (cursor at bs) = string_up_to d bs

-- the cursor after so many bytes
unfoldable pub advance : ℕ → Cursor → Cursor
advance n (cursor at bs) = cursor (at + n) (drop n bs)

-- after the closing delimiter, if it stands there
unfoldable pub past_delimiter : ℕ → Cursor → Cursor
past_delimiter d c = cond (is_next d c) (after_byte c) c

-- after the string and its closing delimiter
unfoldable pub after_string : ℕ → Cursor → Cursor
after_string d c = past_delimiter d (advance (length (string_next d c)) c)

-- a string with its delimiters, the opening one next; else 3 (R12)
unfoldable pub quoted : Cursor → Got Line
quoted c =
    cond (is_delimiter (next_byte c)) (got (string_next (next_byte c) (after_byte c)) (after_string (next_byte c) (after_byte c))) (refused 3 (place_at c))
