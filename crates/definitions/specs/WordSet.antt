-- Which bytes count as word characters for W: letters and digits at first, then what WORD names (document 02, wish 8).
use Rattle.std.specs.Prelude.{Bool, false, cond, ◌&&◌, ◌||◌, List, [], ◌∷◌, ℕ, zero, suc, ◌+◌, eqb, leb}
use Rattle.definitions.specs.Bytes.{Line, is_digit, is_capital, is_small}

-- ---- the set

-- what names bytes: a byte itself, a byte after `"`, a range from one byte to another (W8.2)
pub data Named : Type 0 where
  byte quoted_byte : ℕ → Named
  range : ℕ → ℕ → Named

unfoldable pub is_named : Named → ℕ → Bool
is_named (byte x) b = eqb x b
is_named (quoted_byte x) b = eqb x b
is_named (range x y) b = leb x b && leb b y

-- the bytes that some name names; "Naming a byte twice is harmless" (W8.2)
unfoldable pub is_word_byte : List Named → ℕ → Bool
is_word_byte [] b = false
is_word_byte (x ∷ xs) b = is_named x b || is_word_byte xs b

-- "at first letters and digits": 0 to 9, A to Z, a to z
unfoldable pub letters_and_digits : List Named
letters_and_digits = range 48 57 ∷ range 65 90 ∷ range 97 122 ∷ []

-- ---- WORD's string

-- "ranges, not falling, between two unquoted digits, capitals or small letters"; `a-a` is one (W8.3)
unfoldable pub is_range : ℕ → ℕ → Bool
is_range x y = leb x y && ((is_digit x && is_digit y) || (is_capital x && is_capital y) || (is_small x && is_small y))

-- the name that begins with a byte, and how many bytes after that one belong to it; or "a `-` or `"` used otherwise", so many bytes after it (W8.4)
pub data FirstName : Type 0 where
  name : Named → ℕ → FirstName
  misused : ℕ → FirstName

-- `"`, and the bytes after it: "`"` and the next byte name that byte, whichever it is" (W8.2)
unfoldable pub quoted_name : Line → FirstName
quoted_name [] = misused 0
quoted_name (b ∷ bs) = name (quoted_byte b) 1

-- x and `-`, and the bytes after them
unfoldable pub range_name : ℕ → Line → FirstName
range_name x [] = misused 1
range_name x (y ∷ bs) = cond (is_range x y) (name (range x y) 2) (misused 1)

-- x, which is no `"` and no `-`, and the bytes after it
unfoldable pub plain_name : ℕ → Line → FirstName
plain_name x [] = name (byte x) 0
plain_name x (b ∷ bs) = cond (eqb b 45) (range_name x bs) (name (byte x) 0)

unfoldable pub first_name : ℕ → Line → FirstName
first_name x bs = cond (eqb x 34) (quoted_name bs) (cond (eqb x 45) (misused 0) (plain_name x bs))

-- the names of WORD's string, or the place of the first `-` or `"` that is misused (W8.5)
pub data Names : Type 0 where
  all_names : List Named → Names
  misused_at : ℕ → Names

unfoldable pub add_name : Named → Names → Names
add_name x (all_names xs) = all_names (x ∷ xs)
add_name x (misused_at at) = misused_at at

-- "Read from the left" (W8.2): the string from place `at` on; its first `skip` bytes still belong to the name before them
unfoldable pub names_from : ℕ → ℕ → Line → Names
names_from at skip [] = all_names []
names_from at (suc skip) (b ∷ bs) = names_from (suc at) skip bs
names_from at zero (b ∷ bs) = elim (first_name b bs) [ name x more ↦ add_name x (names_from (suc at) more bs) | misused k ↦ misused_at (at + k) ]
