-- Bytes as lines with their line feeds, and the row that lines of one kind make. Assumes nothing.
use Rattle.std.specs.Prelude.{◌≡◌, Bool, true, false, not, cond, List, [], ◌∷◌, ◌++◌, ℕ, ◌+◌, ◌/◌, length, drop, eqb, ltb}
use Rattle.text.specs.Feeds.{line_length, line_start}

-- the byte b stands first in the first of some lines
unfoldable pub on_first : ℕ → List (List ℕ) → List (List ℕ)
on_first b [] = (b ∷ []) ∷ []
on_first b (l ∷ ls) = (b ∷ l) ∷ ls

-- the lines of bytes, each with its line feed; bytes after the last line feed count as one line more
unfoldable pub pieces : List ℕ → List (List ℕ)
pieces [] = []
pieces (b ∷ bs) = elim (eqb b 10) [ true ↦ (b ∷ []) ∷ pieces bs | false ↦ on_first b (pieces bs) ]

-- a line that begins with a `-`
unfoldable pub is_minus : List ℕ → Bool
is_minus [] = false
is_minus (b ∷ l) = eqb b 45

-- any other
unfoldable pub is_other : List ℕ → Bool
is_other l = not (is_minus l)

-- the bytes of the lines of one kind, in a row
unfoldable pub row_of : (List ℕ → Bool) → List (List ℕ) → List ℕ
row_of kind [] = []
row_of kind (l ∷ ls) = cond (kind l) l [] ++ row_of kind ls

-- the lines of x that begin with a `-`
abbrev pub minus_row : List ℕ → List ℕ
minus_row x = row_of is_minus (pieces x)

-- the others
abbrev pub other_row : List ℕ → List ℕ
other_row x = row_of is_other (pieces x)

-- x, arranged to y, of which the first r bytes are the lines that begin with a `-`
pub record Gathered (x y : List ℕ) (r : ℕ) : Type 0 where
  pub is : y ≡ minus_row x ++ other_row x
  pub size : r ≡ length (minus_row x)

-- where to cut x: the first line's start after the middle, or else the last one's before it
unfoldable pub middle_of : List ℕ → ℕ
middle_of x =
    let half = length x / 2 in
    let after = half + line_length (drop half x) in
    cond (ltb after (length x)) after (line_start x half)
