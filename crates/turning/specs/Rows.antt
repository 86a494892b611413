-- Rows: records that stand side by side and begin with the same byte. In an arranged journal a stretch is a row of `--` (45), then one of `++` (43).
use Rattle.std.specs.Prelude.{cond, List, [], ◌∷◌, ◌++◌, ℕ, ◌+◌, eqb}
use Rattle.definitions.specs.Bytes.{Line, line_bytes}
use Rattle.definitions.specs.Journal.{Record, kept, changed, deleted, inserted, journal_length}

-- the first byte of a record
unfoldable pub first_byte : Record → ℕ
first_byte (kept l) = 61
first_byte (changed o n) = 60
first_byte (deleted l) = 45
first_byte (inserted l) = 43

-- the first line of a record
unfoldable pub line_in : Record → Line
line_in (kept l) = l
line_in (changed o n) = o
line_in (deleted l) = l
line_in (inserted l) = l

-- the row of b that stands first, and what follows it
unfoldable pub row_of : ℕ → List Record → List Record
row_of b [] = []
row_of b (r ∷ rs) = cond (eqb (first_byte r) b) (r ∷ row_of b rs) []

unfoldable pub after_row : ℕ → List Record → List Record
after_row b [] = []
after_row b (r ∷ rs) = cond (eqb (first_byte r) b) (after_row b rs) (r ∷ rs)

-- the first lines of records, each after two bytes c
unfoldable pub row_bytes : ℕ → List Record → List ℕ
row_bytes c [] = []
row_bytes c (r ∷ rs) = (c ∷ c ∷ line_bytes (line_in r)) ++ row_bytes c rs

-- the `--` records of the stretch that stands first, its `++` records, and what follows it
abbrev pub gone_first : List Record → List Record
gone_first rs = row_of 45 rs

abbrev pub came_next : List Record → List Record
came_next rs = row_of 43 (after_row 45 rs)

abbrev pub after_stretch : List Record → List Record
after_stretch rs = after_row 43 (after_row 45 rs)

-- the stretch's length, and its bytes turned round: what came is what leaves, and stands first
abbrev pub stretch_length : List Record → ℕ
stretch_length rs = journal_length (gone_first rs) + journal_length (came_next rs)

abbrev pub stretch_turned : List Record → List ℕ
stretch_turned rs = row_bytes 45 (came_next rs) ++ row_bytes 43 (gone_first rs)
