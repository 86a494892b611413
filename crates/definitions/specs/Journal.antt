-- Records, their two sides, the journal's bytes, and a journal read back from bytes (document 01, "Tables and the journal"; number 11).
use Rattle.std.specs.Prelude.{Bool, true, false, cond, not, ◌&&◌, List, [], ◌∷◌, ◌++◌, ℕ, zero, suc, ◌+◌, length, eqb, leb}
use Rattle.std.proofs.Math.Option.{Option, none, some}
use Rattle.definitions.specs.Bytes.{Line, eq_line, lines_of, line_bytes, last_byte, is_line}

-- A journal is a list of records. A changed record has the old line, then the new one.
pub data Record : Type 0 where
  kept : Line → Record
  changed : Line → Line → Record
  deleted : Line → Record
  inserted : Line → Record

-- "Old side: the lines of `==` and `--` and the first of `<>`"
unfoldable pub old_of : Record → List Line
old_of (kept l) = l ∷ []
old_of (changed o n) = o ∷ []
old_of (deleted l) = l ∷ []
old_of (inserted l) = []

unfoldable pub old_side : List Record → List Line
old_side [] = []
old_side (r ∷ rs) = old_of r ++ old_side rs

-- "New side: the lines of `==` and `++` and the second of `<>`"
unfoldable pub new_of : Record → List Line
new_of (kept l) = l ∷ []
new_of (changed o n) = n ∷ []
new_of (deleted l) = []
new_of (inserted l) = l ∷ []

unfoldable pub new_side : List Record → List Line
new_side [] = []
new_side (r ∷ rs) = new_of r ++ new_side rs

-- ---- bytes

-- "a two-byte mark before each": == 61 61, <> 60 62, -- 45 45, ++ 43 43; "each line ends in LF"
unfoldable pub record_bytes : Record → List ℕ
record_bytes (kept l) = 61 ∷ 61 ∷ line_bytes l
record_bytes (changed o n) = 60 ∷ 62 ∷ (line_bytes o ++ line_bytes n)
record_bytes (deleted l) = 45 ∷ 45 ∷ line_bytes l
record_bytes (inserted l) = 43 ∷ 43 ∷ line_bytes l

unfoldable pub journal_bytes : List Record → List ℕ
journal_bytes [] = []
journal_bytes (r ∷ rs) = record_bytes r ++ journal_bytes rs

-- the length of a journal's bytes: two for each mark, one for each LF
unfoldable pub record_length : Record → ℕ
record_length (kept l) = 3 + length l
record_length (changed o n) = 4 + (length o + length n)
record_length (deleted l) = 3 + length l
record_length (inserted l) = 3 + length l

unfoldable pub journal_length : List Record → ℕ
journal_length [] = 0
journal_length (r ∷ rs) = record_length r + journal_length rs

-- ---- changes of one record

-- "In a changed record old and new differ; equal ones make a kept record"
unfoldable pub change : Line → Line → Record
change old new = cond (eq_line old new) (kept old) (changed old new)

-- a record whose line now reads `new`
unfoldable pub rewrite : Record → Line → Record
rewrite (kept l) new = change l new
rewrite (changed o n) new = change o new
rewrite (deleted l) new = deleted l
rewrite (inserted l) new = inserted new

-- what is left of a record whose line is deleted: "An inserted line that is deleted leaves no record"
unfoldable pub erase : Record → List Record
erase (kept l) = deleted l ∷ []
erase (changed o n) = deleted o ∷ []
erase (deleted l) = deleted l ∷ []
erase (inserted l) = []

-- ---- a journal up to a line (document 01's term)

-- "The journal up to a line ends before the next source line's record, or at the journal's end if there is none"
unfoldable pub up_to_line : ℕ → List Record → List Record
up_to_line n [] = []
up_to_line n (inserted l ∷ rs) = inserted l ∷ up_to_line n rs
up_to_line zero (kept l ∷ rs) = []
up_to_line zero (changed o m ∷ rs) = []
up_to_line zero (deleted l ∷ rs) = []
up_to_line (suc n) (kept l ∷ rs) = kept l ∷ up_to_line n rs
up_to_line (suc n) (changed o m ∷ rs) = changed o m ∷ up_to_line n rs
up_to_line (suc n) (deleted l ∷ rs) = deleted l ∷ up_to_line n rs

-- what follows the journal up to a line
unfoldable pub after_line : ℕ → List Record → List Record
after_line n [] = []
after_line n (inserted l ∷ rs) = after_line n rs
after_line zero (kept l ∷ rs) = kept l ∷ rs
after_line zero (changed o m ∷ rs) = changed o m ∷ rs
after_line zero (deleted l ∷ rs) = deleted l ∷ rs
after_line (suc n) (kept l ∷ rs) = after_line n rs
after_line (suc n) (changed o m ∷ rs) = after_line n rs
after_line (suc n) (deleted l ∷ rs) = after_line n rs

-- ---- a journal read back from bytes

-- a line of a journal by its mark
pub data Marked : Type 0 where
  kept_line changed_line deleted_line inserted_line : Line → Marked
  unmarked : Marked

unfoldable pub by_mark : ℕ → ℕ → Line → Marked
by_mark a b l =
    cond (eqb a 61 && eqb b 61) (kept_line l)
    (cond (eqb a 60 && eqb b 62) (changed_line l)
    (cond (eqb a 45 && eqb b 45) (deleted_line l)
    (cond (eqb a 43 && eqb b 43) (inserted_line l) unmarked)))

unfoldable pub marked : Line → Marked
marked [] = unmarked
marked (a ∷ []) = unmarked
marked (a ∷ b ∷ l) = by_mark a b l

-- the record `r` before the others, if it is `good` and they are records
unfoldable pub followed : Bool → Record → Option (List Record) → Option (List Record)
followed true r (some rs) = some (r ∷ rs)
followed true r none = none
followed false r rs = none

-- the records of a journal's lines; `some o`: the old line `o` of a changed record has gone by
unfoldable pub records_in : Option Line → List Line → Option (List Record)
records_in none [] = some []
records_in (some o) [] = none
records_in (some o) (n ∷ ls) = followed (is_line o && (is_line n && not (eq_line o n))) (changed o n) (records_in none ls)
records_in none (l ∷ ls) =
    elim (marked l) [
      | kept_line k ↦ followed (is_line k) (kept k) (records_in none ls)
      | changed_line o ↦ records_in (some o) ls
      | deleted_line k ↦ followed (is_line k) (deleted k) (records_in none ls)
      | inserted_line k ↦ followed (is_line k) (inserted k) (records_in none ls)
      | unmarked ↦ none
    ]

-- "or an old side of over 65,535 lines"
unfoldable pub few_old_lines : Option (List Record) → Option (List Record)
few_old_lines none = none
few_old_lines (some rs) = cond (leb (length (old_side rs)) 65535) (some rs) none

-- the records of a journal; none: "bytes that are no list of records as above, or an old side of over 65,535 lines" (11; R42)
unfoldable pub records_of : List ℕ → Option (List Record)
records_of j = cond (eqb (last_byte 10 j) 10) (few_old_lines (records_in none (lines_of j))) none
