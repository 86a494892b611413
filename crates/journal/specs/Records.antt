-- The record that stands at a place of a journal's bytes, and the line that it gives to each view.
use Rattle.std.specs.Prelude.{◌≡◌, Bool, false, cond, ◌&&◌, List, [], ◌∷◌, ℕ, ◌+◌, ◌≤◌, ◌<◌, drop, eqb, Option, Some, None}
use Rattle.std.proofs.Math.Option.{Option as Maybe, none, some}
use Rattle.definitions.specs.Bytes.{Line, eq_line, lines_of, last_byte}
use Rattle.definitions.specs.Journal.{Record, kept, changed, deleted, inserted, records_in}
use Rattle.text.specs.Lines.{line_end, part}
use Rattle.journal.specs.declared.records.Mark.{Mark}
use Rattle.journal.specs.declared.records.Mark.TheVariants.{Kept, Changed, Deleted, Inserted}
use Rattle.journal.specs.declared.records.Extent.{Extent}
use Rattle.journal.specs.declared.records.View.{View}
use Rattle.journal.specs.declared.records.View.TheVariants.{OldSide, NewSide, Listing}
use Rattle.journal.specs.declared.records.Span.{Span}

-- `==` 61 61, `<>` 60 62, `--` 45 45, `++` 43 43
unfoldable pub mark_of : ℕ → ℕ → Option Mark
mark_of a b =
    cond (eqb a 61 && eqb b 61) (Some Kept)
    (cond (eqb a 60 && eqb b 62) (Some Changed)
    (cond (eqb a 45 && eqb b 45) (Some Deleted)
    (cond (eqb a 43 && eqb b 43) (Some Inserted) None)))

-- the mark that begins bytes
unfoldable pub mark_in : List ℕ → Option Mark
mark_in [] = None
mark_in (a ∷ []) = None
mark_in (a ∷ b ∷ bs) = mark_of a b

-- a changed record from `at`, its first line ended at `mid`, by the end of its second line
unfoldable pub after_second : ℕ → ℕ → Option ℕ → Option Extent
after_second at mid None = None
after_second at mid (Some end) = Some (record { at = at; mark = Changed; mid = mid; end = end })

-- a record from `at`, its first line ended at `mid`, by its mark
unfoldable pub after_first : List ℕ → ℕ → ℕ → Mark → Option Extent
after_first j at mid Kept = Some (record { at = at; mark = Kept; mid = mid; end = mid })
after_first j at mid Changed = after_second at mid (line_end (mid + 1) (drop (mid + 1) j))
after_first j at mid Deleted = Some (record { at = at; mark = Deleted; mid = mid; end = mid })
after_first j at mid Inserted = Some (record { at = at; mark = Inserted; mid = mid; end = mid })

unfoldable pub after_mark : List ℕ → ℕ → Mark → Option ℕ → Option Extent
after_mark j at m None = None
after_mark j at m (Some mid) = after_first j at mid m

unfoldable pub with_mark : List ℕ → ℕ → Option Mark → Option Extent
with_mark j at None = None
with_mark j at (Some m) = after_mark j at m (line_end (at + 2) (drop (at + 2) j))

-- the record of the bytes `j` at the place `at`
unfoldable pub record_at : List ℕ → ℕ → Option Extent
record_at j at = with_mark j at (mark_in (drop at j))

-- the record of a mark and its lines
unfoldable pub record_of : Mark → Line → Line → Record
record_of Kept a b = kept a
record_of Changed a b = changed a b
record_of Deleted a b = deleted a
record_of Inserted a b = inserted a

-- the record of an extent
unfoldable pub record_in : List ℕ → Extent → Record
record_in j x = record_of x.mark (part (x.at + 2) x.mid j) (part (x.mid + 1) x.end j)

-- a changed record's lines are equal
unfoldable pub equal_lines : Mark → Line → Line → Bool
equal_lines Kept a b = false
equal_lines Changed a b = eq_line a b
equal_lines Deleted a b = false
equal_lines Inserted a b = false

unfoldable pub unchanged_in : List ℕ → Extent → Bool
unchanged_in j x = equal_lines x.mark (part (x.at + 2) x.mid j) (part (x.mid + 1) x.end j)

-- the records of bytes, however many lines their old side has
unfoldable pub records_from : List ℕ → Maybe (List Record)
records_from bs = cond (eqb (last_byte 10 bs) 10) (records_in none (lines_of bs)) none

-- from the place `at` on the bytes `j` have the records `rs`
abbrev pub Left : List ℕ → ℕ → List Record → Type 0
Left j at rs = records_from (drop at j) ≡ some rs

-- an extent's places stand in order, and the next place is a number
pub record InOrder (x : Extent) : Type 0 where
  pub low : x.at + 2 ≤ x.mid
  pub high : x.mid ≤ x.end
  pub small : x.end < 18446744073709551615

-- an extent's first line, with its LF, and its second one
abbrev pub first_line : Extent → Span
first_line x = record { from = x.at + 2; to = x.mid + 1 }

abbrev pub last_line : Extent → Span
last_line x = record { from = x.mid + 1; to = x.end + 1 }

-- the line that an extent gives to the old side
unfoldable pub old_span : Mark → Extent → Option Span
old_span Kept x = Some (first_line x)
old_span Changed x = Some (first_line x)
old_span Deleted x = Some (first_line x)
old_span Inserted x = None

-- to the new side
unfoldable pub new_span : Mark → Extent → Option Span
new_span Kept x = Some (first_line x)
new_span Changed x = Some (last_line x)
new_span Deleted x = None
new_span Inserted x = Some (first_line x)

-- to a view
unfoldable pub view_span : View → Extent → Option Span
view_span OldSide x = old_span x.mark x
view_span NewSide x = new_span x.mark x
view_span Listing x = new_span x.mark x
