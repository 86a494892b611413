-- What comes next of two journals that are gone through by the lines of the middle table.
use Rattle.std.specs.Prelude.{Bool, false, cond, List, ℕ, ◌+◌, ◌-◌, Option, Some, None, Result, Ok, Err}
use Rattle.definitions.specs.Bytes.{eq_line}
use Rattle.text.specs.Lines.{part}
use Rattle.journal.specs.Records.{record_at, first_line, old_span, new_span}
use Rattle.journal.specs.declared.records.Mark.{Mark}
use Rattle.journal.specs.declared.records.Mark.TheVariants.{Kept, Changed, Deleted, Inserted}
use Rattle.journal.specs.declared.records.Extent.{Extent}
use Rattle.journal.specs.declared.records.Span.{Span}
use Rattle.journal.specs.declared.Refusal.{Refusal}
use Rattle.journal.specs.declared.Refusal.TheVariants.{Differ}
use Rattle.middle.specs.declared.Places.{Places}
use Rattle.middle.specs.declared.Texts.{Texts}
use Rattle.middle.specs.declared.Next.{Next}

-- what comes next: a line, the end of both journals where there is none, or that the middle tables differ
abbrev pub Coming : Type 0
Coming = Result (Option Next) Refusal

-- the line of a record that the first journal deletes, or that the second inserts
unfoldable pub left_next : Extent → Places → Next
left_next x p = record { line = record { old = Some (first_line x); new = None }; after = record { first = x.end + 1; second = p.second } }

unfoldable pub came_next : Extent → Places → Next
came_next y p = record { line = record { old = None; new = Some (first_line y) }; after = record { first = p.first; second = y.end + 1 } }

-- the first journal has ended: by the second's next record
unfoldable pub rest_by : Mark → Extent → Places → Coming
rest_by Kept y p = Err Differ
rest_by Changed y p = Err Differ
rest_by Deleted y p = Err Differ
rest_by Inserted y p = Ok (Some (came_next y p))

unfoldable pub at_end : Option Extent → Places → Coming
at_end None p = Ok None
at_end (Some y) p = rest_by y.mark y p

-- the texts of a middle line
abbrev pub texts_of : Option Span → Option Span → Texts
texts_of old new = record { old = old; new = new }

-- two spans have the same line
unfoldable pub same_spans : List ℕ → List ℕ → Option Span → Option Span → Bool
same_spans j k (Some s) (Some t) = eq_line (part s.from (s.to - 1) j) (part t.from (t.to - 1) k)
same_spans j k (Some s) None = false
same_spans j k None t = false

-- a middle line, by its record in each journal
unfoldable pub met_by : List ℕ → List ℕ → Extent → Extent → Coming
met_by j k x y =
    cond (same_spans j k (new_span x.mark x) (old_span y.mark y))
    (Ok (Some (record { line = texts_of (old_span x.mark x) (new_span y.mark y); after = record { first = x.end + 1; second = y.end + 1 } }))) (Err Differ)

-- the first journal's next line is a middle line, that of `x`: by the second's next record
unfoldable pub middle_by : List ℕ → List ℕ → Mark → Extent → Extent → Places → Coming
middle_by j k Kept x y p = met_by j k x y
middle_by j k Changed x y p = met_by j k x y
middle_by j k Deleted x y p = met_by j k x y
middle_by j k Inserted x y p = Ok (Some (came_next y p))

unfoldable pub at_middle_line : List ℕ → List ℕ → Extent → Option Extent → Places → Coming
at_middle_line j k x None p = Err Differ
at_middle_line j k x (Some y) p = middle_by j k y.mark x y p

-- by the first journal's next record
unfoldable pub next_by : List ℕ → List ℕ → Mark → Extent → Places → Coming
next_by j k Kept x p = at_middle_line j k x (record_at k p.second) p
next_by j k Changed x p = at_middle_line j k x (record_at k p.second) p
next_by j k Deleted x p = Ok (Some (left_next x p))
next_by j k Inserted x p = at_middle_line j k x (record_at k p.second) p

unfoldable pub next_from : List ℕ → List ℕ → Option Extent → Places → Coming
next_from j k None p = at_end (record_at k p.second) p
next_from j k (Some x) p = next_by j k x.mark x p

-- what comes next of the journals `j` and `k` from the places `p` on
unfoldable pub next_at : List ℕ → List ℕ → Places → Coming
next_at j k p = next_from j k (record_at j p.first) p
