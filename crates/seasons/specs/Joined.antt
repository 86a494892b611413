-- What two journals leave from places on, and stretches of it.
use Rattle.std.specs.Prelude.{◌≡◌, Bool, true, false, List, [], ◌∷◌, ◌++◌, ℕ, ◌+◌, ◌<◌, ltb, Option, Some, None, Result, Ok, Err}
use Rattle.definitions.specs.Journal.{Record, kept, changed, deleted, inserted, old_side, new_side, journal_length, journal_bytes}
use Rattle.definitions.specs.Arranging.{arrange}
use Rattle.definitions.specs.Joining.{by_middle, eq_lines}
use Rattle.theorems.specs.Arranged.{gone_in, came_in}
use Rattle.journal.specs.Views.{Puts}
use Rattle.journal.specs.declared.records.Span.{Span}
use Rattle.journal.specs.declared.Refusal.{Refusal}
use Rattle.journal.specs.declared.Refusal.TheVariants.{Short, Differ}
use Rattle.middle.specs.Middle.{next_at}
use Rattle.middle.specs.Leaving.{At}
use Rattle.middle.specs.declared.Places.{Places}
use Rattle.middle.specs.declared.Texts.{Texts}
use Rattle.middle.specs.declared.Next.{Next}
use Rattle.seasons.specs.declared.write.Row.{Row}
use Rattle.seasons.specs.declared.write.Kind.{Kind}
use Rattle.seasons.specs.declared.write.Kind.TheVariants.{WhatLeft, WhatCame}

-- from the places `p` on the middle tables agree, and `w` is what both journals leave, in their order
pub record Due (j k : List ℕ) (p : Places) (w : List Record) : Type 0 where
  pub rs : List Record
  pub ss : List Record
  pub at : At j k p rs ss
  pub agree : new_side rs ≡ old_side ss
  pub joined : w ≡ by_middle rs ss

-- the start of both journals
abbrev pub start : Places
start = record { first = 0; second = 0 }

-- what is found of two journals: `agree`, their middle tables agree; `short`, what they leave does not fit; else it has `n` bytes
unfoldable pub measured : Bool → Bool → ℕ → Result ℕ Refusal
measured false short n = Err Differ
measured true true n = Err Short
measured true false n = Ok n

unfoldable pub found : List Record → List Record → ℕ → Result ℕ Refusal
found rs ss size = measured (eq_lines (new_side rs) (old_side ss)) (ltb size (journal_length (by_middle rs ss))) (journal_length (by_middle rs ss))

-- a line with both texts
unfoldable pub both_there : Option Span → Option Span → Bool
both_there (Some o) (Some n) = true
both_there (Some o) None = false
both_there None n = false

unfoldable pub is_both : Texts → Bool
unfolding both_there
is_both line = both_there line.old line.new

-- the `--` and `++` records that stand first
unfoldable pub stretch : List Record → List Record
stretch [] = []
stretch (kept l ∷ rs) = []
stretch (changed o n ∷ rs) = []
stretch (deleted l ∷ rs) = deleted l ∷ stretch rs
stretch (inserted l ∷ rs) = inserted l ∷ stretch rs

-- what follows them
unfoldable pub after_stretch : List Record → List Record
after_stretch [] = []
after_stretch (kept l ∷ rs) = kept l ∷ rs
after_stretch (changed o n ∷ rs) = changed o n ∷ rs
after_stretch (deleted l ∷ rs) = after_stretch rs
after_stretch (inserted l ∷ rs) = after_stretch rs

-- the records of one kind
unfoldable pub of_kind : Kind → List Record → List Record
of_kind WhatLeft rs = gone_in rs
of_kind WhatCame rs = came_in rs

-- the second places are further on
abbrev pub Further : Places → Places → Type 0
Further p q = p.first + p.second < q.first + q.second

-- the records of one kind of the stretch that `w` begins with are written over d at `out`, which gives d'; `row` is where that stretch ends, and where
-- the next record goes
pub record RowPut (kind : Kind) (j k : List ℕ) (p : Places) (w : List Record) (d : List ℕ) (out : ℕ) (d' : List ℕ) (row : Row) : Type 0 where
  pub due : Due j k row.end (after_stretch w)
  pub puts : Puts (journal_bytes (of_kind kind (stretch w))) d out d' row.out
  -- where a line of it comes next, the stretch ends further on
  pub further : (n : Next) → next_at j k p ≡ Ok (Some n) → is_both n.line ≡ false → Further p row.end

-- the first part of `w`, arranged, is written; what is due after it begins further on
pub record Advances (j k : List ℕ) (p : Places) (w : List Record) (d : List ℕ) (out : ℕ) (d' : List ℕ) (row : Row) : Type 0 where
  pub part : List Record
  pub rest : List Record
  pub due : Due j k row.end rest
  pub arranged : arrange w ≡ part ++ arrange rest
  pub puts : Puts (journal_bytes part) d out d' row.out
  pub further : Further p row.end
