-- Whether joining and turning round take a journal (document 02, wish 7).
use Rattle.std.specs.Prelude.{Bool, true, false, List}
use Rattle.std.proofs.Math.Option.{Option, none, some}
use Rattle.definitions.specs.Journal.{Record}
use Rattle.journal.specs.declared.records.Mark.{Mark}
use Rattle.journal.specs.declared.records.Mark.TheVariants.{Kept, Changed, Deleted, Inserted}

-- there are records
unfoldable pub is_taken : Option (List Record) → Bool
is_taken none = false
is_taken (some rs) = true

-- a `--` record
unfoldable pub is_left : Mark → Bool
is_left Kept = false
is_left Changed = false
is_left Deleted = true
is_left Inserted = false

-- a `++` of the stretch has gone by after a record, if `came` before it
unfoldable pub came_after : Bool → Mark → Bool
came_after came Kept = false
came_after came Changed = false
came_after came Deleted = came
came_after came Inserted = true
