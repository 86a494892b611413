-- What a case calls.
use Rattle.std.specs.Prelude.{cond, ◌&&◌, ◌||◌, List, ℕ, eqb, ltb}
use Rattle.definitions.specs.Listing.{Written, old_side_to, new_side_to, listing_to}
use Rattle.definitions.specs.Joining.{join_to, turn_to}
use Rattle.vectors.specs.declared.sides.Side.{Side}
use Rattle.vectors.specs.declared.sides.Side.TheVariants.{Old, New, Listing}
use Rattle.vectors.specs.declared.journals.Work.{Work}
use Rattle.vectors.specs.declared.journals.Work.TheVariants.{Join, Turn}

-- a side or the listing of the journal j, written into dest
unfoldable pub read_to : Side → List ℕ → List ℕ → Written
read_to Old j dest = old_side_to j dest
read_to New j dest = new_side_to j dest
read_to Listing j dest = listing_to j dest

-- the journals j and k joined, or j turned round, written into dest
unfoldable pub made_to : Work → List ℕ → List ℕ → List ℕ → Written
made_to Join j k dest = join_to j k dest
made_to Turn j k dest = turn_to j dest

-- the bytes past the journal: 7, as before, where the run was refused (1 to 9, and 33 and 34 by document 02, wishes 8 and 9); else 0
unfoldable pub rest_after : ℕ → ℕ
rest_after number = cond (eqb number 33 || eqb number 34 || (ltb 0 number && ltb number 10)) 7 0
