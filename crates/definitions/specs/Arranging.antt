-- Arranged journals (document 02, wish 6, "Replaced lines side by side": "Readers of the journal want what left before what came").
use Rattle.std.specs.Prelude.{List, [], ◌∷◌, ◌++◌}
use Rattle.definitions.specs.Journal.{Record, kept, changed, deleted, inserted}

-- "Each stretch without kept or changed records now has all its `--` records first, in old order, then all its `++` in new order" (W6.1). `came`: the `++`
-- records of the stretch so far; they stand after its last `--`.
unfoldable pub arrange_from : List Record → List Record → List Record
arrange_from came [] = came
arrange_from came (kept l ∷ rs) = came ++ (kept l ∷ arrange_from [] rs)
arrange_from came (changed o n ∷ rs) = came ++ (changed o n ∷ arrange_from [] rs)
arrange_from came (deleted l ∷ rs) = deleted l ∷ arrange_from came rs
arrange_from came (inserted l ∷ rs) = arrange_from (came ++ (inserted l ∷ [])) rs

unfoldable pub arrange : List Record → List Record
arrange rs = arrange_from [] rs
