-- What the run asks of items.
use Rattle.std.specs.Prelude.{◌≡◌, Bool, true, false, List, [], ◌∷◌, ℕ, ◌<◌}
use Rattle.definitions.specs.Control.{times, forever, bare, branch, loop, Item, simple, seek, opens, bracket, close, otherwise, leave, line_end}
use Rattle.theorems.specs.NestingLaws.{may_bracket}
use Rattle.items.specs.Ends.{place_of}
use Rattle.items.specs.Reserve.{ItemsReady}

-- a count; 0 where an item is none
unfoldable pub count_of : Item → ℕ
count_of line_end = 0
count_of bracket = 0
count_of close = 0
count_of otherwise = 0
count_of (leave at) = 0
count_of (simple at op) = 0
count_of (seek at f se) = 0
count_of (opens at (times n)) = n
count_of (opens at forever) = 0
count_of (opens at bare) = 0
count_of (opens at (branch c)) = 0
count_of (opens at (loop c)) = 0

-- a body that is these items is a group
unfoldable pub starts_group : List Item → Bool
starts_group [] = false
starts_group (line_end ∷ items) = false
starts_group (bracket ∷ items) = true
starts_group (close ∷ items) = false
starts_group (otherwise ∷ items) = false
starts_group (leave at ∷ items) = false
starts_group (simple at op ∷ items) = false
starts_group (seek at f se ∷ items) = false
starts_group (opens at o ∷ items) = false

-- places below 32,768, so that a count of one word can stand above its place; counts below 65,536, so that the rounds left can stand above an
-- index; `bracket` only directly after an opener or ELSE
unfoldable pub Proper : List Item → Type 0
Proper [] = Unit {0}
Proper (i ∷ items) = (place_of i < 32768) × (count_of i < 65536) × (starts_group items ≡ true → may_bracket i ≡ true) × Proper items

-- the items of a script in the words below `end`, from which a run can start
pub record Startable (s w : List ℕ) (end : ℕ) (items : List Item) : Type 0 where
  pub ready : ItemsReady s w end items
  pub proper : Proper items
