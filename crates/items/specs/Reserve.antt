-- The reserve: words of the work area that the run keeps for itself.
use Rattle.std.specs.Prelude.{List, ℕ, ◌+◌, ◌≤◌, length}
use Rattle.definitions.specs.Control.{Item}
use Rattle.items.specs.Words.{ItemsAt}
use Rattle.items.specs.Depth.{deepest}

-- the last 51 words of the work area as it is lent: 16 for standing globals, 3 for the word set, 16 for returns of calls, 16 for procedures. No item and
-- no body's word stands there. While the script is read the open groups do, in the last 16
abbrev pub reserve : ℕ
reserve = 51

-- the items lie in the words below `end`, with room above them for one word for each body that is open at once, and below the reserve
pub record ItemsReady (s w : List ℕ) (end : ℕ) (items : List Item) : Type 0 where
  pub lie : ItemsAt s w 0 end items
  pub room : end + deepest 0 items + reserve ≤ length w
  pub short : end ≤ 65536
