-- How many bodies items open at once.
use Rattle.std.specs.Prelude.{List, [], ◌∷◌, ℕ, ◌+◌, ◌-◌, max}
use Rattle.definitions.specs.Control.{Item, simple, seek, opens, bracket, close, otherwise, leave, line_end}

-- how many bodies are open after an item, d before it
unfoldable pub open_after : ℕ → Item → ℕ
open_after d line_end = d
open_after d bracket = d
open_after d close = d - 1
open_after d otherwise = d
open_after d (leave at) = d
open_after d (simple at op) = d
open_after d (seek at f se) = d
open_after d (opens at o) = d + 1

-- the most bodies open at once, d of them open before the items
unfoldable pub deepest : ℕ → List Item → ℕ
deepest d [] = d
deepest d (i ∷ items) = max d (deepest (open_after d i) items)
