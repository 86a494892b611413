-- Items last first, as the reader gathers them.
use Rattle.std.specs.Prelude.{◌≡◌, List, [], ◌∷◌, ℕ, ◌≤◌, max}
use Rattle.definitions.specs.Control.{Item}
use Rattle.items.specs.Words.{ItemAt}
use Rattle.items.specs.Depth.{open_after}

-- they lie in the words from 0 up to m
unfoldable pub Gathered : List ℕ → List ℕ → ℕ → List Item → Type 0
Gathered s w m [] = m ≡ 0
Gathered s w m (i ∷ acc) = (n : ℕ) × (n ≤ m) × ItemAt s w n m i × Gathered s w n acc

-- how many bodies are open after them, and the most at once
unfoldable pub open_in : List Item → ℕ
open_in [] = 0
open_in (i ∷ acc) = open_after (open_in acc) i

unfoldable pub most_in : List Item → ℕ
most_in [] = 0
most_in (i ∷ acc) = max (most_in acc) (open_after (open_in acc) i)
