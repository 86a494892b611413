-- The table of commands: a name that is in no row. Assumes nothing.
use mathlib.Core.Path.{◌≡◌, refl}
use mathlib.Core.List.{List, [], ◌∷◌}
use Prim.Native.Nat.{ℕ}
use borrow.Author.Tests.{ne_eqb}
use Rattle.definitions.specs.Reader.{packed}
use Rattle.definitions.specs.Commands.{unknown, Row, row, look_up}

-- what is known after the rows, each of which has another name; `N` is known before them
abbrev pub Missed : Type 0 → List Row → ℕ → Type 0
Missed N [] w = N
Missed N (row s shape ∷ rows) w = Missed (N × (w ≡ packed s → ⊥)) rows w

known : (N : Type 0) (rows : List Row) (w : ℕ) → Missed N rows w → N
known N [] w h = h
known N (row s shape ∷ rows) w h = (known (N × (w ≡ packed s → ⊥)) rows w h).0

pub in-no-row : (N : Type 0) (rows : List Row) (w : ℕ) → Missed N rows w → look_up rows w ≡ unknown
unfolding look_up
in-no-row N [] w h = refl
in-no-row N (row s shape ∷ rows) w h =
    rw (ne_eqb w (packed s) (known (N × (w ≡ packed s → ⊥)) rows w h).1, look_up) (in-no-row (N × (w ≡ packed s → ⊥)) rows w h)
