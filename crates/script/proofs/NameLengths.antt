-- The names of prefixes have two letters at least. Assumes nothing.
use mathlib.Core.Path.{◌≡◌, refl, sym, ap, ◌∙◌}
use mathlib.Core.Bool.{Bool, true, false, ◌&&◌, false≢true}
use mathlib.Core.List.{List, [], ◌∷◌}
use Prim.Native.Nat.{ℕ, ◌+◌, ◌≤◌}
use native.Mathlib.Omega.{arith}
use lib.Dec.{eqb, leb}
use borrow.Author.Tests.{eqb-true, leb-true}
use Rattle.definitions.specs.Reader.{packed, packed_from}
use Rattle.definitions.specs.Commands.{Shape, plain, leaves, seeks, moves, deletes, inserts_string, inserts_lines, replaces, alters, points, splits, joins, globals, names_words, repeats, branches, branches_eof, loops, unknown, Row, row, command_table, look_up, shape_of}
use Rattle.theorems.specs.Lines.{and_left, and_right}
use Rattle.lexer.specs.Shapes.{shape_in}
use Rattle.lexer.specs.declared.shapes.Shape.{Shape as ShapeHere}
use Rattle.lexer.specs.declared.shapes.Shape.TheVariants.{Plain, Leaves, Seeks, Moves, Deletes, InsertsString, InsertsLines, Replaces, Alters, Points, Splits, Joins, Globals, Names, Repeats, Branches, BranchesEof, Loops, Unknown}
use Rattle.script.specs.Searches.{NameOf}

-- what opens a body
unfoldable is_prefix : Shape → Bool
is_prefix (plain op) = false
is_prefix leaves = false
is_prefix (seeks s) = false
is_prefix moves = false
is_prefix deletes = false
is_prefix inserts_string = false
is_prefix inserts_lines = false
is_prefix replaces = false
is_prefix (alters c p) = false
is_prefix (points a) = false
is_prefix (splits a) = false
is_prefix joins = false
is_prefix (globals c) = false
is_prefix names_words = false
is_prefix repeats = true
is_prefix (branches b) = true
is_prefix branches_eof = true
is_prefix (loops b) = true
is_prefix unknown = false

-- a row of a prefix has a name of more than one letter
unfoldable long : Bool → ℕ → Bool
long true n = leb 256 n
long false n = true

unfoldable all_long : List Row → Bool
all_long [] = true
all_long (row s shape ∷ rows) = long (is_prefix shape) (packed s) && all_long rows

looked : (rows : List Row) (w : ℕ) → all_long rows ≡ true → is_prefix (look_up rows w) ≡ true → 256 ≤ w
unfolding all_long look_up is_prefix long
looked [] w a t = absurd (false≢true t)
looked (row s shape ∷ rows) w a t =
    go (eqb w (packed s)) refl (is_prefix shape) refl (and_left (long (is_prefix shape) (packed s)) (all_long rows) a) (λ u. looked rows w (and_right (long (is_prefix shape) (packed s)) (all_long rows) a) u) t
  where
    go : (e : Bool) → eqb w (packed s) ≡ e → (i : Bool) → is_prefix shape ≡ i → long (is_prefix shape) (packed s) ≡ true → (is_prefix (look_up rows w) ≡ true → 256 ≤ w)
        → is_prefix (elim e [ true ↦ shape | false ↦ look_up rows w ]) ≡ true → 256 ≤ w
    go true p true q l rest u = omega (arith, leb-true 256 (packed s) (rw q at l), eqb-true w (packed s) p)
    go true p false q l rest u = absurd (false≢true (sym q ∙ u))
    go false p i q l rest u = rest u

table-long : all_long command_table ≡ true
unfolding all_long command_table long is_prefix packed packed_from
table-long = refl

prefix-long : (w : ℕ) (shape : Shape) → shape_of w ≡ shape → is_prefix shape ≡ true → 256 ≤ w
unfolding shape_of
prefix-long w shape e t = looked command_table w table-long (ap is_prefix e ∙ t)

pub prefix-name : (w : ℕ) (shape : ShapeHere) (place at : ℕ) → shape_of w ≡ shape_in shape → (256 ≤ w → place + 2 ≤ at) → NameOf shape place at
unfolding NameOf shape_in is_prefix
prefix-name w (Plain p) place at e h = tt
prefix-name w Leaves place at e h = tt
prefix-name w (Seeks s) place at e h = tt
prefix-name w Moves place at e h = tt
prefix-name w Deletes place at e h = tt
prefix-name w InsertsString place at e h = tt
prefix-name w InsertsLines place at e h = tt
prefix-name w Replaces place at e h = tt
prefix-name w (Alters c p) place at e h = tt
prefix-name w (Points a) place at e h = tt
prefix-name w (Splits a) place at e h = tt
prefix-name w Joins place at e h = tt
prefix-name w (Globals c) place at e h = tt
prefix-name w Names place at e h = tt
prefix-name w Repeats place at e h = h (prefix-long w repeats e refl)
prefix-name w (Branches b) place at e h = h (prefix-long w (branches b) e refl)
prefix-name w BranchesEof place at e h = h (prefix-long w branches_eof e refl)
prefix-name w (Loops b) place at e h = h (prefix-long w (loops b) e refl)
prefix-name w Unknown place at e h = tt
