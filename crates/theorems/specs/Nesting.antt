-- When items are well nested, by reading them once: every close ends the body opened last and every body is closed; `bracket` stands only
-- directly after an opener or `otherwise`, and at most 16 groups are open; `otherwise` stands only in the first group of a body of a test that
-- is no loop's, and a group follows it; a body that is no group is one command or one body; `line_end` stands only outside all bodies.
use Rattle.std.specs.Prelude.{Bool, true, false, not, List, [], ◌∷◌, ℕ, suc, ltb}
use Rattle.std.proofs.Math.Option.{Option, none, some}
use Rattle.definitions.specs.Control.{Opener, times, forever, bare, branch, loop, Item, simple, seek, opens, bracket, close, otherwise, leave, line_end}

-- A body that is open: `due` directly after its opener; `inside` a group (`true`: `otherwise` may come); `due_group` directly after `otherwise`;
-- `filled` after the one command or body that it is, so that only its close may come
pub data Body : Type 0 where
  due : Opener → Body
  inside : Bool → Body
  due_group filled : Body

unfoldable pub is_branch : Opener → Bool
is_branch (times n) = false
is_branch forever = false
is_branch bare = false
is_branch (branch t) = true
is_branch (loop t) = false

unfoldable pub is_bare : Opener → Bool
is_bare (times n) = false
is_bare forever = false
is_bare bare = true
is_bare (branch t) = false
is_bare (loop t) = false

-- whether a command or an opener may come
unfoldable pub may_come : List Body → Bool
may_come [] = true
may_come (due o ∷ bodies) = not (is_bare o)
may_come (inside e ∷ bodies) = true
may_come (due_group ∷ bodies) = false
may_come (filled ∷ bodies) = false

-- the open bodies after a command, or after the close of one more
unfoldable pub fill : List Body → List Body
fill [] = []
fill (due o ∷ bodies) = filled ∷ bodies
fill (inside e ∷ bodies) = inside e ∷ bodies
fill (due_group ∷ bodies) = filled ∷ bodies
fill (filled ∷ bodies) = filled ∷ bodies

-- how many groups are open
unfoldable pub groups_in : List Body → ℕ
groups_in [] = 0
groups_in (due o ∷ bodies) = groups_in bodies
groups_in (inside e ∷ bodies) = suc (groups_in bodies)
groups_in (due_group ∷ bodies) = groups_in bodies
groups_in (filled ∷ bodies) = groups_in bodies

unfoldable pub provided : Bool → List Body → Option (List Body)
provided true bodies = some bodies
provided false bodies = none

unfoldable pub after_bracket : List Body → Option (List Body)
after_bracket [] = none
after_bracket (due o ∷ bodies) = provided (ltb (groups_in bodies) 16) (inside (is_branch o) ∷ bodies)
after_bracket (inside e ∷ bodies) = none
after_bracket (due_group ∷ bodies) = provided (ltb (groups_in bodies) 16) (inside false ∷ bodies)
after_bracket (filled ∷ bodies) = none

unfoldable pub after_close : List Body → Option (List Body)
after_close [] = none
after_close (due o ∷ bodies) = none
after_close (inside e ∷ bodies) = some (fill bodies)
after_close (due_group ∷ bodies) = none
after_close (filled ∷ bodies) = some (fill bodies)

unfoldable pub after_otherwise : List Body → Option (List Body)
after_otherwise [] = none
after_otherwise (due o ∷ bodies) = none
after_otherwise (inside e ∷ bodies) = provided e (due_group ∷ bodies)
after_otherwise (due_group ∷ bodies) = none
after_otherwise (filled ∷ bodies) = none

unfoldable pub are_none : List Body → Bool
are_none [] = true
are_none (b ∷ bodies) = false

-- the bodies that are open after an item, innermost first; none where it may not come
unfoldable pub after : Item → List Body → Option (List Body)
after (simple at op) bodies = provided (may_come bodies) (fill bodies)
after (seek at s se) bodies = provided (may_come bodies) (fill bodies)
after (leave at) bodies = provided (may_come bodies) (fill bodies)
after (opens at o) bodies = provided (may_come bodies) (due o ∷ bodies)
after bracket bodies = after_bracket bodies
after close bodies = after_close bodies
after otherwise bodies = after_otherwise bodies
after line_end bodies = provided (are_none bodies) bodies

unfoldable pub nested_from : List Body → List Item → Bool
nested_from bodies [] = are_none bodies
nested_from bodies (i ∷ rest) = elim (after i bodies) [ none ↦ false | some bodies' ↦ nested_from bodies' rest ]

unfoldable pub nested : List Item → Bool
nested all = nested_from [] all
