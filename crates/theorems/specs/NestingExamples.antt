-- The checker of nesting on small items: what it takes and what it refuses.
use Rattle.std.specs.Prelude.{◌≡◌, refl, true, false, [], ◌∷◌}
use Rattle.definitions.specs.Edit.{next_line, is_eof}
use Rattle.definitions.specs.Control.{times, forever, bare, branch, loop, simple, opens, bracket, close, otherwise, leave, line_end}
use Rattle.theorems.specs.Nesting.{is_branch, is_bare, may_come, fill, groups_in, provided, after_bracket, after_close, after_otherwise, are_none, after, nested_from, nested}

-- `nested`, with all that it is made of
unfoldable nesting : Unit {0}
unfolding is_branch is_bare may_come fill groups_in provided after_bracket after_close after_otherwise are_none after nested_from nested
nesting = tt

-- 2 IFEOF (N) ELSE (AGP) and a line end
takes-else : nested (opens 0 (times 2) ∷ opens 2 (branch is_eof) ∷ bracket ∷ simple 9 next_line ∷ otherwise ∷ bracket ∷ leave 18 ∷ close ∷ close ∷ line_end ∷ []) ≡ true
unfolding nesting
takes-else = refl

-- a close too many, and one too few
refuses-closes : (nested (simple 0 next_line ∷ close ∷ []) ≡ false) × (nested (opens 0 forever ∷ simple 3 next_line ∷ []) ≡ false)
unfolding nesting
refuses-closes = (refl, refl)

-- a group that follows no opener, a bare group without its bracket, a second command in a body that is no group
refuses-brackets : (nested (simple 0 next_line ∷ bracket ∷ []) ≡ false) × (nested (opens 0 bare ∷ simple 1 next_line ∷ close ∷ []) ≡ false)
    × (nested (opens 0 forever ∷ simple 3 next_line ∷ simple 4 next_line ∷ close ∷ []) ≡ false)
unfolding nesting
refuses-brackets = (refl, refl, refl)

-- ELSE after a loop's group, a second ELSE, a line end in a group
refuses-otherwise : (nested (opens 0 (loop is_eof) ∷ bracket ∷ otherwise ∷ bracket ∷ close ∷ []) ≡ false)
    × (nested (opens 0 (branch is_eof) ∷ bracket ∷ otherwise ∷ bracket ∷ otherwise ∷ bracket ∷ close ∷ []) ≡ false)
    × (nested (opens 0 forever ∷ bracket ∷ line_end ∷ close ∷ []) ≡ false)
unfolding nesting
refuses-otherwise = (refl, refl, refl)
