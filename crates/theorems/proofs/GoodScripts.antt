-- Every command of a script is within document 01's bounds: the reader's theorem `good-items` in the terms of a run's steps.
use Rattle.std.specs.Prelude.{◌≡◌, true, List, [], ◌∷◌, ℕ}
use Rattle.definitions.specs.Table.{is_script}
use Rattle.definitions.specs.Control.{Item, simple, seek, opens, bracket, close, otherwise, leave, line_end}
use Rattle.definitions.specs.Script.{items, read_script}
use Rattle.theorems.specs.Lines.{and_left, and_right}
use Rattle.theorems.specs.GoodItems.{good_op, good_item, all_items}
use Rattle.theorems.specs.Runs.{ItemOf}
use Rattle.theorems.specs.GoodSteps.{GoodItems}
use Rattle.theorems.proofs.ReadScript.{good-items}

command-good : (i : Item) → good_item i ≡ true → ItemOf (λ op. good_op op ≡ true) i
unfolding good_item
command-good (simple at op) h = h
command-good (seek at s se) h = tt
command-good (opens at o) h = tt
command-good bracket h = tt
command-good close h = tt
command-good otherwise h = tt
command-good (leave at) h = tt
command-good line_end h = tt

commands-good : (all : List Item) → all_items good_item all ≡ true → GoodItems all
unfolding all_items
commands-good [] h = tt
commands-good (i ∷ rest) h = (command-good i (and_left (good_item i) (all_items good_item rest) h), commands-good rest (and_right (good_item i) (all_items good_item rest) h))

-- every simple command of a script is within document 01's bounds
pub good-commands : (script : List ℕ) → is_script script ≡ true → (all : List Item) → read_script script ≡ items all → GoodItems all
good-commands script h all e = commands-good all (good-items script all h e)
