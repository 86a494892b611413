-- The items of a script are as the run asks. Assumes nothing.
use mathlib.Core.Path.{◌≡◌, sym, subst}
use mathlib.Core.Bool.{true, false≢true}
use mathlib.Core.List.{List, [], ◌∷◌, ◌++◌, append_assoc}
use Prim.Native.Nat.{ℕ, ◌≤◌, ◌<◌}
use native.Mathlib.Omega.{arith}
use lib.ListN.{length}
use lib.Dec.{leb}
use borrow.Author.Tests.{leb-true, ltb-true}
use Rattle.definitions.specs.Bytes.{are_lines}
use Rattle.definitions.specs.Table.{is_script}
use Rattle.definitions.specs.Control.{times, forever, bare, branch, loop, Item, simple, seek, opens, bracket, close, otherwise, leave, line_end}
use Rattle.definitions.specs.Script.{items, read_script}
use Rattle.theorems.specs.Lines.{and_left, and_right}
use Rattle.theorems.specs.GoodItems.{good_opener, good_item, placed_in, all_items}
use Rattle.theorems.specs.Nesting.{nested}
use Rattle.theorems.specs.NestingLaws.{may_bracket}
use Rattle.theorems.proofs.NestingLaws.{bracket-follows}
use Rattle.theorems.proofs.ReadScript.{well-nested, items-placed, good-items}
use Rattle.items.specs.Ends.{place_of}
use Rattle.items.specs.Reserve.{ItemsReady}
use Rattle.control.specs.Items.{count_of, starts_group, Proper, Startable}

placed-low : (n : ℕ) (i : Item) → n ≤ 32768 → placed_in n i ≡ true → place_of i < 32768
unfolding placed_in place_of
placed-low n line_end le h = omega arith
placed-low n bracket le h = omega arith
placed-low n close le h = omega arith
placed-low n otherwise le h = omega arith
placed-low n (leave at) le h = omega (arith, le, ltb-true at n h)
placed-low n (simple at op) le h = omega (arith, le, ltb-true at n h)
placed-low n (seek at f se) le h = omega (arith, le, ltb-true at n h)
placed-low n (opens at o) le h = omega (arith, le, ltb-true at n h)

good-few : (i : Item) → good_item i ≡ true → count_of i < 65536
unfolding good_item good_opener count_of
good-few line_end h = omega arith
good-few bracket h = omega arith
good-few close h = omega arith
good-few otherwise h = omega arith
good-few (leave at) h = omega arith
good-few (simple at op) h = omega arith
good-few (seek at f se) h = omega arith
good-few (opens at (times n)) h = omega (arith, leb-true n 65535 h)
good-few (opens at forever) h = omega arith
good-few (opens at bare) h = omega arith
good-few (opens at (branch c)) h = omega arith
good-few (opens at (loop c)) h = omega arith

follows : (front : List Item) (i : Item) (rest : List Item) → nested (front ++ i ∷ rest) ≡ true → starts_group rest ≡ true → may_bracket i ≡ true
unfolding starts_group
follows front i [] h e = absurd (false≢true e)
follows front i (line_end ∷ rest) h e = absurd (false≢true e)
follows front i (bracket ∷ rest) h e = bracket-follows front i rest h
follows front i (close ∷ rest) h e = absurd (false≢true e)
follows front i (otherwise ∷ rest) h e = absurd (false≢true e)
follows front i (leave at ∷ rest) h e = absurd (false≢true e)
follows front i (simple at op ∷ rest) h e = absurd (false≢true e)
follows front i (seek at f se ∷ rest) h e = absurd (false≢true e)
follows front i (opens at o ∷ rest) h e = absurd (false≢true e)

proper-from : (n : ℕ) → n ≤ 32768 → (front rest : List Item) → nested (front ++ rest) ≡ true → all_items (placed_in n) rest ≡ true → all_items good_item rest ≡ true → Proper rest
unfolding Proper all_items
proper-from n le front [] nests placed good = tt
proper-from n le front (i ∷ rest) nests placed good = (
  placed-low n i le (and_left (placed_in n i) (all_items (placed_in n) rest) placed),
  good-few i (and_left (good_item i) (all_items good_item rest) good),
  follows front i rest nests,
  proper-from n le (front ++ i ∷ []) rest (subst (λ l. nested l ≡ true) (sym (append_assoc front (i ∷ []) rest)) nests)
      (and_right (placed_in n i) (all_items (placed_in n) rest) placed) (and_right (good_item i) (all_items good_item rest) good),
)

script-short : (s : List ℕ) → is_script s ≡ true → length s ≤ 32768
unfolding is_script
script-short s h = omega (arith, leb-true (length s) 16384 (and_left (leb (length s) 16384) (are_lines s) h))

items-proper : (s : List ℕ) (all : List Item) → is_script s ≡ true → read_script s ≡ items all → Proper all
items-proper s all h e = proper-from (length s) (script-short s h) [] all (well-nested s all e) (items-placed s all e) (good-items s all h e)

-- a script's items can be run
pub startable : (s w : List ℕ) (end : ℕ) (all : List Item) → is_script s ≡ true → read_script s ≡ items all → ItemsReady s w end all → Startable s w end all
startable s w end all h e ready = record { ready = ready; proper = items-proper s all h e }
