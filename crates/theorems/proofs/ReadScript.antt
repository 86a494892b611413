-- What every reading of a script comes to: a refusal with a number and a place of document 01, or items that are well nested and within bounds.
use Rattle.std.specs.Prelude.{◌≡◌, refl, Bool, true, false, ◌&&◌, ◌||◌, ◌⊎◌, List, ℕ, ◌*◌, ◌≤◌, length, leb}
use Rattle.std.proofs.Common.{subst, inl, inr, arith, leb-true}
use Rattle.definitions.specs.Table.{is_script}
use Rattle.definitions.specs.Control.{Item}
use Rattle.definitions.specs.Script.{Script, items, refused_at, read_script}
use Rattle.theorems.specs.Lines.{and_left, and_right}
use Rattle.theorems.specs.GoodItems.{good_item, placed_in, all_items}
use Rattle.theorems.specs.Nesting.{nested}
use Rattle.theorems.specs.ReaderSteps.{Sound, is_refusal}
use Rattle.theorems.proofs.ScriptSteps.{Fine, accepted, rejected, script-fine}

fine : (s : List ℕ) (r : Script) → read_script s ≡ r → Fine s r
fine s r e = subst (Fine s) e (script-fine s)

refusal : {s : List ℕ} {n at : ℕ} → Fine s (refused_at n at) → (is_refusal n ≡ true) × (at ≤ length s)
refusal (rejected e le) = (e, le)

-- what is known of accepted items
record Accepted (s : List ℕ) (all : List Item) : Type 0 where
  nests : nested all ≡ true
  placed : all_items (placed_in (length s)) all ≡ true
  few : length all ≤ 2 * length s
  good : Sound s (all_items good_item all)

acceptance : {s : List ℕ} {all : List Item} → Fine s (items all) → Accepted s all
acceptance (accepted n p l g) = record { nests = n; placed = p; few = l; good = g }

-- a refusal's number is 2, 3, 4, 5, 6, 33 or 34
pub refusal-numbers : (s : List ℕ) (n at : ℕ) → read_script s ≡ refused_at n at → ((2 ≤ n) × (n ≤ 6)) ⊎ ((33 ≤ n) × (n ≤ 34))
refusal-numbers s n at e = numbers (leb 2 n && leb n 6) refl (refusal (fine s (refused_at n at) e)).0
  where
    between : (i j : ℕ) → (leb i n && leb n j) ≡ true → (i ≤ n) × (n ≤ j)
    between i j h = (leb-true i n (and_left (leb i n) (leb n j) h), leb-true n j (and_right (leb i n) (leb n j) h))

    numbers : (t : Bool) → (leb 2 n && leb n 6) ≡ t → (t || (leb 33 n && leb n 34)) ≡ true → ((2 ≤ n) × (n ≤ 6)) ⊎ ((33 ≤ n) × (n ≤ 34))
    numbers true h q = inl (between 2 6 h)
    numbers false h q = inr (between 33 34 q)

-- the reader's fuel and rounds are enough for every script: their want, number 0, is never the answer
pub fuel-suffices : (s : List ℕ) (at : ℕ) → read_script s ≡ refused_at 0 at → ⊥
fuel-suffices s at e = by (refusal-numbers s 0 at e)
  where
    by : ((2 ≤ 0) × (0 ≤ 6)) ⊎ ((33 ≤ 0) × (0 ≤ 34)) → ⊥
    by (inl k) = omega (arith, k.0)
    by (inr k) = omega (arith, k.0)

-- a refusal's place is in the script, or at its end
pub place-within : (s : List ℕ) (n at : ℕ) → read_script s ≡ refused_at n at → at ≤ length s
place-within s n at e = (refusal (fine s (refused_at n at) e)).1

-- the items of an accepted script are well nested
pub well-nested : (s : List ℕ) (all : List Item) → read_script s ≡ items all → nested all ≡ true
well-nested s all e = (acceptance (fine s (items all) e)).nests

-- their places are places of bytes of the script
pub items-placed : (s : List ℕ) (all : List Item) → read_script s ≡ items all → all_items (placed_in (length s)) all ≡ true
items-placed s all e = (acceptance (fine s (items all) e)).placed

-- there are at most twice as many of them as the script has bytes
pub items-few : (s : List ℕ) (all : List Item) → read_script s ≡ items all → length all ≤ 2 * length s
items-few s all e = (acceptance (fine s (items all) e)).few

-- their strings and lines are lines, their strings with R are patterns, and their numbers are within bounds
pub good-items : (s : List ℕ) (all : List Item) → is_script s ≡ true → read_script s ≡ items all → all_items good_item all ≡ true
good-items s all h e = (acceptance (fine s (items all) e)).good h
