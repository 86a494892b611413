-- What holds of each item so far holds after the reader's marks and closes, and in reading order; and how many items these are.
use Rattle.std.specs.Prelude.{◌≡◌, refl, Bool, true, length}
use mathlib.Core.List.{List, [], ◌∷◌, reverse_aux}
use Prim.Native.Nat.{ℕ, zero, suc, ◌+◌}
use Rattle.std.proofs.Common.{arith}
use Rattle.definitions.specs.Control.{Item, bare, opens, bracket, close, otherwise, line_end}
use Rattle.definitions.specs.Script.{Due, nothing, body, Group, closes, group_items, line_items}
use Rattle.theorems.specs.Lines.{and_both, and_left, and_right}
use Rattle.theorems.specs.GoodItems.{good_opener, good_item, placed_in, all_items}

-- a test that the items without a place pass
pub record PassesMarks (test : Item → Bool) : Type 0 where
  pub at_bracket : test bracket ≡ true
  pub at_close : test close ≡ true
  pub at_otherwise : test otherwise ≡ true
  pub at_line_end : test line_end ≡ true

pub good-marks : PassesMarks good_item
unfolding good_item
good-marks = record { at_bracket = refl; at_close = refl; at_otherwise = refl; at_line_end = refl }

pub placed-marks : (n : ℕ) → PassesMarks (placed_in n)
unfolding placed_in
placed-marks n = record { at_bracket = refl; at_close = refl; at_otherwise = refl; at_line_end = refl }

pub bare-good : (at : ℕ) → good_item (opens at bare) ≡ true
unfolding good_item good_opener
bare-good at = refl

pub cons-all : (test : Item → Bool) (i : Item) (acc : List Item) → test i ≡ true → all_items test acc ≡ true → all_items test (i ∷ acc) ≡ true
unfolding all_items
cons-all test i acc p q = and_both (test i) (all_items test acc) p q

pub reverse-all : (test : Item → Bool) (acc rest : List Item) → all_items test acc ≡ true → all_items test rest ≡ true
    → all_items test (reverse_aux acc rest) ≡ true
unfolding all_items
reverse-all test [] rest g h = h
reverse-all test (i ∷ acc) rest g h = reverse-all test acc (i ∷ rest) (and_right (test i) (all_items test acc) g)
    (and_both (test i) (all_items test rest) (and_left (test i) (all_items test acc) g) h)

module _ (test : Item → Bool) (marks : PassesMarks test) where
  pub closes-all : (k : ℕ) (acc : List Item) → all_items test acc ≡ true → all_items test (closes k acc) ≡ true
  unfolding closes
  closes-all zero acc g = g
  closes-all (suc k) acc g = closes-all k (close ∷ acc) (cons-all test close acc marks.at_close g)

  pub group-all : (d : Due) (at : ℕ) (acc : List Item) → test (opens at bare) ≡ true → all_items test acc ≡ true → all_items test (group_items d at acc) ≡ true
  unfolding group_items
  group-all nothing at acc b g = cons-all test bracket (opens at bare ∷ acc) marks.at_bracket (cons-all test (opens at bare) acc b g)
  group-all (body k e) at acc b g = cons-all test bracket acc marks.at_bracket g

  pub else-all : (acc : List Item) → all_items test acc ≡ true → all_items test (bracket ∷ otherwise ∷ acc) ≡ true
  else-all acc g = cons-all test bracket (otherwise ∷ acc) marks.at_bracket (cons-all test otherwise acc marks.at_otherwise g)

  pub line-all : (groups : List Group) (acc : List Item) → all_items test acc ≡ true → all_items test (line_items groups acc) ≡ true
  unfolding line_items
  line-all [] acc g = cons-all test line_end acc marks.at_line_end g
  line-all (x ∷ groups) acc g = g

-- ---- how many

pub closes-length : (k : ℕ) (acc : List Item) → length (closes k acc) ≡ k + length acc
unfolding closes
closes-length zero acc = omega arith
closes-length (suc k) acc = omega (arith, closes-length k (close ∷ acc))
