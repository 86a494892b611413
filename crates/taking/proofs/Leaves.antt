-- The tests and choices at one place of the line, a law for each way out of the code. Assumes nothing.
use Rattle.std.specs.Prelude.{Some, None}
use mathlib.Core.Path.{◌≡◌, refl}
use mathlib.Core.Bool.{Bool, true, false, cond, not}
use Prim.Native.Nat.{ℕ, ◌-◌, ◌≤◌, ◌<◌}
use lib.ListN.{get_or}
use lib.Dec.{ltb}
use borrow.Author.Tests.{lt-ltb, le-ltb, eq-eqb, ne_eqb}
use Rattle.definitions.specs.Bytes.{Line}
use Rattle.definitions.specs.Matching.{byte_before}
use Rattle.marks.specs.Sweeping.{never}
use Rattle.taking.specs.Ways.{found-at, found_of, ending_at, best_of, best_with, is_at, is_free, enter_at, ends_at}
use Rattle.taking.specs.declared.Way.{Way}
use Rattle.taking.specs.declared.Best.{Best}

-- ---- one place is the other, or that is not asked for

pub at_same : (asked : Bool) (a b : ℕ) → a ≡ b → is_at asked a b ≡ true
unfolding is_at
at_same true a b e = eq-eqb a b e
at_same false a b e = refl

pub at-any : (asked : Bool) (a b : ℕ) → asked ≡ false → is_at asked a b ≡ true
unfolding is_at
at-any asked a b e = rw e

at_other : (asked : Bool) (a b : ℕ) → asked ≡ true → (a ≡ b → ⊥) → is_at asked a b ≡ false
unfolding is_at
at_other asked a b e other = rw e (ne_eqb a b other)

-- ---- a match begins

module _ (isWord : ℕ → Bool) (way : Way) (l : Line) (start i : ℕ) where
  pub enters-not : way.left ≡ true → (i ≡ start → ⊥) → 65535 ≡ enter_at isWord way l start i
  unfolding enter_at never
  enters-not left other = rw (at_other way.left i start left other)

  pub enters : is_at way.left i start ≡ true → way.word ≡ false → i ≡ enter_at isWord way l start i
  unfolding enter_at is_free
  enters here word = rw (here, word)

  pub enters-word : is_at way.left i start ≡ true → way.word ≡ true → (t : Bool) → t ≡ not (isWord (byte_before l i)) → cond t i 65535 ≡ enter_at isWord way l start i
  unfolding enter_at is_free never
  enters-word here word t free = rw (here, word, free)

-- ---- a match ends

module _ (isWord : ℕ → Bool) (way : Way) (l : Line) (end i : ℕ) where
  pub ends-not : way.right ≡ true → (i ≡ end → ⊥) → false ≡ ends_at isWord way l end i
  unfolding ends_at
  ends-not right other = rw (at_other way.right i end right other)

  pub ends : is_at way.right i end ≡ true → way.word ≡ false → true ≡ ends_at isWord way l end i
  unfolding ends_at is_free
  ends here word = rw (here, word)

  pub ends-word : is_at way.right i end ≡ true → way.word ≡ true → (t : Bool) → t ≡ not (isWord (get_or l i 0)) → t ≡ ends_at isWord way l end i
  unfolding ends_at is_free
  ends-word here word t free = rw (here, word, free)

-- ---- the better match

module _ (last : Bool) (best : Best) (start i : ℕ) where
  pub none-better : start ≡ 65535 → best ≡ best_with last best start i
  unfolding best_with never
  none-better e = rw e

  module _ (starts : start < 65535) where
    begun : ltb start never ≡ true
    unfolding never
    begun = lt-ltb start 65535 starts

    pub last-better : last ≡ true → record { start = start; end = i } ≡ best_with last best start i
    unfolding best_with
    last-better e = rw (begun, e)

    pub old-better : last ≡ false → best.start < start → best ≡ best_with last best start i
    unfolding best_with
    old-better e less = rw (begun, e, lt-ltb best.start start less)

    pub new-better : last ≡ false → start ≤ best.start → record { start = start; end = i } ≡ best_with last best start i
    unfolding best_with
    new-better e least = rw (begun, e, le-ltb best.start start least)

-- ---- the answer

module _ (best : Best) where
  pub answers-none : best.start ≡ 65535 → found_of None ≡ best_of best
  unfolding found_of best_of ending_at never
  answers-none e = rw e

  pub answers_at : best.start < 65535 → found_of (Some (found-at best.start (best.end - best.start))) ≡ best_of best
  unfolding found_of best_of ending_at never
  answers_at begun = rw (lt-ltb best.start 65535 begun)

  -- what it takes from
  pub answers-fit : (best.start < never → best.start ≤ best.end) → best.start < 65535 → best.start ≤ best.end
  unfolding never
  answers-fit ordered begun = ordered begun

pub settles-not : (last : Bool) (start : ℕ) → last ≡ true → false ≡ cond last false (ltb start never)
settles-not last start e = rw e

pub settles : (last : Bool) (start : ℕ) → last ≡ false → ltb start 65535 ≡ cond last false (ltb start never)
unfolding never
settles last start e = rw e
