-- Wish 6 of document 02, "Replaced lines side by side", as one statement of every journal. That a run's journal is an arranged one is a part of demand 3 (Demand3).
use Rattle.std.specs.Prelude.{◌≡◌, List, [], ◌∷◌, ◌++◌}
use Rattle.definitions.specs.Journal.{Record, kept, changed, deleted, inserted, old_side, new_side, journal_length}
use Rattle.definitions.specs.Listing.{listing}
use Rattle.definitions.specs.Arranging.{arrange}
use Rattle.theorems.specs.Each.{Each}

-- ---- the terms

-- a kept or changed record: it parts two stretches
abbrev pub IsApart : Record → Type 0
IsApart (kept l) = Unit {0}
IsApart (changed o n) = Unit {0}
IsApart (deleted l) = ⊥
IsApart (inserted l) = ⊥

-- a `--` or `++` record
abbrev pub IsReplaced : Record → Type 0
IsReplaced (kept l) = ⊥
IsReplaced (changed o n) = ⊥
IsReplaced (deleted l) = Unit {0}
IsReplaced (inserted l) = Unit {0}

-- "Each stretch without kept or changed records" (W6.1)
abbrev pub Stretch : List Record → Type 0
Stretch rs = Each IsReplaced rs

-- "all its `--` records .. in old order"
unfoldable pub gone_in : List Record → List Record
gone_in [] = []
gone_in (kept l ∷ rs) = gone_in rs
gone_in (changed o n ∷ rs) = gone_in rs
gone_in (deleted l ∷ rs) = deleted l ∷ gone_in rs
gone_in (inserted l ∷ rs) = gone_in rs

-- "all its `++` in new order"
unfoldable pub came_in : List Record → List Record
came_in [] = []
came_in (kept l ∷ rs) = came_in rs
came_in (changed o n ∷ rs) = came_in rs
came_in (deleted l ∷ rs) = came_in rs
came_in (inserted l ∷ rs) = inserted l ∷ came_in rs

-- ---- the statement

pub record SideBySide (rs : List Record) : Type 0 where
  -- a kept or changed record stays where it is, and what stands before it and after it is arranged by itself
  pub parts : (before : List Record) (r : Record) (after : List Record) → IsApart r → rs ≡ before ++ (r ∷ after) → arrange rs ≡ arrange before ++ (r ∷ arrange after)
  -- a stretch "has all its `--` records first, in old order, then all its `++` in new order"
  pub stretch : Stretch rs → arrange rs ≡ gone_in rs ++ came_in rs
  -- it "must change neither side" (W6.3: nor the listing; W6.2: nor the length)
  pub old-side : old_side (arrange rs) ≡ old_side rs
  pub new-side : new_side (arrange rs) ≡ new_side rs
  pub listed : listing (arrange rs) ≡ listing rs
  pub long : journal_length (arrange rs) ≡ journal_length rs
  -- arranging twice is arranging once
  pub again : arrange (arrange rs) ≡ arrange rs

-- WISH 6: all this of every journal
abbrev pub WishSix : Type 0
WishSix = (rs : List Record) → SideBySide rs
