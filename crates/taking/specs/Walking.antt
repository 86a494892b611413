-- The walk over T: what the marks and the best match are at a place. Assumes nothing.
use Rattle.std.specs.Prelude.{◌≡◌, Bool, cond, List, ◌++◌, ℕ, zero, suc, ◌+◌, ◌-◌, ◌≤◌, ◌<◌, drop}
use Rattle.std.proofs.Math.Option.{Option, none}
use Rattle.definitions.specs.Bytes.{Line}
use Rattle.definitions.specs.Matching.{Match, stands_in, to_place}
use Rattle.definitions.specs.Patterns.{Pattern}
use Rattle.theorems.specs.TakenByPlaces.{restricted}
use Rattle.text.specs.Lines.{part}
use Rattle.marks.specs.Sweeping.{never, slots, out_of, swept, no_marks, marks_after}
use Rattle.taking.specs.Ways.{anchor_of, best_of, best_with, better_by, enter_at, ends_at}
use Rattle.taking.specs.declared.Way.{Way}
use Rattle.taking.specs.declared.Best.{Best}

-- what is done at place i, b being the byte there: the marks move, and what ends there may be better
pub record AtPlace (isWord : ℕ → Bool) (way : Way) (l : Line) (start end i b : ℕ) (p : Pattern) (best : Best) (ms ms' : List ℕ) (r : Best) : Type 0 where
  pub moved : ms' ≡ swept b (enter_at isWord way l start i) p ms ++ drop (slots p) ms
  pub better : r ≡ cond (ends_at isWord way l end i) (best_with way.last best (out_of (enter_at isWord way l start i) p ms) i) best

-- what the first k places of T come to, by the match that ends at each from the least start
unfoldable pub so_far : Bool → (ℕ → ℕ → Bool) → ℕ → ℕ → Option Match
so_far last stands start zero = none
so_far last stands start (suc k) = better_by last (so_far last stands start k) (to_place stands start (start + k))

-- the parts of the line that are looked at
abbrev pub stands_by : (ℕ → Bool) → Way → Pattern → Line → ℕ → ℕ → ℕ → ℕ → Bool
stands_by isWord way p l start end = restricted (anchor_of way) start end (stands_in isWord way.word p l)

-- the walk has come to place i
pub record Walked (isWord : ℕ → Bool) (way : Way) (l : Line) (start end : ℕ) (p : Pattern) (i : ℕ) (ms : List ℕ) (best : Best) : Type 0 where
  pub marks : ms ≡ marks_after (λ j. enter_at isWord way l start (start + j)) p (part start i l) ++ no_marks (256 - slots p)
  pub found : best_of best ≡ so_far way.last (stands_by isWord way p l start end) start (i - start)
  pub ordered : best.start < never → (best.start ≤ best.end) × (best.end < i)
