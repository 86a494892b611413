-- What the values of the code stand for, in the terms of the definitions. Assumes nothing.
use Rattle.std.specs.Prelude as Prelude
use Rattle.std.specs.Prelude.{Some, None, Bool, true, false, cond, not, ℕ, ◌-◌, get_or, eqb, ltb}
use Rattle.std.proofs.Math.Option.{Option, none, some}
use Rattle.definitions.specs.Bytes.{Line}
use Rattle.definitions.specs.Matching.{Anchor, anywhere, at_start, at_end, precisely, byte_before, Match, matched}
use Rattle.theorems.specs.TakenByPlaces.{better_of, later_of}
use Rattle.marks.specs.Sweeping.{never}
use Rattle.taking.specs.declared.Way.{Way}
use Rattle.taking.specs.declared.Found.{Found}
use Rattle.taking.specs.declared.Best.{Best}

-- B is from T's start, E up to its end, P both
unfoldable pub anchor_by : Bool → Bool → Anchor
anchor_by false false = anywhere
anchor_by true false = at_start
anchor_by false true = at_end
anchor_by true true = precisely

abbrev pub anchor_of : Way → Anchor
anchor_of way = anchor_by way.left way.right

abbrev pub found-at : ℕ → ℕ → Found
found-at i n = record { at = i; width = n }

unfoldable pub found_of : Prelude.Option Found → Option Match
found_of (Some f) = some (matched f.at f.width)
found_of None = none

-- a match from a place, `never` for none, up to place i
unfoldable pub ending_at : ℕ → ℕ → Option Match
ending_at start i = cond (ltb start never) (some (matched start (i - start))) none

unfoldable pub best_of : Best → Option Match
best_of best = ending_at best.start best.end

-- the better one of what was best and what ends at the next place: with L the later one, else that with the least start, there the longest
unfoldable pub better_by : Bool → Option Match → Option Match → Option Match
better_by true old new = later_of old new
better_by false old new = better_of old new

-- the best match after a match from `start` to i
unfoldable pub best_with : Bool → Best → ℕ → ℕ → Best
best_with last best start i =
    cond (ltb start never) (cond last (record { start = start; end = i }) (cond (ltb best.start start) best (record { start = start; end = i }))) best

-- is one place the other, where that is asked for
unfoldable pub is_at : Bool → ℕ → ℕ → Bool
is_at true a b = eqb a b
is_at false a b = true

-- is the byte none that counts for W, where W is given
unfoldable pub is_free : (ℕ → Bool) → Bool → ℕ → Bool
is_free isWord true b = not (isWord b)
is_free isWord false b = true

-- the place i, where a match may begin there
unfoldable pub enter_at : (ℕ → Bool) → Way → Line → ℕ → ℕ → ℕ
enter_at isWord way l start i = cond (is_at way.left i start) (cond (is_free isWord way.word (byte_before l i)) i never) never

-- may a match end at place i
unfoldable pub ends_at : (ℕ → Bool) → Way → Line → ℕ → ℕ → Bool
ends_at isWord way l end i = cond (is_at way.right i end) (is_free isWord way.word (get_or l i 0)) false
