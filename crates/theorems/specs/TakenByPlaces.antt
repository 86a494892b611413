-- What a pattern takes, found by going over T once, from left to right: at each place only the part that ends there from the least start is looked at
-- (document 02, wish 9; W9.8).
use Rattle.std.specs.Prelude.{Bool, cond, ◌&&◌, eqb, leb}
use Rattle.std.proofs.Math.Bool.{true}
use Rattle.std.proofs.Math.Option.{Option, none, some}
use Prim.Native.Nat.{ℕ, ◌+◌, ◌<◌}
use Rattle.definitions.specs.Matching.{Anchor, anywhere, at_start, at_end, precisely, Match}

-- ---- B, E and P as a restriction of what stands

-- B, P: from T's start only
unfoldable pub may_begin : Anchor → ℕ → ℕ → Bool
may_begin anywhere start i = true
may_begin at_start start i = eqb i start
may_begin at_end start i = true
may_begin precisely start i = eqb i start

-- E, P: up to T's end only
unfoldable pub may_end : Anchor → ℕ → ℕ → Bool
may_end anywhere end j = true
may_end at_start end j = true
may_end at_end end j = eqb j end
may_end precisely end j = eqb j end

unfoldable pub restricted : Anchor → ℕ → ℕ → (ℕ → ℕ → Bool) → ℕ → ℕ → Bool
restricted anchor start end stands i width = may_begin anchor start i && (may_end anchor end (i + width) && stands i width)

-- ---- from place to place

-- plain, of what was taken before and what ends at this place: the new one, which is the longer, unless it begins later
unfoldable pub better_of : Option Match → Option Match → Option Match
better_of none o = o
better_of (some x) none = some x
better_of (some x) (some y) = cond (leb y.place x.place) (some y) (some x)

-- with L, the new one
unfoldable pub later_of : Option Match → Option Match → Option Match
later_of o none = o
later_of o (some y) = some y

-- the part begins after place k, if there is one
unfoldable pub LaterStart : ℕ → Option Match → Type 0
LaterStart k none = Unit {0}
LaterStart k (some y) = k < y.place
