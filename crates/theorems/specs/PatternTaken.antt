-- The part of T that a pattern takes: it is allowed and stands there, and none that is allowed and stands is before it; where none is taken,
-- none that is allowed stands (document 02, wish 9; W9.8 and W9.9).
use Rattle.std.specs.Prelude.{◌≡◌, Bool, take, drop}
use Rattle.std.proofs.Math.Bool.{true, false}
use Rattle.std.proofs.Math.Option.{Option, none, some}
use Prim.Native.Nat.{ℕ, ◌+◌, ◌≤◌}
use Rattle.std.proofs.Math.Dec.{T}
use Rattle.definitions.specs.Bytes.{Line}
use Rattle.definitions.specs.Matching.{Anchor, anywhere, at_start, at_end, precisely, is_apart, Match}
use Rattle.definitions.specs.Patterns.{Pattern}
use Rattle.theorems.specs.PatternLanguage.{InLanguage}

-- ---- what the qualifiers allow, and what they prefer

-- the part of `width` bytes at place i is a part of T, from `start` to `end`, that B, E, P or none of them allows (W9.8)
unfoldable pub Allows : Anchor → ℕ → ℕ → ℕ → ℕ → Type 0
Allows anywhere start end i width = (start ≤ i) × (i + width ≤ end)
Allows at_start start end i width = (i ≡ start) × (i + width ≤ end)
Allows at_end start end i width = (start ≤ i) × (i + width ≡ end)
Allows precisely start end i width = (i ≡ start) × (i + width ≡ end)

-- "with L or E the rightmost ending one"
unfoldable pub looks_right : Anchor → Bool → Bool
looks_right anywhere last = last
looks_right at_start last = false
looks_right at_end last = true
looks_right precisely last = false

-- the part of w bytes at k is before that of m bytes at j, or is it: "leftmost", there "the longest"; or "rightmost ending", there the longest too,
-- which is that from the least start
unfoldable pub Before : Bool → ℕ → ℕ → ℕ → ℕ → Type 0
Before false k w j m = (k ≤ j) × (k ≡ j → m ≤ w)
Before true k w j m = (j + m ≤ k + w) × (j + m ≡ k + w → k ≤ j)

-- the first of the parts that are C; none where there is none
unfoldable pub FirstOf : (ℕ → ℕ → Type 0) → Bool → Option Match → Type 0
FirstOf C right none = (j m : ℕ) → C j m → ⊥
FirstOf C right (some x) = C x.place x.width × ((j m : ℕ) → C j m → Before right x.place x.width j m)

-- the part of m bytes at j is allowed and stands
abbrev pub Stands : Anchor → (ℕ → ℕ → Bool) → ℕ → ℕ → ℕ → ℕ → Type 0
Stands anchor stands start end j m = Allows anchor start end j m × T (stands j m)

-- what is to be taken: the first of the parts that are allowed and stand
unfoldable pub IsTaken : Anchor → Bool → (ℕ → ℕ → Bool) → ℕ → ℕ → Option Match → Type 0
IsTaken anchor last stands start end o = FirstOf (Stands anchor stands start end) (looks_right anchor last) o

-- ---- in the words of wish 9

module _ (isWord : ℕ → Bool) (w : Bool) (p : Pattern) (l : Line) where
  -- the part of the line of k bytes at place i is in the pattern's language and, "with W a match must pass it", passes W
  unfoldable pub Matches : ℕ → ℕ → Type 0
  Matches i k = InLanguage p (take k (drop i l)) × T (is_apart isWord w l i (i + k))
