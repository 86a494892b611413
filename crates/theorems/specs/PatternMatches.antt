-- What a string with R matches on a line, with the window from p, through columns, S, W, B, E, P and L: "A match found is in the pattern's language; where
-- none is found, no part of T that the qualifiers allow is" (document 02, wish 9; W9.8 and W9.9). A string with R that is accepted is a pattern.
-- Assumes that p is in the line or at its end.
use Rattle.std.specs.Prelude.{◌≡◌, Bool, true, ℕ, ◌≤◌, length}
use Rattle.std.proofs.Math.Option.{none, some}
use Rattle.definitions.specs.Bytes.{Line}
use Rattle.definitions.specs.Reader.{Cursor, got}
use Rattle.definitions.specs.Patterns.{Pattern, read_pattern}
use Rattle.definitions.specs.Matching.{Anchor, Columns, qualifiers, Qualified, qualified, Text, text, Match, match_of}
use Rattle.theorems.specs.PatternTaken.{Allows, looks_right, Before, Matches}
use Rattle.theorems.specs.Places.{text_for}

-- ---- the match

-- the part of `width` bytes at place i is a part of T that B, E, P or none of them allows
unfoldable pub AllowsIn : Anchor → Text → ℕ → ℕ → Type 0
AllowsIn anchor (text start end) i width = Allows anchor start end i width

module _
    (isWord : ℕ → Bool) (anchor : Anchor) (count : ℕ) (last negated apart anyCase skip : Bool) (cols : Columns) (s : Line) (p : ℕ) (l : Line)
    (inside : p ≤ length l) (pat : Pattern) (c : Cursor) (reads : read_pattern 0 s ≡ got pat c) where
  abbrev pub string : Qualified
  string = qualified (qualifiers anchor count last negated apart anyCase skip cols true) s

  -- wish 9 of a match, as one statement
  pub record WishNine : Type 0 where
    -- "A match found is in the pattern's language", passes W, and is a part of T that the qualifiers allow
    pub match-found : (m : Match) → match_of isWord string p l ≡ some m
        → AllowsIn anchor (text_for cols skip p l) m.place m.width × Matches isWord apart pat l m.place m.width
    -- "The leftmost match counts, with L or E the rightmost ending one; of several there the longest is taken"
    pub match-first : (m : Match) → match_of isWord string p l ≡ some m → (j k : ℕ) → AllowsIn anchor (text_for cols skip p l) j k
        → Matches isWord apart pat l j k → Before (looks_right anchor last) m.place m.width j k
    -- "where none is found, no part of T that the qualifiers allow is"
    pub match_none : match_of isWord string p l ≡ none → (j k : ℕ) → AllowsIn anchor (text_for cols skip p l) j k → Matches isWord apart pat l j k → ⊥
