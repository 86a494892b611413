-- What a string with R matches on a line, with the window from p, through columns, S, W, B, E, P and L: "A match found is in the pattern's language; where
-- none is found, no part of T that the qualifiers allow is" (document 02, wish 9; W9.8 and W9.9). A string with R that is accepted is a pattern.
-- Assumes that p is in the line or at its end.
use Rattle.std.specs.Prelude.{◌≡◌, Bool, true, ◌&&◌, [], ℕ, ◌≤◌, length}
use Rattle.std.proofs.Common.{sym, ◌∙◌, inl, inr, zero-add}
use Rattle.std.proofs.Math.Path.{ap}
use Rattle.std.proofs.lemmas.Bool.{false≢true}
use Rattle.std.proofs.Math.Option.{none, some}
use Rattle.definitions.specs.Bytes.{Line, is_line}
use Rattle.definitions.specs.Reader.{Cursor, cursor, got}
use Rattle.definitions.specs.Patterns.{Pattern, read_pattern}
use Rattle.definitions.specs.Matching.{Anchor, Columns, Qualifiers, qualifiers, Qualified, qualified, Text, text, Match, stands_in, taken, taken_by, match_of}
use Rattle.definitions.specs.Strings.{is_pattern}
use Rattle.theorems.specs.Lines.{and_right}
use Rattle.theorems.specs.GoodItems.{good_qualifiers, is_read, is_formed, good_qualified}
use Rattle.theorems.specs.PatternReader.{ReadOrRefused, pattern-read}
use Rattle.theorems.specs.PatternTaken.{looks_right, Before, Matches}
use Rattle.theorems.proofs.PatternTaken.{found-matches, found_first, none-matches}
use Rattle.theorems.specs.Places.{TextIn, text_for}
use Rattle.theorems.proofs.Places.{text_in}
use Rattle.theorems.specs.PatternMatches.{AllowsIn, WishNine}

-- ---- the match

-- of a text in the line
module _ (isWord : ℕ → Bool) (w : Bool) (pat : Pattern) (p : ℕ) (l : Line) (anchor : Anchor) (last : Bool) where
  found_in : (t : Text) → TextIn p l t → (m : Match) → taken anchor last (stands_in isWord w pat l) t ≡ some m
      → AllowsIn anchor t m.place m.width × Matches isWord w pat l m.place m.width
  unfolding AllowsIn
  found_in (text start end) v m e = found-matches isWord w pat l anchor last start end v.1 m e

  first-in : (t : Text) → TextIn p l t → (m : Match) → taken anchor last (stands_in isWord w pat l) t ≡ some m
      → (j k : ℕ) → AllowsIn anchor t j k → Matches isWord w pat l j k → Before (looks_right anchor last) m.place m.width j k
  unfolding AllowsIn
  first-in (text start end) v m e = found_first isWord w pat l anchor last start end v.1 m e

  none_in : (t : Text) → TextIn p l t → taken anchor last (stands_in isWord w pat l) t ≡ none
      → (j k : ℕ) → AllowsIn anchor t j k → Matches isWord w pat l j k → ⊥
  unfolding AllowsIn
  none_in (text start end) v e = none-matches isWord w pat l anchor last start end v.1 e

module _
    (isWord : ℕ → Bool) (anchor : Anchor) (count : ℕ) (last negated apart anyCase skip : Bool) (cols : Columns) (s : Line) (p : ℕ) (l : Line)
    (inside : p ≤ length l) (pat : Pattern) (c : Cursor) (reads : read_pattern 0 s ≡ got pat c) where
  abbrev string : Qualified
  string = qualified (qualifiers anchor count last negated apart anyCase skip cols true) s

  -- it is the part of T that the pattern takes
  pub match_is : match_of isWord string p l ≡ taken anchor last (stands_in isWord apart pat l) (text_for cols skip p l)
  unfolding match_of taken_by
  match_is = ap (λ r. taken_by r anchor last isWord apart l (text_for cols skip p l)) reads

  -- "A match found is in the pattern's language", passes W, and is a part of T that the qualifiers allow
  pub match-found : (m : Match) → match_of isWord string p l ≡ some m
      → AllowsIn anchor (text_for cols skip p l) m.place m.width × Matches isWord apart pat l m.place m.width
  match-found m e = found_in isWord apart pat p l anchor last (text_for cols skip p l) (text_in cols skip p l inside) m (sym match_is ∙ e)

  -- "The leftmost match counts, with L or E the rightmost ending one; of several there the longest is taken"
  pub match-first : (m : Match) → match_of isWord string p l ≡ some m → (j k : ℕ) → AllowsIn anchor (text_for cols skip p l) j k
      → Matches isWord apart pat l j k → Before (looks_right anchor last) m.place m.width j k
  match-first m e = first-in isWord apart pat p l anchor last (text_for cols skip p l) (text_in cols skip p l inside) m (sym match_is ∙ e)

  -- "where none is found, no part of T that the qualifiers allow is"
  pub match_none : match_of isWord string p l ≡ none → (j k : ℕ) → AllowsIn anchor (text_for cols skip p l) j k → Matches isWord apart pat l j k → ⊥
  match_none e = none_in isWord apart pat p l anchor last (text_for cols skip p l) (text_in cols skip p l inside) (sym match_is ∙ e)

  -- all three
  pub wish-nine : WishNine isWord anchor count last negated apart anyCase skip cols s p l inside pat c reads
  wish-nine = record {
    match-found = match-found;
    match-first = match-first;
    match_none = match_none;
  }

-- ---- accepted strings with R

-- each is a pattern, read to its end: what is said of a match above is so of every string with R in an accepted script (ReadScript: good-items)
pub formed-only : (q : Qualifiers) (s : Line) → good_qualified (qualified q s) ≡ true → is_pattern q ≡ true
    → (pat : Pattern) × (read_pattern 0 s ≡ got pat (cursor (length s) []))
unfolding good_qualified is_formed
formed-only q s g e = by (pattern-read 0 s)
  where
    read : is_read (read_pattern 0 s) ≡ true
    read = rw e at (and_right (good_qualifiers q && is_line s) (is_formed q s) g)

    by : ReadOrRefused 0 s → (pat : Pattern) × (read_pattern 0 s ≡ got pat (cursor (length s) []))
    by (inl f) = (f.0, f.1 ∙ ap (λ n. got f.0 (cursor n [])) (zero-add (length s)))
    by (inr f) = absurd (false≢true (unfold is_read in (sym (ap is_read f.2) ∙ read)))
