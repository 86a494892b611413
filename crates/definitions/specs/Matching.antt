-- Qualified strings and patterns, and where they occur on a line (document 01, "Matching"; document 02, wishes 8 and 9; manual 2.3.2 and 3.3.6).
use Rattle.std.specs.Prelude.{Bool, true, false, cond, not, ◌&&◌, List, [], ◌∷◌, ℕ, zero, suc, ◌+◌, ◌-◌, min, max, length, take, drop, get_or, eqb, leb}
use Rattle.std.proofs.Math.Option.{Option, none, some}
use Rattle.definitions.specs.Bytes.{Line, upper}
use Rattle.definitions.specs.Reader.{Got, got, refused}
use Rattle.definitions.specs.Patterns.{Pattern, is_in, read_pattern}

-- ---- qualifiers

-- B, E, P, or none of them
pub data Anchor : Type 0 where
  anywhere at_start at_end precisely : Anchor

-- the line's columns n to m of `_n,m_`, or all of them
pub data Columns : Type 0 where
  all_columns : Columns
  columns : ℕ → ℕ → Columns

-- the qualifiers of a string: B, E or P; the count, 0 where none is given; are L (last), N (negated), W (apart), U (anyCase) and S (skip) given; the
-- columns; is R given, so that the string is a pattern
pub data Qualifiers : Type 0 where
  qualifiers : (anchor : Anchor) (count : ℕ) (last negated apart anyCase skip : Bool) (cols : Columns) (pattern : Bool) → Qualifiers

pub data Qualified : Type 0 where
  qualified : Qualifiers → Line → Qualified

-- ---- the text T

-- document 01's text T: where it starts and where it ends in the line
pub data Text : Type 0 where
  text : ℕ → ℕ → Text

-- from a start to an end; where the end is before it, empty at the start
unfoldable pub cut : ℕ → ℕ → Text
cut start end = text start (max start end)

-- "The window of the current line starts after p bytes .. and runs to the line's end. Text T is the window, cut to the line's columns n to m (from 1)
-- where given; an empty cut lies at the later of p and n - 1, at most at the line's end" (R38)
unfoldable pub window : Columns → ℕ → Line → Text
window all_columns p l = text p (length l)
window (columns n m) p l = cut (min (max p (n - 1)) (length l)) (min m (length l))

-- how many spaces stand first
unfoldable pub leading_spaces : List ℕ → ℕ
leading_spaces [] = 0
leading_spaces (b ∷ bs) = elim (eqb b 32) [ true ↦ suc (leading_spaces bs) | false ↦ 0 ]

-- "S then drops T's leading spaces" (R38)
unfoldable pub after_spaces : Bool → Line → Text → Text
after_spaces false l t = t
after_spaces true l (text start end) = text (start + min (leading_spaces (drop start l)) (end - start)) end

-- ---- matches

-- a part of the line: the place that it begins at, and its width
pub record Match : Type 0 where
  pub place : ℕ
  pub width : ℕ

abbrev pub matched : ℕ → ℕ → Match
matched i n = record { place = i; width = n }

-- ---- the string at a place

-- "U compares upper-cased" (R41)
unfoldable pub folded : Bool → ℕ → ℕ
folded true b = upper b
folded false b = b

-- the string stands first in the bytes
unfoldable pub stands_first : Bool → Line → List ℕ → Bool
stands_first u [] bs = true
stands_first u (x ∷ xs) [] = false
stands_first u (x ∷ xs) (b ∷ bs) = eqb (folded u x) (folded u b) && stands_first u xs bs

unfoldable pub byte_before : Line → ℕ → ℕ
byte_before l zero = 0
byte_before l (suc i) = get_or l i 0

-- "W: the bytes before and after in the whole line are no letters or digits" (R39), or whichever bytes count for W then: `isWord` (document 02, wish 8;
-- W8.6). Where the line has no byte, none counts (0, which no script names)
unfoldable pub is_apart : (ℕ → Bool) → Bool → Line → ℕ → ℕ → Bool
is_apart isWord false l i j = true
is_apart isWord true l i j = not (isWord (byte_before l i)) && not (isWord (get_or l j 0))

-- the string `s` occurs in the line at place i, as W and U ask; "U does not touch" W's test (W8.6)
unfoldable pub stands_at : (ℕ → Bool) → Bool → Bool → Line → Line → ℕ → Bool
stands_at isWord w u s l i = stands_first u s (drop i l) && is_apart isWord w l i (i + length s)

-- ---- occurrences

-- how many places a string of so many bytes has in T
unfoldable pub places : ℕ → Text → ℕ
places width (text start end) = suc (end - start) - width

-- Which of the next `left` places, j the first of them, has the occurrence after `k` others. "Occurrences do not overlap": each takes up
-- `width` places, and `taken` of the next ones belong to the last one counted. "A place failing W is skipped by one column".
unfoldable pub occurrence : (ℕ → Bool) → ℕ → ℕ → ℕ → ℕ → ℕ → Option ℕ
occurrence stands width k taken zero j = none
occurrence stands width k (suc taken) (suc left) j = occurrence stands width k taken left (suc j)
occurrence stands width zero zero (suc left) j =
    elim (stands j) [ true ↦ some j | false ↦ occurrence stands width zero zero left (suc j) ]
occurrence stands width (suc k) zero (suc left) j =
    elim (stands j) [ true ↦ occurrence stands width k (width - 1) left (suc j) | false ↦ occurrence stands width (suc k) zero left (suc j) ]

-- the place that is j places on from the left end, or from the right end, of those that the string has
unfoldable pub place_from : Bool → ℕ → Text → ℕ → ℕ
place_from false width (text start end) j = start + j
place_from true width (text start end) j = (end - width) - j

unfoldable pub located : (ℕ → ℕ) → Option ℕ → Option ℕ
located place none = none
located place (some j) = some (place j)

unfoldable pub only_at : Bool → ℕ → Option ℕ
only_at true i = some i
only_at false i = none

-- the place of the kth occurrence, counted "from the left, with L from the right" (R39); a count that is not given (0) is the first
unfoldable pub counted : (ℕ → Bool) → ℕ → ℕ → Bool → Text → Option ℕ
counted stands width k last t =
    located (place_from last width t) (occurrence (λ j. stands (place_from last width t j)) width (k - 1) 0 (places width t) 0)

-- "Plain: the string occurs in T. B: at its start. E: at its end. P: T is the string." E with L: E decides (R17). The empty string has one place more
-- than T has bytes: "An empty string occurs at the start of T, with L or E at its end" (R40).
unfoldable pub place_in : Anchor → (ℕ → Bool) → ℕ → ℕ → Bool → Text → Option ℕ
place_in anywhere stands width k last t = counted stands width k last t
place_in at_start stands width k last t = only_at (leb 1 (places width t) && stands (place_from false width t 0)) (place_from false width t 0)
place_in at_end stands width k last t = only_at (leb 1 (places width t) && stands (place_from true width t 0)) (place_from true width t 0)
place_in precisely stands width k last t = only_at (eqb (places width t) 1 && stands (place_from false width t 0)) (place_from false width t 0)

-- ---- patterns: which part of T is taken (document 02, wish 9; W9.8 and W9.9)

-- the part of the line of `width` bytes at place i is in the pattern's language and passes W: "Only the parts that pass W are looked at" (W9.9)
unfoldable pub stands_in : (ℕ → Bool) → Bool → Pattern → Line → ℕ → ℕ → Bool
stands_in isWord w p l i width = elim (is_in p (take width (drop i l))) [ true ↦ is_apart isWord w l i (i + width) | false ↦ false ]

-- the greatest width below n that `stands`
unfoldable pub longest : (ℕ → Bool) → ℕ → Option ℕ
longest stands zero = none
longest stands (suc n) = elim (stands n) [ true ↦ some n | false ↦ longest stands n ]

-- the least of n places that `stands`, i the first of them
unfoldable pub least : (ℕ → Bool) → ℕ → ℕ → Option ℕ
least stands zero i = none
least stands (suc n) i = elim (stands i) [ true ↦ some i | false ↦ least stands n (suc i) ]

-- from place i, the longest
unfoldable pub from_place : (ℕ → ℕ → Bool) → ℕ → ℕ → Option Match
from_place stands end i = elim (longest (stands i) (suc (end - i))) [ none ↦ none | some width ↦ some (matched i width) ]

-- up to place `end`, from the least start
unfoldable pub to_place : (ℕ → ℕ → Bool) → ℕ → ℕ → Option Match
to_place stands start end = elim (least (λ i. stands i (end - i)) (suc (end - start)) start) [ none ↦ none | some i ↦ some (matched i (end - i)) ]

-- "Plain: least start, there the longest": from the first of n places, i the first of them, that has one
unfoldable pub leftmost : (ℕ → ℕ → Bool) → ℕ → ℕ → ℕ → Option Match
leftmost stands end zero i = none
leftmost stands end (suc n) i = elim (from_place stands end i) [ some m ↦ some m | none ↦ leftmost stands end n (suc i) ]

-- "L: greatest end, there the least start": up to the last of the n places from `start` on that has one
unfoldable pub rightmost : (ℕ → ℕ → Bool) → ℕ → ℕ → Option Match
rightmost stands start zero = none
rightmost stands start (suc n) = elim (to_place stands start (start + n)) [ some m ↦ some m | none ↦ rightmost stands start n ]

-- "E, with or without L: ending at T's end, the least start. B: from T's start, the longest. P: all of T" (W9.8)
unfoldable pub taken : Anchor → Bool → (ℕ → ℕ → Bool) → Text → Option Match
taken anywhere false stands (text start end) = leftmost stands end (suc (end - start)) start
taken anywhere true stands (text start end) = rightmost stands start (suc (end - start))
taken at_start last stands (text start end) = from_place stands end start
taken at_end last stands (text start end) = to_place stands start end
taken precisely last stands (text start end) = cond (stands start (end - start)) (some (matched start (end - start))) none

-- by the pattern that the string is; a string that is none matches nothing, and the reader refuses it (34)
unfoldable pub taken_by : Got Pattern → Anchor → Bool → (ℕ → Bool) → Bool → Line → Text → Option Match
taken_by (got pat c) anchor last isWord w l t = taken anchor last (stands_in isWord w pat l) t
taken_by (refused n at) anchor last isWord w l t = none

-- ---- matches of qualified strings

-- the part of that width at the place
unfoldable pub with_width : ℕ → Option ℕ → Option Match
with_width width none = none
with_width width (some i) = some (matched i width)

-- The part of the line that the qualified string matches, with the window from p: it begins where the string occurs, and is as wide; with R, it is the part
-- that the pattern takes. N is not looked at.
unfoldable pub match_of : (ℕ → Bool) → Qualified → ℕ → Line → Option Match
match_of isWord (qualified (qualifiers anchor count last negated apart anyCase skip cols false) s) p l =
    with_width (length s) (place_in anchor (stands_at isWord apart anyCase s l) (length s) count last (after_spaces skip l (window cols p l)))
match_of isWord (qualified (qualifiers anchor count last negated apart anyCase skip cols true) s) p l =
    taken_by (read_pattern 0 s) anchor last isWord apart l (after_spaces skip l (window cols p l))

unfoldable pub is_found : Option Match → Bool
is_found none = false
is_found (some m) = true

-- "N turns the result round"
unfoldable pub turned : Bool → Bool → Bool
turned true b = not b
turned false b = b

unfoldable pub is_negated : Qualified → Bool
is_negated (qualified (qualifiers anchor count last negated apart anyCase skip cols pattern) s) = negated

-- does the qualified string match the line, with the window from p
unfoldable pub matches : (ℕ → Bool) → Qualified → ℕ → Line → Bool
matches isWord q p l = turned (is_negated q) (is_found (match_of isWord q p l))
