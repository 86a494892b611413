-- Cases of document 02, wish 9: where a string stops being a pattern, and which part of a line a pattern takes.
use Rattle.std.specs.Prelude.{◌≡◌, refl, Bool, true, false, List, [], ◌∷◌, map, ℕ, length}
use Rattle.std.proofs.Math.Option.{Option, none, some}
use Prim.Native.String.{String}
use Rattle.definitions.specs.Bytes.{bytes}
use Rattle.definitions.specs.WordSet.{is_word_byte, letters_and_digits}
use Rattle.definitions.specs.Matching.{Anchor, anywhere, at_start, at_end, precisely, text, Match, matched, stands_in, taken}
use Rattle.definitions.specs.Reader.{Got, got, refused}
use Rattle.definitions.specs.Patterns.{Pattern, read_pattern}
use Rattle.definitions.specs.Everything.{everything}

-- ---- 34: the places that W9.5 lists, and some more

unfoldable pub place_refused : Got Pattern → Option ℕ
place_refused (got p c) = none
place_refused (refused n at) = some at

unfoldable pub fault_in : String → Option ℕ
fault_in s = place_refused (read_pattern 0 (bytes s))

pub faults : map fault_in (
    "a-Z" ∷ "z-a" ∷ "a-" ∷ "a-\"c" ∷ ".-x" ∷ "\"a-c" ∷ "a-c-e" ∷ "-" ∷ "##a" ∷ "#" ∷ "~~a" ∷ "~(a" ∷ "~-" ∷ "\"" ∷ "(a" ∷ "a)" ∷ "()" ∷ "#|a" ∷ "(#)"
    -- all empty (W9.4); `~` takes no `#`; the ninth bracket (W9.6)
    ∷ "" ∷ "|" ∷ "(|)" ∷ "a(|)" ∷ "~" ∷ "~#a" ∷ "(((((((((a" ∷ "a|(b" ∷ [])
    ≡ (some 2 ∷ some 2 ∷ some 2 ∷ some 2 ∷ some 1 ∷ some 2 ∷ some 3 ∷ some 0 ∷ some 1 ∷ some 1 ∷ some 1 ∷ some 1 ∷ some 1 ∷ some 1 ∷ some 2 ∷ some 1 ∷ some 1 ∷ some 1 ∷ some 2
    ∷ some 0 ∷ some 1 ∷ some 2 ∷ some 3 ∷ some 1 ∷ some 1 ∷ some 8 ∷ some 4 ∷ [])
unfolding everything fault_in place_refused
faults = refl

pub none-refused : map fault_in (
    "a|" ∷ "|a" ∷ "(a|)" ∷ "((((((((a))))))))" ∷ "a-a" ∷ "~a-z" ∷ "~\"-" ∷ "#~a" ∷ "#(a|b)c" ∷ "?*.\\" ∷ "0-9#0-9:0-9#0-9" ∷ "(a)(((((((b)))))))" ∷ [])
    ≡ (none ∷ none ∷ none ∷ none ∷ none ∷ none ∷ none ∷ none ∷ none ∷ none ∷ none ∷ none ∷ [])
unfolding everything fault_in place_refused
none-refused = refl

-- ---- the part that is taken, T being the whole line

-- B, E or P; L; W; the pattern; the line
pub data Asked : Type 0 where
  asked : Anchor → Bool → Bool → String → String → Asked

unfoldable pub taken_of : Got Pattern → Anchor → Bool → Bool → List ℕ → Option Match
taken_of (got p c) anchor last w l = taken anchor last (stands_in (is_word_byte letters_and_digits) w p l) (text 0 (length l))
taken_of (refused n at) anchor last w l = none

unfoldable pub takes : Asked → Option Match
takes (asked anchor last w s l) = taken_of (read_pattern 0 (bytes s)) anchor last w (bytes l)

pub takings : map takes (
    asked anywhere false false "0-9#0-9:0-9#0-9" "at 06:10 x"
    -- an empty match, from the left and with L (W9.8)
    ∷ asked anywhere false false "#a" "baa"
    ∷ asked anywhere true false "#a" "baab"
    -- the rightmost end, there the least start; the leftmost start, there the longest
    ∷ asked anywhere true false "b|bab" "abab"
    ∷ asked anywhere false false "a|ab|abc" "xabcd"
    ∷ asked anywhere false false "#(a|#(ab))c" "xabac"
    -- W: a shorter part passes where the longest does not; an empty one between two bytes that do not count (W9.9)
    ∷ asked anywhere false true "a#(a|\"-)" "a-ab"
    ∷ asked anywhere false true "#a" "b  a"
    -- B, E and P
    ∷ asked at_start false false "b|ba" "baab"
    ∷ asked at_end false false "b|ab|aab" "baab"
    ∷ asked precisely false false "b#ab" "baab"
    ∷ asked precisely false false "b#a" "baab"
    -- a mismatch takes one byte, never none
    ∷ asked anywhere false false "~a-z" "ab1c"
    ∷ asked at_end false false "c~a" "abc"
    ∷ [])
    ≡ (some (matched 3 5) ∷ some (matched 0 0) ∷ some (matched 4 0) ∷ some (matched 1 3) ∷ some (matched 1 3) ∷ some (matched 1 4) ∷ some (matched 0 1) ∷ some (matched 2 0)
    ∷ some (matched 0 2) ∷ some (matched 1 3) ∷ some (matched 0 4) ∷ none ∷ some (matched 2 1) ∷ none ∷ [])
unfolding everything takes taken_of
takings = refl
