-- Patterns, for the qualifier R: what a pattern is, which bytes are in its language, and how it is read (document 02, wish 9).
use Rattle.std.specs.Prelude.{Bool, true, false, cond, not, ◌&&◌, ◌||◌, List, [], ◌∷◌, ℕ, zero, suc, ◌+◌, ◌*◌, length, eqb}
use Rattle.definitions.specs.Bytes.{Line, is_digit, is_letter}
use Rattle.definitions.specs.WordSet.{Named, byte, quoted_byte, range, is_named, is_range}
use Rattle.definitions.specs.Reader.{Cursor, cursor, Got, got, refused, and_then, place_at, bytes_left, next_byte, after_byte, is_next}

-- ---- patterns

-- One byte: a character or a range, with `~` (mismatch) any byte but those. A row of items one after another: the empty row, or an item and the row
-- after it. One or the other of two (`|`). Zero or more of one after another (`#`). (W9.3)
pub data Pattern : Type 0 where
  one_byte : (mismatch : Bool) → Named → Pattern
  empty_row : Pattern
  in_row either_of : Pattern → Pattern → Pattern
  any_number : Pattern → Pattern

-- ---- the language

-- "`~` matches exactly one byte of T" (W9.3): one that is not named
unfoldable pub fits : Bool → Named → ℕ → Bool
fits true x b = not (is_named x b)
fits false x b = is_named x b

unfoldable pub is_one : (ℕ → Bool) → List ℕ → Bool
is_one test [] = false
is_one test (b ∷ []) = test b
is_one test (b ∷ (c ∷ s)) = false

unfoldable pub is_none : List ℕ → Bool
is_none [] = true
is_none (b ∷ s) = false

-- some cut of the bytes in two has `here` of its left part and `after` of its right part
unfoldable pub some_cut : (List ℕ → Bool) → (List ℕ → Bool) → List ℕ → Bool
some_cut here after [] = elim (here []) [ true ↦ after [] | false ↦ false ]
some_cut here after (b ∷ s) =
    elim (here []) [
      | false ↦ some_cut (λ x. here (b ∷ x)) after s
      | true ↦ elim (after (b ∷ s)) [ true ↦ true | false ↦ some_cut (λ x. here (b ∷ x)) after s ]
    ]

-- the bytes are at most so many parts, one after another, with `here` of each; an empty part adds nothing, so that each has a byte at least
unfoldable pub in_parts : (List ℕ → Bool) → ℕ → List ℕ → Bool
in_parts here zero s = is_none s
in_parts here (suc most) [] = true
in_parts here (suc most) (b ∷ s) = some_cut (λ x. here (b ∷ x)) (in_parts here most) s

-- the bytes are in the pattern's language
unfoldable pub is_in : Pattern → List ℕ → Bool
is_in (one_byte mismatch x) s = is_one (fits mismatch x) s
is_in empty_row s = is_none s
is_in (in_row p q) s = some_cut (is_in p) (is_in q) s
is_in (either_of p q) s = is_in p s || is_in q s
is_in (any_number p) s = in_parts (is_in p) (length s) s

-- ---- the reader: the cursor is over the string's own bytes, so that its end is the place of the delimiter or line end after it (W9.5)

-- "by these signs alone": | ( ) ~ # - " (W9.2)
unfoldable pub is_sign : ℕ → Bool
is_sign b = eqb b 124 || eqb b 40 || eqb b 41 || eqb b 126 || eqb b 35 || eqb b 45 || eqb b 34

unfoldable pub is_at_end : Cursor → Bool
is_at_end c = eqb (bytes_left c) 0

-- "34: ill-formed pattern, at the first byte that cannot stand there, its end included"
unfoldable pub cannot_stand : Cursor → Got Pattern
cannot_stand c = refused 34 (place_at c)

-- after `a-`: "ranges as in WORD"; "Unlike 33, a bad range is at the byte after its `-`" (W9.5)
unfoldable pub range_end : Bool → ℕ → Cursor → Got Pattern
range_end mismatch a c = cond (is_range a (next_byte c)) (got (one_byte mismatch (range a (next_byte c))) (after_byte c)) (cannot_stand c)

-- after a byte `a` that is not quoted: the range that it begins, or the byte alone
unfoldable pub after_plain : Bool → ℕ → Cursor → Got Pattern
after_plain mismatch a c = cond (is_next 45 c && (is_digit a || is_letter a)) (range_end mismatch a (after_byte c)) (got (one_byte mismatch (byte a)) c)

-- after `"`: "any byte"
unfoldable pub after_quote : Bool → Cursor → Got Pattern
after_quote mismatch c = cond (is_at_end c) (cannot_stand c) (got (one_byte mismatch (quoted_byte (next_byte c))) (after_byte c))

-- a character, "`"` and any byte, or a byte that is no sign", or a range must stand
unfoldable pub read_character : Bool → Cursor → Got Pattern
read_character mismatch c =
    cond (is_next 34 c) (after_quote mismatch (after_byte c))
    (cond (is_at_end c || is_sign (next_byte c)) (cannot_stand c) (after_plain mismatch (next_byte c) (after_byte c)))

-- "`~` before one character or range"
unfoldable pub read_single : Cursor → Got Pattern
read_single c = cond (is_next 126 c) (read_character true (after_byte c)) (read_character false c)

unfoldable pub ends_row : Cursor → Bool
ends_row c = is_at_end c || is_next 124 c || is_next 41 c

-- alternatives that are all empty
unfoldable pub is_blank : Pattern → Bool
is_blank (one_byte mismatch x) = false
is_blank empty_row = true
is_blank (in_row p q) = false
is_blank (either_of p q) = is_blank p && is_blank q
is_blank (any_number p) = false

-- after the alternatives of a bracket: its `)`; "(not all empty)", "In each bracket too" (W9.4)
unfoldable pub close_bracket : Pattern → Cursor → Got Pattern
close_bracket p c = cond (is_next 41 c && not (is_blank p)) (got p (after_byte c)) (cannot_stand c)

-- after the pattern's alternatives: its end
unfoldable pub close_pattern : Pattern → Cursor → Got Pattern
close_pattern p c = cond (is_at_end c && not (is_blank p)) (got p c) (cannot_stand c)

-- Alternatives, rows, items, parts; `deep` brackets may still be opened. `fuel` bounds how deep they call each other: there is always enough (theorems,
-- PatternReader: fuel-suffices); 0 is no number of document 01's.
unfoldable mutual
  unfolding is_next ends_row read_single cannot_stand close_bracket

  -- "one or more alternatives with |"
  pub read_alternatives : ℕ → ℕ → Cursor → Got Pattern
  read_alternatives zero deep c = refused 0 (place_at c)
  read_alternatives (suc fuel) deep c =
      elim (read_row fuel deep c) [
        | refused n at ↦ refused n at
        | got p c₁ ↦ elim (is_next 124 c₁) [
          | false ↦ got p c₁
          | true ↦ elim (read_alternatives fuel deep (after_byte c₁)) [ got q c₂ ↦ got (either_of p q) c₂ | refused n at ↦ refused n at ]
        ]
      ]

  -- "each a row of items, perhaps empty" (W9.3)
  pub read_row : ℕ → ℕ → Cursor → Got Pattern
  read_row zero deep c = refused 0 (place_at c)
  read_row (suc fuel) deep c =
      elim (ends_row c) [
        | true ↦ got empty_row c
        | false ↦ elim (read_item fuel deep c) [
          | refused n at ↦ refused n at
          | got p c₁ ↦ elim (read_row fuel deep c₁) [ got q c₂ ↦ got (in_row p q) c₂ | refused n at ↦ refused n at ]
        ]
      ]

  -- "`#` may stand once before any of these and takes that one item" (W9.3)
  pub read_item : ℕ → ℕ → Cursor → Got Pattern
  read_item zero deep c = refused 0 (place_at c)
  read_item (suc fuel) deep c =
      elim (is_next 35 c) [
        | false ↦ read_part fuel deep c
        | true ↦ elim (read_part fuel deep (after_byte c)) [ got p c₁ ↦ got (any_number p) c₁ | refused n at ↦ refused n at ]
      ]

  -- a bracket, "at most 8 deep: the ninth `(` is 34 at it" (W9.6); or a character, a range or a mismatch
  pub read_part : ℕ → ℕ → Cursor → Got Pattern
  read_part zero deep c = refused 0 (place_at c)
  read_part (suc fuel) deep c =
      elim (is_next 40 c) [
        | false ↦ read_single c
        | true ↦ elim deep [
          | zero ↦ cannot_stand c
          | suc deeper ↦ elim (read_alternatives fuel deeper (after_byte c)) [ got p c₁ ↦ close_bracket p c₁ | refused n at ↦ refused n at ]
        ]
      ]

-- the pattern of the string `s` that begins at the script's place `at`; a byte takes up four of the fuel at most
unfoldable pub read_pattern : ℕ → Line → Got Pattern
read_pattern at s = and_then (read_alternatives (4 * length s + 4) 8 (cursor at s)) close_pattern
