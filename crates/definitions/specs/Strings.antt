-- The reader of qualified strings and search expressions (document 01, "Script text": qualifiers, search expressions; numbers 3, 4 and 5),
-- of WORD's string (document 02, wish 8; number 33) and of patterns (wish 9; number 34).
use Rattle.std.specs.Prelude.{Bool, true, false, cond, not, ◌&&◌, ◌||◌, List, [], ◌∷◌, ℕ, zero, suc, ◌+◌, ◌*◌, eqb, leb}
use Rattle.std.proofs.Math.Option.{Option, none, some}
use Rattle.definitions.specs.Bytes.{Line, is_digit, upper}
use Rattle.definitions.specs.Matching.{Anchor, anywhere, at_start, at_end, precisely, Columns, all_columns, columns, Qualifiers, qualifiers, Qualified, qualified}
use Rattle.definitions.specs.Patterns.{Pattern, read_pattern}
use Rattle.definitions.specs.Search.{Search, one, both, either}
use Rattle.definitions.specs.WordSet.{Named, Names, all_names, misused_at, names_from}
use Rattle.definitions.specs.Reader.{Cursor, Got, got, refused, and_then, place_at, bytes_left, next_byte, after_byte, is_next, expect, skip_spaces, skip_blank, number, is_delimiter, string_next, after_string, quoted}

-- ---- which qualifiers may stand together

unfoldable pub no_qualifiers : Qualifiers
no_qualifiers = qualifiers anywhere 0 false false false false false all_columns false

unfoldable pub is_anchored : Anchor → Bool
is_anchored anywhere = false
is_anchored at_start = true
is_anchored at_end = true
is_anchored precisely = true

-- "nor L with B"; "A count or L may not stand with P": L with E may (R17)
unfoldable pub clashes_with_l : Anchor → Bool
clashes_with_l anywhere = false
clashes_with_l at_start = true
clashes_with_l at_end = false
clashes_with_l precisely = true

unfoldable pub is_given : Columns → Bool
is_given all_columns = false
is_given (columns n m) = true

unfoldable pub unless : {A : Type 0} → Bool → A → Option A
unless true a = none
unless false a = some a

-- each of these adds a qualifier, "each at most once"; none where it "cannot stand with earlier ones"
unfoldable pub add_anchor : Anchor → Qualifiers → Option Qualifiers
add_anchor a (qualifiers b count last negated apart anyCase skip cols pattern) =
    unless (is_anchored b || not (eqb count 0) || (last && clashes_with_l a)) (qualifiers a count last negated apart anyCase skip cols pattern)

unfoldable pub add_count : ℕ → Qualifiers → Option Qualifiers
add_count i (qualifiers anchor count last negated apart anyCase skip cols pattern) =
    unless (is_anchored anchor || not (eqb count 0) || pattern) (qualifiers anchor i last negated apart anyCase skip cols pattern)

unfoldable pub add_l : Qualifiers → Option Qualifiers
add_l (qualifiers anchor count last negated apart anyCase skip cols pattern) =
    unless (last || clashes_with_l anchor) (qualifiers anchor count true negated apart anyCase skip cols pattern)

-- "N only in searches" (R17)
unfoldable pub add_n : Bool → Qualifiers → Option Qualifiers
add_n inSearch (qualifiers anchor count last negated apart anyCase skip cols pattern) =
    unless (negated || not inSearch) (qualifiers anchor count last true apart anyCase skip cols pattern)

unfoldable pub add_w : Qualifiers → Option Qualifiers
add_w (qualifiers anchor count last negated apart anyCase skip cols pattern) = unless apart (qualifiers anchor count last negated true anyCase skip cols pattern)

unfoldable pub add_u : Qualifiers → Option Qualifiers
add_u (qualifiers anchor count last negated apart anyCase skip cols pattern) =
    unless (anyCase || pattern) (qualifiers anchor count last negated apart true skip cols pattern)

unfoldable pub add_s : Qualifiers → Option Qualifiers
add_s (qualifiers anchor count last negated apart anyCase skip cols pattern) = unless skip (qualifiers anchor count last negated apart anyCase true cols pattern)

-- "R may not stand with U or a count" (document 02, wish 9; W9.1)
unfoldable pub add_r : Qualifiers → Option Qualifiers
add_r (qualifiers anchor count last negated apart anyCase skip cols pattern) =
    unless (pattern || anyCase || not (eqb count 0)) (qualifiers anchor count last negated apart anyCase skip cols true)

unfoldable pub is_pattern : Qualifiers → Bool
is_pattern (qualifiers anchor count last negated apart anyCase skip cols pattern) = pattern

unfoldable pub set_columns : ℕ → ℕ → Qualifiers → Qualifiers
set_columns i j (qualifiers anchor count last negated apart anyCase skip cols pattern) = qualifiers anchor count last negated apart anyCase skip (columns i j) pattern

unfoldable pub has_columns : Qualifiers → Bool
has_columns (qualifiers anchor count last negated apart anyCase skip cols pattern) = is_given cols

-- "an empty string takes no count and no W" (R18)
unfoldable pub wants_bytes : Qualifiers → Bool
wants_bytes (qualifiers anchor count last negated apart anyCase skip cols pattern) = not (eqb count 0) || apart

-- ---- one qualifier

-- what stands where a qualifier may begin
pub data QualifierByte : Type 0 where
  byte_b byte_e byte_p byte_l byte_n byte_w byte_u byte_s byte_r : QualifierByte
  byte_digit byte_columns byte_other : QualifierByte

unfoldable pub letter_of : ℕ → QualifierByte
letter_of b =
    cond (eqb b 66) byte_b (cond (eqb b 69) byte_e (cond (eqb b 80) byte_p (cond (eqb b 76) byte_l
    (cond (eqb b 78) byte_n (cond (eqb b 87) byte_w (cond (eqb b 85) byte_u (cond (eqb b 83) byte_s (cond (eqb b 82) byte_r byte_other))))))))

unfoldable pub qualifier_byte : ℕ → QualifierByte
qualifier_byte b = cond (is_digit b) byte_digit (cond (eqb b 95) byte_columns (letter_of (upper b)))

-- 4 at the qualifier that cannot stand; a count out of range was 3 before (R16)
unfoldable pub added : ℕ → Option Qualifiers → Cursor → Got Qualifiers
added at none c = refused 4 at
added at (some q) c = got q c

-- "a count from 1"
unfoldable pub read_count : Qualifiers → Cursor → Got Qualifiers
read_count q c = and_then (number c) (λ k c₁. added (place_at c) (add_count k q) c₁)

-- "_n,m_ with n ≤ m": after the first `_`; n > m is 3 at m (R16)
unfoldable pub read_columns : Qualifiers → Cursor → Got Qualifiers
read_columns q c =
    and_then (number (skip_spaces c)) (λ n c₁.
    and_then (expect 44 (skip_spaces c₁)) (λ comma c₂.
    and_then (number (skip_spaces c₂)) (λ m c₃.
    cond (leb n m) (and_then (expect 95 (skip_spaces c₃)) (λ end c₄. got (set_columns n m q) c₄)) (refused 3 (place_at (skip_spaces c₂))))))

-- the qualifier at the cursor; a letter or byte that is none is 3 at it (R15); a second `_n,m_` is 4 at its `_` (R16)
unfoldable pub read_qualifier : Bool → Qualifiers → Cursor → QualifierByte → Got Qualifiers
read_qualifier inSearch q c byte_b = added (place_at c) (add_anchor at_start q) (after_byte c)
read_qualifier inSearch q c byte_e = added (place_at c) (add_anchor at_end q) (after_byte c)
read_qualifier inSearch q c byte_p = added (place_at c) (add_anchor precisely q) (after_byte c)
read_qualifier inSearch q c byte_l = added (place_at c) (add_l q) (after_byte c)
read_qualifier inSearch q c byte_n = added (place_at c) (add_n inSearch q) (after_byte c)
read_qualifier inSearch q c byte_w = added (place_at c) (add_w q) (after_byte c)
read_qualifier inSearch q c byte_u = added (place_at c) (add_u q) (after_byte c)
read_qualifier inSearch q c byte_s = added (place_at c) (add_s q) (after_byte c)
read_qualifier inSearch q c byte_r = added (place_at c) (add_r q) (after_byte c)
read_qualifier inSearch q c byte_digit = read_count q c
read_qualifier inSearch q c byte_columns = cond (has_columns q) (refused 4 (place_at c)) (read_columns q (after_byte c))
read_qualifier inSearch q c byte_other = refused 3 (place_at c)

-- qualifiers up to the opening delimiter, where the cursor then stands. Each reads a byte at least, so one round more than there are
-- bytes is enough: the first clause never comes (theorems, ReadScript: fuel-suffices); 0 is no number of document 01's.
unfoldable pub read_qualifiers : ℕ → Bool → Qualifiers → Cursor → Got Qualifiers
read_qualifiers zero inSearch q c = refused 0 (place_at c)
read_qualifiers (suc rounds) inSearch q c =
    elim (is_delimiter (next_byte c)) [
      | true ↦ got q c
      | false ↦ elim (read_qualifier inSearch q c (qualifier_byte (next_byte c))) [
        | got q' c' ↦ read_qualifiers rounds inSearch q' (skip_spaces c')
        | refused n at ↦ refused n at
      ]
    ]

-- ---- qualified strings

unfoldable pub is_empty : Line → Bool
is_empty [] = true
is_empty (b ∷ l) = false

-- what is read of the string itself: with R it must be a pattern, or it is refused as that is (34, "ranked beside 4 by place"; W9.7)
unfoldable pub pattern_or : Got Pattern → Got Qualified → Got Qualified
pattern_or (got pat c) x = x
pattern_or (refused n at) x = refused n at

-- the string's bytes, after its opening delimiter d
unfoldable pub read_bytes : Qualifiers → ℕ → Cursor → Got Qualified
read_bytes q d c =
    cond (is_pattern q) (pattern_or (read_pattern (place_at c) (string_next d c)) (got (qualified q (string_next d c)) (after_string d c)))
    (got (qualified q (string_next d c)) (after_string d c))

-- the string at its opening delimiter: "for the empty string, at its delimiter" (4; R18)
unfoldable pub read_string : Qualifiers → Cursor → Got Qualified
read_string q c =
    cond (is_empty (string_next (next_byte c) (after_byte c)) && wants_bytes q) (refused 4 (place_at c)) (read_bytes q (next_byte c) (after_byte c))

unfoldable pub start_qualifiers : Bool → Cursor → Got Qualifiers
start_qualifiers inSearch c = read_qualifiers (suc (bytes_left c)) inSearch no_qualifiers (skip_spaces c)

unfoldable pub qualified_string : Bool → Cursor → Got Qualified
qualified_string inSearch c = and_then (start_qualifiers inSearch c) (λ q c₁. read_string q c₁)

-- a qualified string and a second string: "Two-string commands share the middle delimiter; a missing second string is empty" (R14)
pub data Pair : Type 0 where
  pair : Qualified → Line → Pair

unfoldable pub second_string : ℕ → Qualified → Cursor → Got Pair
second_string d q c = got (pair q (string_next d c)) (after_string d c)

unfoldable pub two_strings : Cursor → Got Pair
two_strings c =
    and_then (start_qualifiers false c) (λ q c₁. and_then (read_string q c₁) (λ s c₂. second_string (next_byte c₁) s c₂))

-- two unqualified strings, read as E's two are; "An empty first string is 4", at its opening delimiter (document 02, wish 2; W2.1)
unfoldable pub plain_pair : ℕ → Cursor → Line → Cursor → Got (Line × Line)
plain_pair at c [] c₁ = refused 4 at
plain_pair at c (b ∷ s) c₁ = got (b ∷ s, string_next (next_byte c) c₁) (after_string (next_byte c) c₁)

unfoldable pub two_plain_strings : Cursor → Got (Line × Line)
two_plain_strings c = and_then (quoted (skip_spaces c)) (λ s c₁. plain_pair (place_at (skip_spaces c)) (skip_spaces c) s c₁)

-- WORD's string, which must stand (W0.5), decoded; "33: a `-` or `"` used otherwise, found in decoding, at it"
unfoldable pub names_or33 : Names → Cursor → Got (List Named)
names_or33 (all_names xs) c = got xs c
names_or33 (misused_at at) c = refused 33 at

unfoldable pub word_names : Cursor → Got (List Named)
word_names c = and_then (quoted (skip_spaces c)) (λ s c₁. names_or33 (names_from (suc (place_at (skip_spaces c))) 0 s) c₁)

-- ---- search expressions

-- Where &, | or `)` must follow: `)`; or 5 at the script's length where nothing but spaces, comments and line ends is left ("never closed", R22);
-- or 3 at what stands there (R21)
unfoldable pub closing : Search → Cursor → Got Search
closing se c =
    cond (is_next 41 c) (got se (after_byte c))
    (cond (eqb (bytes_left (skip_blank c)) 0) (refused 5 (place_at (skip_blank c))) (refused 3 (place_at c)))

-- "Line ends may stand .. beside & or |" (R19): the operator `b` if it is the next thing but for them; what must follow is looked for after them (R20)
unfoldable pub operator : ℕ → Cursor → Option Cursor
operator b c = cond (is_next b (skip_blank c)) (some (skip_blank (after_byte (skip_blank c)))) none

-- Alternatives, conjunctions and parts: "& binding more". `deep` brackets may still be opened. `fuel` bounds how deep they call each other: there is
-- always enough (theorems, ReadScript: fuel-suffices); 0 is no number of document 01's.
unfoldable mutual
  unfolding operator closing qualified_string is_next

  pub alternatives : ℕ → ℕ → Cursor → Got Search
  alternatives zero deep c = refused 0 (place_at c)
  alternatives (suc fuel) deep c = elim (conjunction fuel deep c) [ got se c₁ ↦ more_alternatives fuel deep se c₁ | refused n at ↦ refused n at ]

  pub more_alternatives : ℕ → ℕ → Search → Cursor → Got Search
  more_alternatives zero deep se c = refused 0 (place_at c)
  more_alternatives (suc fuel) deep se c =
      elim (operator 124 c) [
        | none ↦ got se c
        | some c₁ ↦ elim (conjunction fuel deep c₁) [ got tf c₂ ↦ more_alternatives fuel deep (either se tf) c₂ | refused n at ↦ refused n at ]
      ]

  pub conjunction : ℕ → ℕ → Cursor → Got Search
  conjunction zero deep c = refused 0 (place_at c)
  conjunction (suc fuel) deep c = elim (part fuel deep c) [ got se c₁ ↦ more_conjunction fuel deep se c₁ | refused n at ↦ refused n at ]

  pub more_conjunction : ℕ → ℕ → Search → Cursor → Got Search
  more_conjunction zero deep se c = refused 0 (place_at c)
  more_conjunction (suc fuel) deep se c =
      elim (operator 38 c) [
        | none ↦ got se c
        | some c₁ ↦ elim (part fuel deep c₁) [ got tf c₂ ↦ more_conjunction fuel deep (both se tf) c₂ | refused n at ↦ refused n at ]
      ]

  -- a bracketed part or one qualified string; "brackets (also round one alone or a part) at most 8 deep": the one too many is 5 at it (R23)
  pub part : ℕ → ℕ → Cursor → Got Search
  part zero deep c = refused 0 (place_at c)
  part (suc fuel) deep c =
      elim (is_next 40 (skip_spaces c)) [
        | false ↦ elim (qualified_string true c) [ got q c₁ ↦ got (one q) c₁ | refused n at ↦ refused n at ]
        | true ↦ elim deep [
          | zero ↦ refused 5 (place_at (skip_spaces c))
          | suc deeper ↦ elim (alternatives fuel deeper (after_byte (skip_spaces c))) [
            | got se c₁ ↦ closing se (skip_spaces c₁)
            | refused n at ↦ refused n at
          ]
        ]
      ]

-- "one qualified string, or several in round brackets joined by & and |"; each byte takes up at most four of the fuel
unfoldable pub search_expression : Cursor → Got Search
search_expression c = part (4 * bytes_left c + 4) 8 c
