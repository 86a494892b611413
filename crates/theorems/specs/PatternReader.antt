-- The reader of patterns reads what is written as a pattern, and refuses the rest with 34 where it goes wrong; its fuel is enough (W9.5).
use Rattle.std.specs.Prelude.{◌≡◌, refl, ◌⊎◌, Bool, true, false, cond, not, ◌&&◌, ◌||◌, List, [], ◌∷◌, ℕ, zero, suc, ◌+◌, ◌-◌, ◌*◌, ◌≤◌, length, eqb}
use Rattle.std.proofs.Common.{sym, ap, ◌∙◌, subst, inl, inr, arith, eqb-true}
use Rattle.std.proofs.Math.Bool.{or-true}
use Rattle.std.proofs.lemmas.Bool.{false≢true}
use Rattle.std.proofs.Math.Dec.{eqb-suc-zero}
use Rattle.definitions.specs.Bytes.{Line}
use Rattle.definitions.specs.WordSet.{byte, quoted_byte, range}
use Rattle.definitions.specs.Reader.{Cursor, cursor, Got, got, refused, and_then, place_at, bytes_left, next_byte, after_byte, is_next}
use Rattle.definitions.specs.Patterns.{Pattern, one_byte, empty_row, in_row, either_of, any_number, is_none, is_sign, is_at_end, cannot_stand, range_end, after_plain, after_quote, read_character, read_single, ends_row, is_blank, close_bracket, close_pattern, read_alternatives, read_row, read_item, read_part, read_pattern}
use Rattle.theorems.specs.PatternGrammar.{Kind, alternatives, row, item, part, character, first, row_ends, is_alphanumeric, Written, alone, either, empty, next, repeated, once, bracket, mismatched, matched, quoted, plain, ranged, Broken, in-row, in_other, in_item, in_next, in_repeated, in_once, too_deep, in_bracket, unclosed, in_mismatched, in_matched, no_byte, sign, no_quoted, no_range, takes_at_least, shorter, no_longer, Outcome, written, broken, spare, outcome}

-- the reader of each kind
unfoldable pub read_kind : Kind → ℕ → ℕ → Cursor → Got Pattern
read_kind alternatives fuel deep c = read_alternatives fuel deep c
read_kind row fuel deep c = read_row fuel deep c
read_kind item fuel deep c = read_item fuel deep c
read_kind part fuel deep c = read_part fuel deep c
read_kind (character mismatch) fuel deep c = read_character mismatch c

-- ---- the next byte

next-first : (at : ℕ) (bs : List ℕ) → next_byte (cursor at bs) ≡ first bs
unfolding next_byte first
next-first at [] = refl
next-first at (b ∷ bs) = refl

next-is : (b at : ℕ) (bs : List ℕ) → is_next b (cursor at bs) ≡ eqb b (first bs)
unfolding is_next
next-is b at bs = ap (eqb b) (next-first at bs)

at-end : (at : ℕ) (bs : List ℕ) → is_at_end (cursor at bs) ≡ is_none bs
unfolding is_at_end bytes_left is_none
at-end at [] = refl
at-end at (b ∷ bs) = eqb-suc-zero (length bs)

row_ends_lem : (at : ℕ) (bs : List ℕ) → ends_row (cursor at bs) ≡ row_ends bs
unfolding ends_row row_ends
row_ends_lem at bs = rw (at-end at bs, next-is 124 at bs, next-is 41 at bs)

-- the first bytes of what is written
unfoldable opens_character : ℕ → Bool
opens_character b = eqb 34 b || not (is_sign b)

unfoldable opens_part : ℕ → Bool
opens_part b = eqb 40 b || eqb 126 b || opens_character b

unfoldable opens_item : ℕ → Bool
opens_item b = eqb 35 b || opens_part b

character-opens : {mismatch : Bool} {deep : ℕ} {bs cs : List ℕ} {p : Pattern} → Written (character mismatch) deep bs p cs
    → opens_character (first bs) ≡ true
unfolding first opens_character
character-opens quoted = refl
character-opens (plain {b = b} e f) = ap (λ t. eqb 34 b || not t) e ∙ or-true (eqb 34 b)
character-opens (ranged {a = a} e f g) = ap (λ t. eqb 34 a || not t) e ∙ or-true (eqb 34 a)

part-opens : {deep : ℕ} {bs cs : List ℕ} {p : Pattern} → Written part deep bs p cs → opens_part (first bs) ≡ true
unfolding first opens_part
part-opens (bracket w e) = refl
part-opens (mismatched w) = refl
part-opens (matched {bs = bs} w) =
    ap (λ t. eqb 40 (first bs) || eqb 126 (first bs) || t) (character-opens w) ∙ or-true (eqb 40 (first bs) || eqb 126 (first bs))

item-opens : {deep : ℕ} {bs cs : List ℕ} {p : Pattern} → Written item deep bs p cs → opens_item (first bs) ≡ true
unfolding first opens_item
item-opens (repeated w) = refl
item-opens (once {bs = bs} w) = ap (λ t. eqb 35 (first bs) || t) (part-opens w) ∙ or-true (eqb 35 (first bs))

-- a byte of which a test says otherwise is another byte
pub unlike : (test : ℕ → Bool) (s b : ℕ) → test s ≡ false → test b ≡ true → eqb s b ≡ false
unlike test s b e f = decide (eqb s b) refl
  where
    decide : (t : Bool) → eqb s b ≡ t → eqb s b ≡ false
    decide true q = absurd (false≢true (sym e ∙ ap test (eqb-true s b q) ∙ f))
    decide false q = q

character-starts : {mismatch : Bool} {deep : ℕ} {bs cs : List ℕ} {p : Pattern} → Written (character mismatch) deep bs p cs
    → (eqb 40 (first bs) ≡ false) × (eqb 126 (first bs) ≡ false)
unfolding opens_character is_sign
character-starts {bs = bs} w =
    (unlike opens_character 40 (first bs) refl (character-opens w), unlike opens_character 126 (first bs) refl (character-opens w))

part-starts : {deep : ℕ} {bs cs : List ℕ} {p : Pattern} → Written part deep bs p cs → eqb 35 (first bs) ≡ false
unfolding opens_part opens_character is_sign
part-starts {bs = bs} w = unlike opens_part 35 (first bs) refl (part-opens w)

item-starts : {deep : ℕ} {bs cs : List ℕ} {p : Pattern} → Written item deep bs p cs → row_ends bs ≡ false
unfolding row_ends is_none first takes_at_least opens_item opens_part opens_character is_sign
item-starts {bs = []} w = absurd (omega (arith, shorter w))
item-starts {bs = b ∷ bs} w = rw (unlike opens_item 124 b refl (item-opens w), unlike opens_item 41 b refl (item-opens w)) refl

-- ---- the reader's clauses, by what it has read so far

abbrev made : (Pattern → Pattern) → Got Pattern → Got Pattern
made f g = elim g [ got p c ↦ got (f p) c | refused n at ↦ refused n at ]

abbrev or_other : ℕ → ℕ → Pattern → Cursor → Bool → Got Pattern
or_other fuel deep p c t = elim t [ false ↦ got p c | true ↦ made (λ q. either_of p q) (read_alternatives fuel deep (after_byte c)) ]

abbrev after_row : ℕ → ℕ → Got Pattern → Got Pattern
after_row fuel deep g = elim g [ refused n at ↦ refused n at | got p c ↦ or_other fuel deep p c (is_next 124 c) ]

abbrev after_item : ℕ → ℕ → Got Pattern → Got Pattern
after_item fuel deep g = elim g [ refused n at ↦ refused n at | got p c ↦ made (λ q. in_row p q) (read_row fuel deep c) ]

abbrev row_at : ℕ → ℕ → Cursor → Bool → Got Pattern
row_at fuel deep c t = elim t [ true ↦ got empty_row c | false ↦ after_item fuel deep (read_item fuel deep c) ]

abbrev item_at : ℕ → ℕ → Cursor → Bool → Got Pattern
item_at fuel deep c t = elim t [ false ↦ read_part fuel deep c | true ↦ made (λ p. any_number p) (read_part fuel deep (after_byte c)) ]

abbrev closed : Got Pattern → Got Pattern
closed g = elim g [ got p c ↦ close_bracket p c | refused n at ↦ refused n at ]

abbrev part_at : ℕ → ℕ → Cursor → Bool → Got Pattern
part_at fuel deep c t = elim t [
  | false ↦ read_single c
  | true ↦ elim deep [ zero ↦ cannot_stand c | suc deeper ↦ closed (read_alternatives fuel deeper (after_byte c)) ]
]

-- a byte that is no sign
plain-reads : (mismatch : Bool) (b at : ℕ) (cs : List ℕ) → is_sign b ≡ false
    → read_character mismatch (cursor at (b ∷ cs)) ≡ after_plain mismatch b (cursor (suc at) cs)
unfolding read_character is_next is_at_end is_sign bytes_left next_byte after_byte
plain-reads mismatch b at cs e = rw (unlike (λ x. not (is_sign x)) 34 b refl (ap not e), eqb-suc-zero (length cs), e) refl

-- a byte alone, and the range that a letter or digit begins
alone-reads : (mismatch : Bool) (b at : ℕ) (cs : List ℕ) → is_sign b ≡ false → (eqb 45 (first cs) && is_alphanumeric b) ≡ false
    → read_character mismatch (cursor at (b ∷ cs)) ≡ got (one_byte mismatch (byte b)) (cursor (suc at) cs)
unfolding after_plain is_alphanumeric
alone-reads mismatch b at cs e f = plain-reads mismatch b at cs e ∙ rw (next-is 45 (suc at) cs, f) refl

range-reads : (mismatch : Bool) (a at : ℕ) (bs : List ℕ) → is_sign a ≡ false → is_alphanumeric a ≡ true
    → read_character mismatch (cursor at (a ∷ 45 ∷ bs)) ≡ range_end mismatch a (cursor (suc (suc at)) bs)
unfolding after_plain is_alphanumeric is_next next_byte after_byte
range-reads mismatch a at bs e f = plain-reads mismatch a at (45 ∷ bs) e ∙ rw f refl

sign_reads : (mismatch : Bool) (b at : ℕ) (bs : List ℕ) → eqb 34 b ≡ false → is_sign b ≡ true
    → read_character mismatch (cursor at (b ∷ bs)) ≡ refused 34 at
unfolding read_character is_next next_byte cannot_stand place_at
sign_reads mismatch b at bs e f = rw (e, f, or-true (is_at_end (cursor at (b ∷ bs)))) refl

-- a part that is no bracket and has no `~`
matched-reads : (fuel deep at : ℕ) (bs : List ℕ) → eqb 40 (first bs) ≡ false → eqb 126 (first bs) ≡ false
    → read_part (suc fuel) deep (cursor at bs) ≡ read_character false (cursor at bs)
unfolding read_alternatives
matched-reads fuel deep at bs e f =
    ap (part_at fuel deep (cursor at bs)) (next-is 40 at bs ∙ e)
    ∙ ap (λ t. cond t (read_character true (after_byte (cursor at bs))) (read_character false (cursor at bs))) (next-is 126 at bs ∙ f)

got-there : (p : Pattern) (cs : List ℕ) (x y : ℕ) → x ≡ y → got p (cursor x cs) ≡ got p (cursor y cs)
got-there p cs x y e = ap (λ z. got p (cursor z cs)) e

-- ---- what is written is read

pub written_read : {k : Kind} {deep : ℕ} {bs cs : List ℕ} {p : Pattern} → Written k deep bs p cs → (fuel at x : ℕ) → spare k + 4 * length bs ≤ fuel
    → x + length cs ≡ at + length bs → read_kind k fuel deep (cursor at bs) ≡ got p (cursor x cs)
unfolding read_kind spare takes_at_least read_alternatives next_byte after_byte place_at bytes_left is_at_end read_character after_quote range_end
written_read (alone w e) zero at x le h = absurd (omega arith)
written_read (alone {deep} {bs} {cs} {p} w e) (suc fuel) at x le h =
    ap (after_row fuel deep) (written_read w fuel at x (omega arith) h) ∙ ap (or_other fuel deep p (cursor x cs)) (next-is 124 x cs ∙ e)
written_read (either w v) zero at x le h = absurd (omega arith)
written_read (either {deep} {bs} {cs} {ds} {p} {q} w v) (suc fuel) at x le h =
    ap (after_row fuel deep) (written_read w fuel at (at + (length bs - suc (length cs))) (omega arith) (omega (arith, shorter w)))
    ∙ ap (made (λ r. either_of p r))
    (written_read v fuel (suc (at + (length bs - suc (length cs)))) x (omega (arith, shorter w)) (omega (arith, shorter w)))
written_read (empty e) zero at x le h = absurd (omega arith)
written_read (empty {deep} {bs} e) (suc fuel) at x le h =
    ap (row_at fuel deep (cursor at bs)) (row_ends_lem at bs ∙ e) ∙ got-there empty_row bs at x (omega arith)
written_read (next w v) zero at x le h = absurd (omega arith)
written_read (next {deep} {bs} {cs} {ds} {p} {q} w v) (suc fuel) at x le h =
    ap (row_at fuel deep (cursor at bs)) (row_ends_lem at bs ∙ item-starts w)
    ∙ ap (after_item fuel deep) (written_read w fuel at (at + (length bs - length cs)) (omega arith) (omega (arith, shorter w)))
    ∙ ap (made (λ r. in_row p r)) (written_read v fuel (at + (length bs - length cs)) x (omega (arith, shorter w)) (omega (arith, shorter w)))
written_read (repeated w) zero at x le h = absurd (omega arith)
written_read (repeated w) (suc fuel) at x le h = ap (made (λ p. any_number p)) (written_read w fuel (suc at) x (omega arith) (omega arith))
written_read (once w) zero at x le h = absurd (omega arith)
written_read (once {deep} {bs} w) (suc fuel) at x le h =
    ap (item_at fuel deep (cursor at bs)) (next-is 35 at bs ∙ part-starts w) ∙ written_read w fuel at x (omega arith) h
written_read (bracket w e) zero at x le h = absurd (omega arith)
written_read (bracket {deep} {bs} {cs} {p} w e) (suc fuel) at x le h =
    ap closed (written_read w fuel (suc at) (at + (length bs - length cs)) (omega arith) (omega (arith, shorter w)))
    ∙ ap (λ t. cond (not t) (got p (cursor (suc (at + (length bs - length cs))) cs)) (refused 34 (at + (length bs - length cs)))) e
    ∙ got-there p cs (suc (at + (length bs - length cs))) x (omega (arith, shorter w))
written_read (mismatched w) zero at x le h = absurd (omega arith)
written_read (mismatched w) (suc fuel) at x le h = written_read w fuel (suc at) x (omega arith) (omega arith)
written_read (matched w) zero at x le h = absurd (omega arith)
written_read (matched {deep} {bs} w) (suc fuel) at x le h =
    matched-reads fuel deep at bs (character-starts w).0 (character-starts w).1 ∙ written_read w fuel at x (omega arith) h
written_read (quoted {mismatch} {deep} {b} {cs}) fuel at x le h =
    ap (λ t. cond t (refused 34 (suc at)) (got (one_byte mismatch (quoted_byte b)) (cursor (suc (suc at)) cs))) (eqb-suc-zero (length cs))
    ∙ got-there (one_byte mismatch (quoted_byte b)) cs (suc (suc at)) x (omega arith)
written_read (plain {mismatch} {deep} {b} {cs} e f) fuel at x le h =
    alone-reads mismatch b at cs e f ∙ got-there (one_byte mismatch (byte b)) cs (suc at) x (omega arith)
written_read (ranged {mismatch} {deep} {a} {b} {cs} e f g) fuel at x le h =
    range-reads mismatch a at (b ∷ cs) e f
    ∙ ap (λ t. cond t (got (one_byte mismatch (range a b)) (cursor (suc (suc (suc at))) cs)) (refused 34 (suc (suc at)))) g
    ∙ got-there (one_byte mismatch (range a b)) cs (suc (suc (suc at))) x (omega arith)

-- ---- and the rest is refused, where it goes wrong

refused-there : (x y : ℕ) → x ≡ y → ◌≡◌ {A = Got Pattern} (refused 34 x) (refused 34 y)
refused-there x y e = ap (λ z. refused 34 z) e

pub broken-read : {k : Kind} {deep : ℕ} {bs cs : List ℕ} → Broken k deep bs cs → (fuel at x : ℕ) → spare k + 4 * length bs ≤ fuel
    → x + length cs ≡ at + length bs → read_kind k fuel deep (cursor at bs) ≡ refused 34 x
unfolding read_kind spare takes_at_least read_alternatives next_byte after_byte place_at bytes_left is_at_end read_character after_quote range_end
broken-read (in-row b) zero at x le h = absurd (omega arith)
broken-read (in-row {deep} b) (suc fuel) at x le h = ap (after_row fuel deep) (broken-read b fuel at x (omega arith) h)
broken-read (in_other w b) zero at x le h = absurd (omega arith)
broken-read (in_other {deep} {bs} {cs} {ds} {p} w b) (suc fuel) at x le h =
    ap (after_row fuel deep) (written_read w fuel at (at + (length bs - suc (length cs))) (omega arith) (omega (arith, shorter w)))
    ∙ ap (made (λ q. either_of p q))
    (broken-read b fuel (suc (at + (length bs - suc (length cs)))) x (omega (arith, shorter w)) (omega (arith, shorter w)))
broken-read (in_item e b) zero at x le h = absurd (omega arith)
broken-read (in_item {deep} {bs} e b) (suc fuel) at x le h =
    ap (row_at fuel deep (cursor at bs)) (row_ends_lem at bs ∙ e) ∙ ap (after_item fuel deep) (broken-read b fuel at x (omega arith) h)
broken-read (in_next w b) zero at x le h = absurd (omega arith)
broken-read (in_next {deep} {bs} {cs} {ds} {p} w b) (suc fuel) at x le h =
    ap (row_at fuel deep (cursor at bs)) (row_ends_lem at bs ∙ item-starts w)
    ∙ ap (after_item fuel deep) (written_read w fuel at (at + (length bs - length cs)) (omega arith) (omega (arith, shorter w)))
    ∙ ap (made (λ q. in_row p q)) (broken-read b fuel (at + (length bs - length cs)) x (omega (arith, shorter w)) (omega (arith, shorter w)))
broken-read (in_repeated b) zero at x le h = absurd (omega arith)
broken-read (in_repeated b) (suc fuel) at x le h = ap (made (λ p. any_number p)) (broken-read b fuel (suc at) x (omega arith) (omega arith))
broken-read (in_once e b) zero at x le h = absurd (omega arith)
broken-read (in_once {deep} {bs} e b) (suc fuel) at x le h =
    ap (item_at fuel deep (cursor at bs)) (next-is 35 at bs ∙ e) ∙ broken-read b fuel at x (omega arith) h
broken-read too_deep zero at x le h = absurd (omega arith)
broken-read too_deep (suc fuel) at x le h = refused-there at x (omega arith)
broken-read (in_bracket b) zero at x le h = absurd (omega arith)
broken-read (in_bracket b) (suc fuel) at x le h = ap closed (broken-read b fuel (suc at) x (omega arith) (omega arith))
broken-read (unclosed w e) zero at x le h = absurd (omega arith)
broken-read (unclosed {deep} {bs} {cs} {p} w e) (suc fuel) at x le h =
    ap closed (written_read w fuel (suc at) x (omega arith) (omega arith))
    ∙ ap (λ t. cond (t && not (is_blank p)) (got p (after_byte (cursor x cs))) (refused 34 x)) (next-is 41 x cs)
    ∙ ap (λ t. cond t (got p (after_byte (cursor x cs))) (refused 34 x)) e
broken-read (in_mismatched b) zero at x le h = absurd (omega arith)
broken-read (in_mismatched b) (suc fuel) at x le h = broken-read b fuel (suc at) x (omega arith) (omega arith)
broken-read (in_matched e f b) zero at x le h = absurd (omega arith)
broken-read (in_matched {deep} {bs} e f b) (suc fuel) at x le h = matched-reads fuel deep at bs e f ∙ broken-read b fuel at x (omega arith) h
broken-read no_byte fuel at x le h = refused-there at x (omega arith)
broken-read (sign {mismatch} {deep} {b} {bs} e f) fuel at x le h = sign_reads mismatch b at bs e f ∙ refused-there at x (omega arith)
broken-read no_quoted fuel at x le h = refused-there (suc at) x (omega arith)
broken-read (no_range {mismatch} {deep} {a} {bs} e f g) fuel at x le h =
    range-reads mismatch a at bs e f ∙ rw (next-first (suc (suc at)) bs, g) refl ∙ refused-there (suc (suc at)) x (omega arith)

-- with fuel enough it makes no difference how much there is
pub fuel-alike : (k : Kind) (fuel more deep : ℕ) (c : Cursor) → spare k + 4 * bytes_left c ≤ fuel → spare k + 4 * bytes_left c ≤ more
    → read_kind k fuel deep c ≡ read_kind k more deep c
unfolding bytes_left
fuel-alike k fuel more deep (cursor at bs) le le' = by (outcome k deep bs)
  where
    by : Outcome k deep bs → read_kind k fuel deep (cursor at bs) ≡ read_kind k more deep (cursor at bs)
    by (written {cs = cs} w) =
        written_read w fuel at (at + (length bs - length cs)) le (omega (arith, shorter w))
        ∙ sym (written_read w more at (at + (length bs - length cs)) le' (omega (arith, shorter w)))
    by (broken {cs = cs} b) =
        broken-read b fuel at (at + (length bs - length cs)) le (omega (arith, no_longer b))
        ∙ sym (broken-read b more at (at + (length bs - length cs)) le' (omega (arith, no_longer b)))

-- ---- the pattern of a string

-- it is no pattern, and the last bytes begin where it goes wrong: in its alternatives or after them
pub data BrokenPattern (s cs : List ℕ) : Type 0 where
  within : Broken alternatives 8 s cs → BrokenPattern s cs
  unended : {p : Pattern} → Written alternatives 8 s p cs → (is_none cs && not (is_blank p)) ≡ false → BrokenPattern s cs

pub data PatternOutcome (s : List ℕ) : Type 0 where
  is-pattern : {p : Pattern} → Written alternatives 8 s p [] → is_blank p ≡ false → PatternOutcome s
  no_pattern : {cs : List ℕ} → BrokenPattern s cs → PatternOutcome s

pub pattern-outcome : (s : List ℕ) → PatternOutcome s
unfolding is_none
pattern-outcome s = by (outcome alternatives 8 s)
  where
    ended : {p : Pattern} (t : Bool) → is_blank p ≡ t → Written alternatives 8 s p [] → PatternOutcome s
    ended true e w = no_pattern (unended w (ap not e))
    ended false e w = is-pattern w e

    by : Outcome alternatives 8 s → PatternOutcome s
    by (written {p = p} {cs = []} w) = ended (is_blank p) refl w
    by (written {cs = c ∷ cs} w) = no_pattern (unended w refl)
    by (broken b) = no_pattern (within b)

pub broken-shorter : {s cs : List ℕ} → BrokenPattern s cs → length cs ≤ length s
broken-shorter (within b) = no_longer b
broken-shorter (unended w e) = omega (arith, shorter w)

pub whole-read : {s : List ℕ} {p : Pattern} → Written alternatives 8 s p [] → is_blank p ≡ false → (at : ℕ)
    → read_pattern at s ≡ got p (cursor (at + length s) [])
unfolding read_pattern close_pattern is_at_end bytes_left and_then read_kind spare
whole-read {s} {p} w e at =
    ap (λ g. and_then g close_pattern) (written_read w (4 * length s + 4) at (at + length s) (omega arith) (omega arith))
    ∙ ap (λ t. cond (not t) (got p (cursor (at + length s) [])) (cannot_stand (cursor (at + length s) []))) e

pub broken-pattern-read : {s cs : List ℕ} → BrokenPattern s cs → (at x : ℕ) → x + length cs ≡ at + length s → read_pattern at s ≡ refused 34 x
unfolding read_pattern close_pattern cannot_stand place_at and_then read_kind spare
broken-pattern-read {s} (within b) at x h = ap (λ g. and_then g close_pattern) (broken-read b (4 * length s + 4) at x (omega arith) h)
broken-pattern-read {s} {cs} (unended {p} w e) at x h =
    ap (λ g. and_then g close_pattern) (written_read w (4 * length s + 4) at x (omega arith) h)
    ∙ ap (λ t. cond (t && not (is_blank p)) (got p (cursor x cs)) (refused 34 x)) (at-end x cs)
    ∙ ap (λ t. cond t (got p (cursor x cs)) (refused 34 x)) e

-- it is read to its end, or refused with 34 at one of its bytes or its end
abbrev pub ReadOrRefused : ℕ → Line → Type 0
ReadOrRefused at s =
    ((p : Pattern) × (read_pattern at s ≡ got p (cursor (at + length s) []))) ⊎ ((k : ℕ) × (k ≤ length s) × (read_pattern at s ≡ refused 34 (at + k)))

pub pattern-read : (at : ℕ) (s : Line) → ReadOrRefused at s
pattern-read at s = by (pattern-outcome s)
  where
    by : PatternOutcome s → ReadOrRefused at s
    by (is-pattern {p} w e) = inl (p, whole-read w e at)
    by (no_pattern {cs} b) =
        inr (
          length s - length cs,
          omega (arith, broken-shorter b),
          broken-pattern-read b at (at + (length s - length cs)) (omega (arith, broken-shorter b)),
        )

pub pattern-refused : (at : ℕ) (s : Line) (n x : ℕ) → read_pattern at s ≡ refused n x → (n ≡ 34) × (at ≤ x) × (x ≤ at + length s)
pattern-refused at s n x e = by (pattern-read at s)
  where
    by : ReadOrRefused at s → (n ≡ 34) × (at ≤ x) × (x ≤ at + length s)
    by (inl f) = absurd (let z : ◌≡◌ {A = ℕ} 0 1 = cc f.1 in omega arith)
    by (inr f) = let z : x ≡ at + f.0 = cc f.2 in (cc f.2, omega arith, omega (arith, f.1))

-- the reader's fuel is enough for every string: its want, number 0, is never the answer
pub fuel-suffices : (at : ℕ) (s : Line) (x : ℕ) → read_pattern at s ≡ refused 0 x → ⊥
fuel-suffices at s x e = omega (arith, (pattern-refused at s 0 x e).0)

-- what is read is a pattern as written, and the cursor is at the string's end
pub pattern-got : (at : ℕ) (s : Line) (p : Pattern) (c : Cursor) → read_pattern at s ≡ got p c
    → Written alternatives 8 s p [] × (is_blank p ≡ false) × (c ≡ cursor (at + length s) [])
pattern-got at s p c e = by (pattern-outcome s)
  where
    by : PatternOutcome s → Written alternatives 8 s p [] × (is_blank p ≡ false) × (c ≡ cursor (at + length s) [])
    by (is-pattern {p = q} w f) =
        let z : q ≡ p = cc (whole-read w f at) in
        (subst (λ r. Written alternatives 8 s r []) z w, subst (λ r. is_blank r ≡ false) z f, cc (whole-read w f at))
    by (no_pattern {cs} b) =
        let f : read_pattern at s ≡ refused 34 (at + (length s - length cs)) = broken-pattern-read b at _ (omega (arith, broken-shorter b)) in
        absurd (let z : ◌≡◌ {A = ℕ} 0 1 = cc in omega arith)

-- ---- places

-- so many bytes further on
unfoldable pub moved : ℕ → Got Pattern → Got Pattern
moved n (got p (cursor at bs)) = got p (cursor (n + at) bs)
moved n (refused k at) = refused k (n + at)

-- where the string begins makes no difference but to the places
pub places-move : (at : ℕ) (s : Line) → read_pattern at s ≡ moved at (read_pattern 0 s)
unfolding moved
places-move at s = by (pattern-outcome s)
  where
    by : PatternOutcome s → read_pattern at s ≡ moved at (read_pattern 0 s)
    by (is-pattern {p} w e) =
        whole-read w e at ∙ got-there p [] (at + length s) (at + (0 + length s)) (omega arith) ∙ sym (ap (moved at) (whole-read w e 0))
    by (no_pattern {cs} b) =
        broken-pattern-read b at (at + (length s - length cs)) (omega (arith, broken-shorter b))
        ∙ sym (ap (moved at) (broken-pattern-read b 0 (length s - length cs) (omega (arith, broken-shorter b))))
