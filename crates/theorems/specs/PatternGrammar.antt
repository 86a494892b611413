-- How patterns are written (W9.2 to W9.6), over bytes alone, without places and fuel: which bytes are read as a pattern, and where others go wrong.
use Rattle.std.specs.Prelude.{◌≡◌, refl, Bool, true, false, not, ◌&&◌, ◌||◌, List, [], ◌∷◌, ℕ, zero, suc, ◌+◌, ◌*◌, ◌≤◌, length, eqb, leb}
use Rattle.std.proofs.Common.{sym, ap, ◌∙◌, subst, arith, eqb-true}
use Rattle.std.proofs.Math.Bool.{and-false}
use Rattle.definitions.specs.Bytes.{is_digit, is_letter, is_capital, is_small}
use Rattle.definitions.specs.WordSet.{byte, quoted_byte, range, is_range}
use Rattle.definitions.specs.Patterns.{Pattern, one_byte, empty_row, in_row, either_of, any_number, is_none, is_sign, is_blank}

-- what the reader reads: the alternatives of the pattern or of a bracket, a row, an item, an item but for its `#`, a part but for its `~`
pub data Kind : Type 0 where
  alternatives row item part : Kind
  character : (mismatch : Bool) → Kind

-- the first byte; 0 if there is none
unfoldable pub first : List ℕ → ℕ
first [] = 0
first (b ∷ bs) = b

-- a row ends here: at the end, `|` or `)`
unfoldable pub row_ends : List ℕ → Bool
row_ends bs = is_none bs || eqb 124 (first bs) || eqb 41 (first bs)

unfoldable pub is_alphanumeric : ℕ → Bool
is_alphanumeric b = is_digit b || is_letter b

-- The bytes begin with those of p, in which `deep` brackets may be open at once; the second bytes come after it.
pub data Written : Kind → ℕ → List ℕ → Pattern → List ℕ → Type 0 where
  alone : {deep : ℕ} {bs cs : List ℕ} {p : Pattern} → Written row deep bs p cs → eqb 124 (first cs) ≡ false → Written alternatives deep bs p cs
  either : {deep : ℕ} {bs cs ds : List ℕ} {p q : Pattern} → Written row deep bs p (124 ∷ cs) → Written alternatives deep cs q ds
      → Written alternatives deep bs (either_of p q) ds
  empty : {deep : ℕ} {bs : List ℕ} → row_ends bs ≡ true → Written row deep bs empty_row bs
  next : {deep : ℕ} {bs cs ds : List ℕ} {p q : Pattern} → Written item deep bs p cs → Written row deep cs q ds → Written row deep bs (in_row p q) ds
  repeated : {deep : ℕ} {bs cs : List ℕ} {p : Pattern} → Written part deep bs p cs → Written item deep (35 ∷ bs) (any_number p) cs
  once : {deep : ℕ} {bs cs : List ℕ} {p : Pattern} → Written part deep bs p cs → Written item deep bs p cs
  bracket : {deep : ℕ} {bs cs : List ℕ} {p : Pattern} → Written alternatives deep bs p (41 ∷ cs) → is_blank p ≡ false
      → Written part (suc deep) (40 ∷ bs) p cs
  mismatched : {deep : ℕ} {bs cs : List ℕ} {p : Pattern} → Written (character true) deep bs p cs → Written part deep (126 ∷ bs) p cs
  matched : {deep : ℕ} {bs cs : List ℕ} {p : Pattern} → Written (character false) deep bs p cs → Written part deep bs p cs
  quoted : {mismatch : Bool} {deep b : ℕ} {cs : List ℕ} → Written (character mismatch) deep (34 ∷ b ∷ cs) (one_byte mismatch (quoted_byte b)) cs
  plain : {mismatch : Bool} {deep b : ℕ} {cs : List ℕ} → is_sign b ≡ false → (eqb 45 (first cs) && is_alphanumeric b) ≡ false
      → Written (character mismatch) deep (b ∷ cs) (one_byte mismatch (byte b)) cs
  ranged : {mismatch : Bool} {deep a b : ℕ} {cs : List ℕ} → is_sign a ≡ false → is_alphanumeric a ≡ true → is_range a b ≡ true
      → Written (character mismatch) deep (a ∷ 45 ∷ b ∷ cs) (one_byte mismatch (range a b)) cs

-- The bytes go wrong where the second bytes begin: with one that cannot stand there, or none and the pattern must go on.
pub data Broken : Kind → ℕ → List ℕ → List ℕ → Type 0 where
  in-row : {deep : ℕ} {bs cs : List ℕ} → Broken row deep bs cs → Broken alternatives deep bs cs
  in_other : {deep : ℕ} {bs cs ds : List ℕ} {p : Pattern} → Written row deep bs p (124 ∷ cs) → Broken alternatives deep cs ds
      → Broken alternatives deep bs ds
  in_item : {deep : ℕ} {bs cs : List ℕ} → row_ends bs ≡ false → Broken item deep bs cs → Broken row deep bs cs
  in_next : {deep : ℕ} {bs cs ds : List ℕ} {p : Pattern} → Written item deep bs p cs → Broken row deep cs ds → Broken row deep bs ds
  in_repeated : {deep : ℕ} {bs cs : List ℕ} → Broken part deep bs cs → Broken item deep (35 ∷ bs) cs
  in_once : {deep : ℕ} {bs cs : List ℕ} → eqb 35 (first bs) ≡ false → Broken part deep bs cs → Broken item deep bs cs
  -- "the ninth `(` is 34 at it" (W9.6)
  too_deep : {bs : List ℕ} → Broken part zero (40 ∷ bs) (40 ∷ bs)
  in_bracket : {deep : ℕ} {bs cs : List ℕ} → Broken alternatives deep bs cs → Broken part (suc deep) (40 ∷ bs) cs
  unclosed : {deep : ℕ} {bs cs : List ℕ} {p : Pattern} → Written alternatives deep bs p cs → (eqb 41 (first cs) && not (is_blank p)) ≡ false
      → Broken part (suc deep) (40 ∷ bs) cs
  in_mismatched : {deep : ℕ} {bs cs : List ℕ} → Broken (character true) deep bs cs → Broken part deep (126 ∷ bs) cs
  in_matched : {deep : ℕ} {bs cs : List ℕ} → eqb 40 (first bs) ≡ false → eqb 126 (first bs) ≡ false → Broken (character false) deep bs cs
      → Broken part deep bs cs
  no_byte : {mismatch : Bool} {deep : ℕ} → Broken (character mismatch) deep [] []
  sign : {mismatch : Bool} {deep b : ℕ} {bs : List ℕ} → eqb 34 b ≡ false → is_sign b ≡ true → Broken (character mismatch) deep (b ∷ bs) (b ∷ bs)
  no_quoted : {mismatch : Bool} {deep : ℕ} → Broken (character mismatch) deep (34 ∷ []) []
  no_range : {mismatch : Bool} {deep a : ℕ} {bs : List ℕ} → is_sign a ≡ false → is_alphanumeric a ≡ true → is_range a (first bs) ≡ false
      → Broken (character mismatch) deep (a ∷ 45 ∷ bs) bs

-- ---- how many bytes they take

unfoldable pub takes_at_least : Kind → ℕ
takes_at_least alternatives = 0
takes_at_least row = 0
takes_at_least item = 1
takes_at_least part = 1
takes_at_least (character mismatch) = 1

pub shorter : {k : Kind} {deep : ℕ} {bs cs : List ℕ} {p : Pattern} → Written k deep bs p cs → takes_at_least k + length cs ≤ length bs
unfolding takes_at_least
shorter (alone w e) = shorter w
shorter (either w v) = omega (arith, shorter w, shorter v)
shorter (empty e) = omega arith
shorter (next w v) = omega (arith, shorter w, shorter v)
shorter (repeated w) = omega (arith, shorter w)
shorter (once w) = shorter w
shorter (bracket w e) = omega (arith, shorter w)
shorter (mismatched w) = omega (arith, shorter w)
shorter (matched w) = shorter w
shorter quoted = omega arith
shorter (plain e f) = omega arith
shorter (ranged e f g) = omega arith

pub no_longer : {k : Kind} {deep : ℕ} {bs cs : List ℕ} → Broken k deep bs cs → length cs ≤ length bs
no_longer (in-row b) = no_longer b
no_longer (in_other w b) = omega (arith, shorter w, no_longer b)
no_longer (in_item e b) = no_longer b
no_longer (in_next w b) = omega (arith, shorter w, no_longer b)
no_longer (in_repeated b) = omega (arith, no_longer b)
no_longer (in_once e b) = no_longer b
no_longer too_deep = omega arith
no_longer (in_bracket b) = omega (arith, no_longer b)
no_longer (unclosed w e) = omega (arith, shorter w)
no_longer (in_mismatched b) = omega (arith, no_longer b)
no_longer (in_matched e f b) = no_longer b
no_longer no_byte = omega arith
no_longer (sign e f) = omega arith
no_longer no_quoted = omega arith
no_longer (no_range e f g) = omega arith

-- ---- one or the other always is the case

pub data Outcome (k : Kind) (deep : ℕ) (bs : List ℕ) : Type 0 where
  written : {p : Pattern} {cs : List ℕ} → Written k deep bs p cs → Outcome k deep bs
  broken : {cs : List ℕ} → Broken k deep bs cs → Outcome k deep bs

-- 0, which stands for the end, makes no range
no-range-to-end : (a : ℕ) → is_range a 0 ≡ false
unfolding is_range is_digit is_capital is_small
no-range-to-end a = rw (and-false (is_digit a), and-false (is_capital a), and-false (is_small a)) (and-false (leb a 0))

-- after `a-`
range-outcome : (mismatch : Bool) (deep a : ℕ) (bs : List ℕ) → is_sign a ≡ false → is_alphanumeric a ≡ true
    → Outcome (character mismatch) deep (a ∷ 45 ∷ bs)
unfolding first
range-outcome mismatch deep a [] h k = broken (no_range h k (no-range-to-end a))
range-outcome mismatch deep a (b ∷ bs) h k = decide (is_range a b) refl
  where
    decide : (t : Bool) → is_range a b ≡ t → Outcome (character mismatch) deep (a ∷ 45 ∷ b ∷ bs)
    decide true e = written (ranged h k e)
    decide false e = broken (no_range h k e)

-- after a byte that is no sign
plain-outcome : (mismatch : Bool) (deep a : ℕ) (bs : List ℕ) → is_sign a ≡ false → Outcome (character mismatch) deep (a ∷ bs)
unfolding first
plain-outcome mismatch deep a [] h = written (plain h refl)
plain-outcome mismatch deep a (b ∷ bs) h = decide (eqb 45 b) (is_alphanumeric a) refl refl
  where
    decide : (t u : Bool) → eqb 45 b ≡ t → is_alphanumeric a ≡ u → Outcome (character mismatch) deep (a ∷ b ∷ bs)
    decide true true e f = subst (λ x. Outcome (character mismatch) deep (a ∷ x ∷ bs)) (eqb-true 45 b e) (range-outcome mismatch deep a bs h f)
    decide true false e f = written (plain h (ap (λ x. x && is_alphanumeric a) e ∙ f))
    decide false u e f = written (plain h (ap (λ x. x && is_alphanumeric a) e))

quote-outcome : (mismatch : Bool) (deep : ℕ) (bs : List ℕ) → Outcome (character mismatch) deep (34 ∷ bs)
quote-outcome mismatch deep [] = broken no_quoted
quote-outcome mismatch deep (b ∷ bs) = written quoted

character-outcome : (mismatch : Bool) (deep : ℕ) (bs : List ℕ) → Outcome (character mismatch) deep bs
character-outcome mismatch deep [] = broken no_byte
character-outcome mismatch deep (b ∷ bs) = decide (eqb 34 b) (is_sign b) refl refl
  where
    decide : (t u : Bool) → eqb 34 b ≡ t → is_sign b ≡ u → Outcome (character mismatch) deep (b ∷ bs)
    decide true u e f = subst (λ x. Outcome (character mismatch) deep (x ∷ bs)) (eqb-true 34 b e) (quote-outcome mismatch deep bs)
    decide false true e f = broken (sign e f)
    decide false false e f = plain-outcome mismatch deep b bs f

matched-outcome : (deep : ℕ) (bs : List ℕ) → eqb 40 (first bs) ≡ false → eqb 126 (first bs) ≡ false → Outcome part deep bs
matched-outcome deep bs e f = matching (character-outcome false deep bs)
  where
    matching : Outcome (character false) deep bs → Outcome part deep bs
    matching (written w) = written (matched w)
    matching (broken b) = broken (in_matched e f b)

mismatched-outcome : (deep : ℕ) (bs : List ℕ) → Outcome part deep (126 ∷ bs)
mismatched-outcome deep bs = mismatching (character-outcome true deep bs)
  where
    mismatching : Outcome (character true) deep bs → Outcome part deep (126 ∷ bs)
    mismatching (written w) = written (mismatched w)
    mismatching (broken b) = broken (in_mismatched b)

-- the bracket's end, after its alternatives
bracket-outcome : (deep : ℕ) (bs : List ℕ) → Outcome alternatives deep bs → Outcome part (suc deep) (40 ∷ bs)
unfolding first
bracket-outcome deep bs (broken b) = broken (in_bracket b)
bracket-outcome deep bs (written {cs = []} w) = broken (unclosed w refl)
bracket-outcome deep bs (written {p = p} {cs = c ∷ cs} w) = decide (eqb 41 c) (is_blank p) refl refl
  where
    decide : (t u : Bool) → eqb 41 c ≡ t → is_blank p ≡ u → Outcome part (suc deep) (40 ∷ bs)
    decide true false e f = written (bracket (subst (λ x. Written alternatives deep bs p (x ∷ cs)) (sym (eqb-true 41 c e)) w) f)
    decide true true e f = broken (unclosed w (ap (λ x. x && not (is_blank p)) e ∙ ap not f))
    decide false u e f = broken (unclosed w (ap (λ x. x && not (is_blank p)) e))

-- by its first byte; `inner` are the alternatives of a bracket
part-outcome : (deep : ℕ) (bs : List ℕ)
    → ((deeper : ℕ) (cs : List ℕ) → suc (length cs) ≤ length bs → Outcome alternatives deeper cs) → Outcome part deep bs
unfolding first
part-outcome deep [] inner = matched-outcome deep [] refl refl
part-outcome deep (b ∷ bs) inner = decide (eqb 40 b) (eqb 126 b) refl refl
  where
    bracketed : (d : ℕ) → Outcome part d (40 ∷ bs)
    bracketed zero = broken too_deep
    bracketed (suc deeper) = bracket-outcome deeper bs (inner deeper bs (omega arith))

    decide : (t u : Bool) → eqb 40 b ≡ t → eqb 126 b ≡ u → Outcome part deep (b ∷ bs)
    decide true u e f = subst (λ x. Outcome part deep (x ∷ bs)) (eqb-true 40 b e) (bracketed deep)
    decide false true e f = subst (λ x. Outcome part deep (x ∷ bs)) (eqb-true 126 b f) (mismatched-outcome deep bs)
    decide false false e f = matched-outcome deep (b ∷ bs) e f

once-outcome : (deep : ℕ) (bs : List ℕ) → eqb 35 (first bs) ≡ false → Outcome part deep bs → Outcome item deep bs
once-outcome deep bs e (written w) = written (once w)
once-outcome deep bs e (broken b) = broken (in_once e b)

repeated-outcome : (deep : ℕ) (bs : List ℕ) → Outcome part deep bs → Outcome item deep (35 ∷ bs)
repeated-outcome deep bs (written w) = written (repeated w)
repeated-outcome deep bs (broken b) = broken (in_repeated b)

item-outcome : (deep : ℕ) (bs : List ℕ) → ((cs : List ℕ) → length cs ≤ length bs → Outcome part deep cs) → Outcome item deep bs
unfolding first
item-outcome deep [] parts = once-outcome deep [] refl (parts [] (omega arith))
item-outcome deep (b ∷ bs) parts = decide (eqb 35 b) refl
  where
    decide : (t : Bool) → eqb 35 b ≡ t → Outcome item deep (b ∷ bs)
    decide true e = subst (λ x. Outcome item deep (x ∷ bs)) (eqb-true 35 b e) (repeated-outcome deep bs (parts bs (omega arith)))
    decide false e = once-outcome deep (b ∷ bs) e (parts (b ∷ bs) (omega arith))

row-outcome : (deep : ℕ) (bs : List ℕ) → Outcome item deep bs
    → ((cs : List ℕ) → suc (length cs) ≤ length bs → Outcome row deep cs) → Outcome row deep bs
unfolding takes_at_least
row-outcome deep bs items rest = decide (row_ends bs) refl items
  where
    joined : {p : Pattern} {cs : List ℕ} → Written item deep bs p cs → Outcome row deep cs → Outcome row deep bs
    joined w (written v) = written (next w v)
    joined w (broken b) = broken (in_next w b)

    decide : (t : Bool) → row_ends bs ≡ t → Outcome item deep bs → Outcome row deep bs
    decide true e o = written (empty e)
    decide false e (written {cs = cs} w) = joined w (rest cs (omega (arith, shorter w)))
    decide false e (broken b) = broken (in_item e b)

alternatives-outcome : (deep : ℕ) (bs : List ℕ) → Outcome row deep bs → ((cs : List ℕ) → suc (length cs) ≤ length bs → Outcome alternatives deep cs)
    → Outcome alternatives deep bs
unfolding first
alternatives-outcome deep bs (broken b) rest = broken (in-row b)
alternatives-outcome deep bs (written {cs = []} w) rest = written (alone w refl)
alternatives-outcome deep bs (written {p = p} {cs = c ∷ cs} w) rest = decide (eqb 124 c) refl
  where
    joined : Written row deep bs p (124 ∷ cs) → Outcome alternatives deep cs → Outcome alternatives deep bs
    joined v (written u) = written (either v u)
    joined v (broken b) = broken (in_other v b)

    decide : (t : Bool) → eqb 124 c ≡ t → Outcome alternatives deep bs
    decide true e = joined (subst (λ x. Written row deep bs p (x ∷ cs)) (sym (eqb-true 124 c e)) w) (rest cs (omega (arith, shorter w)))
    decide false e = written (alone w e)

-- how deep they call each other, at most: four for each byte, and so many
unfoldable pub spare : Kind → ℕ
spare alternatives = 4
spare row = 3
spare item = 2
spare part = 1
spare (character mismatch) = 0

outcome-within : (fuel : ℕ) (k : Kind) (deep : ℕ) (bs : List ℕ) → spare k + 4 * length bs ≤ fuel → Outcome k deep bs
unfolding spare
outcome-within zero alternatives deep bs le = absurd (omega arith)
outcome-within zero row deep bs le = absurd (omega arith)
outcome-within zero item deep bs le = absurd (omega arith)
outcome-within zero part deep bs le = absurd (omega arith)
outcome-within zero (character mismatch) deep bs le = character-outcome mismatch deep bs
outcome-within (suc fuel) alternatives deep bs le =
    alternatives-outcome deep bs (outcome-within fuel row deep bs (omega arith)) (λ cs l. outcome-within fuel alternatives deep cs (omega arith))
outcome-within (suc fuel) row deep bs le =
    row-outcome deep bs (outcome-within fuel item deep bs (omega arith)) (λ cs l. outcome-within fuel row deep cs (omega arith))
outcome-within (suc fuel) item deep bs le = item-outcome deep bs (λ cs l. outcome-within fuel part deep cs (omega arith))
outcome-within (suc fuel) part deep bs le = part-outcome deep bs (λ deeper cs l. outcome-within fuel alternatives deeper cs (omega arith))
outcome-within (suc fuel) (character mismatch) deep bs le = character-outcome mismatch deep bs

pub outcome : (k : Kind) (deep : ℕ) (bs : List ℕ) → Outcome k deep bs
outcome k deep bs = outcome-within (spare k + 4 * length bs) k deep bs (omega arith)
