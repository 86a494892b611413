-- The reader of search expressions keeps to the script, its fuel is enough, and the strings it reads are lines. Where `left` bytes or fewer are
-- left, alternatives need a fuel of 4 * left + 3, a conjunction 4 * left + 2, a part and what follows it 4 * left + 1.
use Rattle.std.specs.Prelude.{◌≡◌, refl, Bool, true, false, List, ℕ, zero, suc, ◌+◌, ◌*◌, ◌≤◌, eqb}
use Rattle.std.proofs.Math.Option.{Option, none, some}
use Rattle.std.proofs.Common.{not-suc-le-zero, arith}
use Rattle.definitions.specs.Matching.{Qualified}
use Rattle.definitions.specs.Search.{Search, one, both, either}
use Rattle.definitions.specs.Reader.{Cursor, Got, got, refused, place_at, bytes_left, next_byte, after_byte, is_next, skip_spaces, skip_blank}
use Rattle.definitions.specs.Strings.{qualified_string, closing, operator, alternatives, more_alternatives, conjunction, more_conjunction, part, search_expression}
use Rattle.theorems.specs.Lines.{and_both}
use Rattle.theorems.specs.GoodItems.{good_qualified, good_search}
use Rattle.theorems.specs.ReaderSteps.{Sound, Reached, ReadsWell, gets, refuses-at, continues, widen, decides, past-byte, after-byte, past-spaces, past-blank}
use Rattle.theorems.proofs.StringsSteps.{qualified-reads}

abbrev pub GoodSearch : List ℕ → Search → Type 0
GoodSearch s se = Sound s (good_search se)

one-good : (s : List ℕ) (q : Qualified) → Sound s (good_qualified q) → GoodSearch s (one q)
unfolding good_search
one-good s q g = g

both-good : (s : List ℕ) (a b : Search) → GoodSearch s a → GoodSearch s b → GoodSearch s (both a b)
unfolding good_search
both-good s a b f g e = and_both (good_search a) (good_search b) (f e) (g e)

either-good : (s : List ℕ) (a b : Search) → GoodSearch s a → GoodSearch s b → GoodSearch s (either a b)
unfolding good_search
either-good s a b f g e = and_both (good_search a) (good_search b) (f e) (g e)

closing-reads : {s : List ℕ} {left : ℕ} (se : Search) (c : Cursor) → GoodSearch s se → Reached s left c → ReadsWell (GoodSearch s) s left (closing se c)
unfolding closing
closing-reads {s} {left} se c g h = decides (ReadsWell (GoodSearch s) s left) (is_next 41 c) _ _
    (λ t. gets (after-byte c h) g)
    (λ t. decides (ReadsWell (GoodSearch s) s left) (eqb (bytes_left (skip_blank c)) 0) _ _ (λ u. refuses-at refl (past-blank c h)) (λ u. refuses-at refl h))

-- an operator takes a byte
abbrev Found : List ℕ → ℕ → Option Cursor → Type 0
Found s left none = Unit {0}
Found s left (some c) = Reached s left c

operator-found : {s : List ℕ} {left : ℕ} (b : ℕ) (c : Cursor) → eqb b 0 ≡ false → Reached s (suc left) c → Found s left (operator b c)
unfolding operator is_next
operator-found {s} {left} b c e h = decides (Found s left) (eqb b (next_byte (skip_blank c))) _ _
    (λ t. past-blank (after_byte (skip_blank c)) (past-byte (eqb b) (skip_blank c) e t (past-blank c h))) (λ t. tt)

-- what follows an operator: `read` it, and what comes after that is the `rest`
follows : {s : List ℕ} (left : ℕ) (o : Option Cursor) (se : Search) (c : Cursor) (read : Cursor → Got Search) (rest : Search → Cursor → Got Search)
    → Found s left o → GoodSearch s se → Reached s (suc left) c
    → ((l : ℕ) → left ≡ suc l → (c₁ : Cursor) → Reached s (suc l) c₁ → ReadsWell (GoodSearch s) s (suc l) (read c₁))
    → ((l : ℕ) → left ≡ suc l → (tf : Search) (c₂ : Cursor) → GoodSearch s tf → Reached s (suc l) c₂ → ReadsWell (GoodSearch s) s (suc l) (rest tf c₂))
    → ReadsWell (GoodSearch s) s (suc left)
    (elim o [ none ↦ got se c | some c₁ ↦ elim (read c₁) [ got tf c₂ ↦ rest tf c₂ | refused n at ↦ refused n at ] ])
follows left none se c read rest found g h reads goes = gets h g
follows zero (some c₁) se c read rest found g h reads goes = absurd (not-suc-le-zero found.fewer)
follows (suc l) (some c₁) se c read rest found g h reads goes =
    widen (omega arith) (continues rest (reads l refl c₁ found) (λ tf c₂ h₂ g₂. goes l refl tf c₂ g₂ h₂))

-- a part, by what its first byte is
a-part : {s : List ℕ} (left : ℕ) (t : Bool) (fuel deep : ℕ) (c : Cursor) → is_next 40 (skip_spaces c) ≡ t → Reached s (suc left) c
    → ((l deeper : ℕ) → left ≡ suc l → Reached s (suc l) (after_byte (skip_spaces c))
    → ReadsWell (GoodSearch s) s (suc l) (alternatives fuel deeper (after_byte (skip_spaces c))))
    → ReadsWell (GoodSearch s) s (suc left) (elim t [
      | false ↦ elim (qualified_string true c) [ got q c₁ ↦ got (one q) c₁ | refused n at ↦ refused n at ]
      | true ↦ elim deep [
        | zero ↦ refused 5 (place_at (skip_spaces c))
        | suc deeper ↦ elim (alternatives fuel deeper (after_byte (skip_spaces c))) [
          | got se c₁ ↦ closing se (skip_spaces c₁)
          | refused n at ↦ refused n at
        ]
      ]
    ])
unfolding is_next
a-part {s} left false fuel deep c t h inner = continues (λ q c₁. got (one q) c₁) (qualified-reads true c h) (λ q c₁ h₁ g. gets h₁ (one-good s q g))
a-part left true fuel zero c t h inner = refuses-at refl (past-spaces c h)
a-part {s} zero true fuel (suc deeper) c t h inner = absurd (not-suc-le-zero (past-byte (eqb 40) (skip_spaces c) refl t (past-spaces c h)).fewer)
a-part {s} (suc l) true fuel (suc deeper) c t h inner = widen (omega arith)
    (continues (λ se c₁. closing se (skip_spaces c₁)) (inner l deeper refl (past-byte (eqb 40) (skip_spaces c) refl t (past-spaces c h)))
    (λ se c₁ h₁ g. closing-reads se (skip_spaces c₁) g (past-spaces c₁ h₁)))

mutual
  unfolding alternatives more_alternatives conjunction more_conjunction part

  alternatives-reads : {s : List ℕ} (fuel deep left : ℕ) (c : Cursor) → 4 * left + 3 ≤ fuel → Reached s (suc left) c
      → ReadsWell (GoodSearch s) s (suc left) (alternatives fuel deep c)
  alternatives-reads zero deep left c le h = absurd (omega arith)
  alternatives-reads (suc fuel) deep left c le h =
      continues (λ se c₁. more_alternatives fuel deep se c₁) (conjunction-reads fuel deep left c (omega arith) h)
      (λ se c₁ h₁ g. more-alternatives-reads fuel deep left se c₁ (omega arith) g h₁)

  more-alternatives-reads : {s : List ℕ} (fuel deep left : ℕ) (se : Search) (c : Cursor) → 4 * left + 1 ≤ fuel → GoodSearch s se → Reached s (suc left) c
      → ReadsWell (GoodSearch s) s (suc left) (more_alternatives fuel deep se c)
  more-alternatives-reads zero deep left se c le g h = absurd (omega arith)
  more-alternatives-reads {s} (suc fuel) deep left se c le g h =
      follows left (operator 124 c) se c (λ c₁. conjunction fuel deep c₁) (λ tf c₂. more_alternatives fuel deep (either se tf) c₂)
      (operator-found 124 c refl h) g h
      (λ l e c₁ h₁. conjunction-reads fuel deep l c₁ (omega arith) h₁)
      (λ l e tf c₂ f h₂. more-alternatives-reads fuel deep l (either se tf) c₂ (omega arith) (either-good s se tf g f) h₂)

  conjunction-reads : {s : List ℕ} (fuel deep left : ℕ) (c : Cursor) → 4 * left + 2 ≤ fuel → Reached s (suc left) c
      → ReadsWell (GoodSearch s) s (suc left) (conjunction fuel deep c)
  conjunction-reads zero deep left c le h = absurd (omega arith)
  conjunction-reads (suc fuel) deep left c le h =
      continues (λ se c₁. more_conjunction fuel deep se c₁) (part-reads fuel deep left c (omega arith) h)
      (λ se c₁ h₁ g. more-conjunction-reads fuel deep left se c₁ (omega arith) g h₁)

  more-conjunction-reads : {s : List ℕ} (fuel deep left : ℕ) (se : Search) (c : Cursor) → 4 * left + 1 ≤ fuel → GoodSearch s se → Reached s (suc left) c
      → ReadsWell (GoodSearch s) s (suc left) (more_conjunction fuel deep se c)
  more-conjunction-reads zero deep left se c le g h = absurd (omega arith)
  more-conjunction-reads {s} (suc fuel) deep left se c le g h =
      follows left (operator 38 c) se c (λ c₁. part fuel deep c₁) (λ tf c₂. more_conjunction fuel deep (both se tf) c₂)
      (operator-found 38 c refl h) g h
      (λ l e c₁ h₁. part-reads fuel deep l c₁ (omega arith) h₁)
      (λ l e tf c₂ f h₂. more-conjunction-reads fuel deep l (both se tf) c₂ (omega arith) (both-good s se tf g f) h₂)

  part-reads : {s : List ℕ} (fuel deep left : ℕ) (c : Cursor) → 4 * left + 1 ≤ fuel → Reached s (suc left) c
      → ReadsWell (GoodSearch s) s (suc left) (part fuel deep c)
  part-reads zero deep left c le h = absurd (omega arith)
  part-reads (suc fuel) deep left c le h = a-part left (is_next 40 (skip_spaces c)) fuel deep c refl h
      (λ l deeper e h₁. alternatives-reads fuel deeper l (after_byte (skip_spaces c)) (omega arith) h₁)

-- "one qualified string, or several in round brackets joined by & and |"
pub search-reads : {s : List ℕ} {left : ℕ} (c : Cursor) → Reached s left c → ReadsWell (GoodSearch s) s left (search_expression c)
unfolding search_expression
search-reads c h = widen h.fewer (part-reads (4 * bytes_left c + 4) 8 (bytes_left c) c (omega arith)
    (record { within = h.within; fewer = omega arith; lines = h.lines }))
