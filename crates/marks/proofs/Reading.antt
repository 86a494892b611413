-- What the definitions' reader reads stands in the string. Assumes nothing.
use mathlib.Core.Path.{◌≡◌, refl, sym, ap, ap₂, ◌∙◌, subst}
use mathlib.Core.Bool.{Bool, true, false, true≢false, cond, not, ◌&&◌, ◌||◌, and-false, and-eq-true_iff}
use mathlib.Core.List.{[]}
use Prim.Native.Nat.{ℕ, zero, suc, ◌+◌, ◌*◌, ◌<◌}
use native.Mathlib.Omega.{arith}
use lib.ListN.{length, get_or}
use lib.Dec.{leb}
use Rattle.definitions.specs.Bytes.{Line, is_digit, is_capital, is_small, is_letter}
use Rattle.definitions.specs.WordSet.{Named, is_range}
use Rattle.definitions.specs.Reader.{Cursor, cursor, Got, got, refused, and_then, place_at, next_byte, after_byte, is_next}
use Rattle.definitions.specs.Patterns.{Pattern, one_byte, is_sign, is_at_end, cannot_stand, range_end, after_plain, after_quote, read_character, read_single, ends_row, is_blank, close_bracket, close_pattern, read_alternatives, read_row, read_item, read_part, read_pattern}
use Rattle.theorems.specs.ReaderSteps.{decides}
use Rattle.text.proofs.LineFeeds.{or-neither}
use Rattle.text.proofs.Cursors.{next-in, next-inside}
use Rattle.text.specs.Cursors.{cursor_at}
use Rattle.patterns.proofs.Places.{at-end, next-within}
use Rattle.marks.specs.Sweeping.{Reads}
use Rattle.marks.specs.Written.{Names, Kind, Stands}
use Rattle.marks.proofs.Places.{next-other, no_sign, after-suc, inside, end-next, ends_next}

-- No `-` stands there. None stands where an item or a row begins: so where a byte is read alone, none follows it.
abbrev NoRange : Line → ℕ → Type 0
NoRange s at = is_next 45 (cursor_at s at) ≡ false

-- ---- characters and ranges

-- a range's end is not 0
range-end : (x y : ℕ) → is_range x y ≡ true → 0 < y
unfolding is_range is_digit is_capital is_small
range-end x zero h = absurd (true≢false (sym h ∙ rw (and-false (is_digit x), and-false (is_capital x), and-false (is_small x)) (and-false (leb x 0))))
range-end x (suc y) h = omega arith

record Character (s : Line) (m : Bool) (at : ℕ) (p : Pattern) (c : Cursor) : Type 0 where
  named : Named
  end : ℕ
  pattern : p ≡ one_byte m named
  is : c ≡ cursor_at s end
  names : NoRange s end → Names s at named end
  starts : NoRange s at

unfoldable ReadsCharacter : Line → Bool → ℕ → Got Pattern → Type 0
ReadsCharacter s m at (got p c) = Character s m at p c
ReadsCharacter s m at (refused n i) = Unit {0}

module _ (s : Line) (m : Bool) (at : ℕ) where
  quote-read : is_next 34 (cursor_at s at) ≡ true → ReadsCharacter s m at (after_quote m (cursor_at s (suc at)))
  unfolding ReadsCharacter after_quote cannot_stand
  quote-read h = decides (ReadsCharacter s m at) (is_at_end (cursor_at s (suc at))) _ _ (λ e. tt)
      (λ e. let within = inside s (suc at) e in record {
        named = Named.quoted_byte (get_or s (suc at) 0);
        end = suc (suc at);
        pattern = ap (λ (b : ℕ). one_byte m (Named.quoted_byte b)) (next-in s (suc at) within);
        is = after-suc s (suc at) within;
        names = λ k. Names.quoted h within;
        starts = next-other 34 45 (cursor_at s at) h (λ is. omega (arith, is));
      })

  module _ (no-quote : is_next 34 (cursor_at s at) ≡ false) (within : at < length s) (starts : NoRange s at) where
    range-read : is_next 45 (cursor_at s (suc at)) ≡ true → ReadsCharacter s m at (range_end m (next_byte (cursor_at s at)) (after_byte (cursor_at s (suc at))))
    unfolding ReadsCharacter range_end cannot_stand
    range-read h = rw (after-suc s (suc at) (next-within s (suc at) 45 (omega arith) h))
        (decides (ReadsCharacter s m at) (is_range (next_byte (cursor_at s at)) (next_byte (cursor_at s (suc (suc at))))) _ _
        (λ e. let last = next-inside s (suc (suc at)) (range-end (next_byte (cursor_at s at)) (next_byte (cursor_at s (suc (suc at)))) e) in record {
          named = Named.range (get_or s at 0) (get_or s (suc (suc at)) 0);
          end = suc (suc (suc at));
          pattern = ap₂ (λ a b. one_byte m (Named.range a b)) (next-in s at within) (next-in s (suc (suc at)) last);
          is = after-suc s (suc (suc at)) last;
          names = λ k. Names.ranged no-quote h last;
          starts = starts;
        })
        (λ e. tt))

    plain-read : ReadsCharacter s m at (after_plain m (next_byte (cursor_at s at)) (cursor_at s (suc at)))
    unfolding ReadsCharacter after_plain
    plain-read = decides (ReadsCharacter s m at) (is_next 45 (cursor_at s (suc at)) && (is_digit (next_byte (cursor_at s at)) || is_letter (next_byte (cursor_at s at)))) _ _
        (λ e. range-read ((and-eq-true_iff (is_next 45 (cursor_at s (suc at))) (is_digit (next_byte (cursor_at s at)) || is_letter (next_byte (cursor_at s at)))).0 e).0)
        (λ e. record {
          named = Named.byte (get_or s at 0);
          end = suc at;
          pattern = ap (λ (b : ℕ). one_byte m (Named.byte b)) (next-in s at within);
          is = refl;
          names = λ k. Names.alone no-quote k within;
          starts = starts;
        })

  character-read : ReadsCharacter s m at (read_character m (cursor_at s at))
  unfolding ReadsCharacter read_character cannot_stand
  character-read = decides (ReadsCharacter s m at) (is_next 34 (cursor_at s at)) _ _
      (λ e. rw (after-suc s at (next-within s at 34 (omega arith) e)) (quote-read e))
      (λ no-quote. decides (ReadsCharacter s m at) (is_at_end (cursor_at s at) || is_sign (next_byte (cursor_at s at))) _ _ (λ e. tt)
      (λ e. let no = or-neither (is_at_end (cursor_at s at)) (is_sign (next_byte (cursor_at s at))) e in
      let within = inside s at no.0 in
      rw (after-suc s at within) (plain-read no-quote within (no_sign (cursor_at s at) no.1))))

-- ---- parts, items, rows, alternatives

record Read (s : Line) (k : Kind) (at : ℕ) (p : Pattern) (c : Cursor) : Type 0 where
  end : ℕ
  is : c ≡ cursor_at s end
  stands : NoRange s end → Stands s k at p end
  starts : NoRange s at

unfoldable ReadsAs : Line → Kind → ℕ → Got Pattern → Type 0
ReadsAs s k at (got p c) = Read s k at p c
ReadsAs s k at (refused n i) = Unit {0}

-- what the reader of each kind reads with so much fuel
record ReadsAll (s : Line) (n : ℕ) : Type 0 where
  of_alternatives : (deep at : ℕ) → ReadsAs s Kind.alternatives at (read_alternatives n deep (cursor_at s at))
  of_row : (deep at : ℕ) → ReadsAs s Kind.row at (read_row n deep (cursor_at s at))
  of_item : (deep at : ℕ) → ReadsAs s Kind.item at (read_item n deep (cursor_at s at))
  of_part : (deep at : ℕ) → ReadsAs s Kind.part at (read_part n deep (cursor_at s at))

module _ (s : Line) (at : ℕ) where
  one_byte_lem : (m : Bool) (from : ℕ) (r : Got Pattern) → ReadsCharacter s m from r → ((x : Named) (end : ℕ) → Names s from x end → Stands s Kind.part at (one_byte m x) end)
      → NoRange s at → ReadsAs s Kind.part at r
  unfolding ReadsCharacter ReadsAs
  one_byte_lem m from (got p c) h wrap starts = record {
    end = h.end;
    is = h.is;
    stands = λ k. subst (λ (q : Pattern). Stands s Kind.part at q h.end) (sym h.pattern) (wrap h.named h.end (h.names k));
    starts = starts;
  }
  one_byte_lem m from (refused n i) h wrap starts = tt

  single-read : is_next 40 (cursor_at s at) ≡ false → ReadsAs s Kind.part at (read_single (cursor_at s at))
  unfolding read_single ReadsCharacter ReadsAs
  single-read no-bracket = decides (ReadsAs s Kind.part at) (is_next 126 (cursor_at s at)) _ _
      (λ e. rw (after-suc s at (next-within s at 126 (omega arith) e))
      (one_byte_lem true (suc at) (read_character true (cursor_at s (suc at))) (character-read s true (suc at)) (λ x end names. Stands.mismatch no-bracket e names) (next-other 126 45 (cursor_at s at) e (λ is. omega (arith, is)))))
      (λ e. plain-one (read_character false (cursor_at s at)) (character-read s false at) e)
    where
      plain-one : (r : Got Pattern) → ReadsCharacter s false at r → is_next 126 (cursor_at s at) ≡ false → ReadsAs s Kind.part at r
      plain-one (got p c) h e = one_byte_lem false at (got p c) h (λ x end names. Stands.plain no-bracket e names) h.starts
      plain-one (refused n i) h e = tt

  bracket-read : is_next 40 (cursor_at s at) ≡ true → (r : Got Pattern) → ReadsAs s Kind.alternatives (suc at) r
      → ReadsAs s Kind.part at (elim r [ got p c₁ ↦ close_bracket p c₁ | refused n i ↦ refused n i ])
  unfolding ReadsAs close_bracket cannot_stand
  bracket-read opens (refused n i) h = tt
  bracket-read opens (got p c) h = rw h.is (decides (ReadsAs s Kind.part at) (is_next 41 (cursor_at s h.end) && not (is_blank p)) _ _
      (λ e. let close = ((and-eq-true_iff (is_next 41 (cursor_at s h.end)) (not (is_blank p))).0 e).0 in record {
        end = suc h.end;
        is = after-suc s h.end (next-within s h.end 41 (omega arith) close);
        stands = λ k. Stands.bracket opens (h.stands (next-other 41 45 (cursor_at s h.end) close (λ is. omega (arith, is)))) close;
        starts = next-other 40 45 (cursor_at s at) opens (λ is. omega (arith, is));
      })
      (λ e. tt))

  many_read : is_next 35 (cursor_at s at) ≡ true → (r : Got Pattern) → ReadsAs s Kind.part (suc at) r
      → ReadsAs s Kind.item at (elim r [ got p c₁ ↦ got (Pattern.any_number p) c₁ | refused n i ↦ refused n i ])
  unfolding ReadsAs
  many_read e (refused n i) h = tt
  many_read e (got p c) h = record { end = h.end; is = h.is; stands = λ k. Stands.many e (h.stands k); starts = next-other 35 45 (cursor_at s at) e (λ is. omega (arith, is)) }

  once-read : is_next 35 (cursor_at s at) ≡ false → (r : Got Pattern) → ReadsAs s Kind.part at r → ReadsAs s Kind.item at r
  unfolding ReadsAs
  once-read e (refused n i) h = tt
  once-read e (got p c) h = record { end = h.end; is = h.is; stands = λ k. Stands.once e (h.stands k); starts = h.starts }

  module _ (n deep : ℕ) (below : ReadsAll s n) where
    more-read : ends_row (cursor_at s at) ≡ false → (r : Got Pattern) → ReadsAs s Kind.item at r
        → ReadsAs s Kind.row at
        (elim r [ refused n i ↦ refused n i | got p c₁ ↦ elim (read_row n deep c₁) [ got q c₂ ↦ got (Pattern.in_row p q) c₂ | refused n i ↦ refused n i ] ])
    unfolding ReadsAs
    more-read e (refused n i) h = tt
    more-read e (got p c) h = rw h.is (go (read_row n deep (cursor_at s h.end)) (below.of_row deep h.end))
      where
        go : (r : Got Pattern) → ReadsAs s Kind.row h.end r → ReadsAs s Kind.row at (elim r [ got q c₂ ↦ got (Pattern.in_row p q) c₂ | refused n i ↦ refused n i ])
        go (refused n i) k = tt
        go (got q c) k = record { end = k.end; is = k.is; stands = λ no. Stands.more e (h.stands k.starts) (k.stands no); starts = h.starts }

    -- the alternatives after a row
    abbrev after_row : Pattern → Cursor → Got Pattern
    after_row p c =
        elim (is_next 124 c) [
          | false ↦ got p c
          | true ↦ elim (read_alternatives n deep (after_byte c)) [ got q c₂ ↦ got (Pattern.either_of p q) c₂ | refused n i ↦ refused n i ]
        ]

    either-read : (r : Got Pattern) → ReadsAs s Kind.row at r → ReadsAs s Kind.alternatives at (elim r [ refused n i ↦ refused n i | got p c₁ ↦ after_row p c₁ ])
    unfolding ReadsAs
    either-read (refused n i) h = tt
    either-read (got p c) h = subst (λ (c₁ : Cursor). ReadsAs s Kind.alternatives at (after_row p c₁)) (sym h.is) (go (is_next 124 (cursor_at s h.end)) refl)
      where
        second : is_next 124 (cursor_at s h.end) ≡ true → (r : Got Pattern) → ReadsAs s Kind.alternatives (suc h.end) r
            → ReadsAs s Kind.alternatives at (elim r [ got q c₂ ↦ got (Pattern.either_of p q) c₂ | refused n i ↦ refused n i ])
        second bar (refused n i) k = tt
        second bar (got q c) k = record {
          end = k.end;
          is = k.is;
          stands = λ no. Stands.either (h.stands (next-other 124 45 (cursor_at s h.end) bar (λ is. omega (arith, is)))) bar (k.stands no);
          starts = h.starts;
        }

        go : (t : Bool) → is_next 124 (cursor_at s h.end) ≡ t → ReadsAs s Kind.alternatives at
            (elim t [
              | false ↦ got p (cursor_at s h.end)
              | true ↦ elim (read_alternatives n deep (after_byte (cursor_at s h.end))) [ got q c₂ ↦ got (Pattern.either_of p q) c₂ | refused n i ↦ refused n i ]
            ])
        go false e = record { end = h.end; is = refl; stands = λ no. Stands.last (h.stands no) e; starts = h.starts }
        go true e = rw (after-suc s h.end (next-within s h.end 124 (omega arith) e))
            (second e (read_alternatives n deep (cursor_at s (suc h.end))) (below.of_alternatives deep (suc h.end)))

    row_step : ReadsAs s Kind.row at (read_row (suc n) deep (cursor_at s at))
    unfolding read_row ReadsAs
    row_step = go (ends_row (cursor_at s at)) refl
      where
        go : (t : Bool) → ends_row (cursor_at s at) ≡ t → ReadsAs s Kind.row at
            (elim t [
              | true ↦ got Pattern.empty_row (cursor_at s at)
              | false ↦ elim (read_item n deep (cursor_at s at)) [
                | refused n i ↦ refused n i
                | got p c₁ ↦ elim (read_row n deep c₁) [ got q c₂ ↦ got (Pattern.in_row p q) c₂ | refused n i ↦ refused n i ]
              ]
            ])
        go true e = record { end = at; is = refl; stands = λ no. Stands.ended e; starts = ends_next s at e }
        go false e = more-read e (read_item n deep (cursor_at s at)) (below.of_item deep at)

    item-step : ReadsAs s Kind.item at (read_item (suc n) deep (cursor_at s at))
    unfolding read_item
    item-step = go (is_next 35 (cursor_at s at)) refl
      where
        go : (t : Bool) → is_next 35 (cursor_at s at) ≡ t → ReadsAs s Kind.item at
            (elim t [
              | false ↦ read_part n deep (cursor_at s at)
              | true ↦ elim (read_part n deep (after_byte (cursor_at s at))) [ got p c₁ ↦ got (Pattern.any_number p) c₁ | refused n i ↦ refused n i ]
            ])
        go false e = once-read e (read_part n deep (cursor_at s at)) (below.of_part deep at)
        go true e = rw (after-suc s at (next-within s at 35 (omega arith) e)) (many_read e (read_part n deep (cursor_at s (suc at))) (below.of_part deep (suc at)))

    alternatives-step : ReadsAs s Kind.alternatives at (read_alternatives (suc n) deep (cursor_at s at))
    unfolding read_alternatives
    alternatives-step = either-read (read_row n deep (cursor_at s at)) (below.of_row deep at)

  part_step : (n deep : ℕ) → ReadsAll s n → ReadsAs s Kind.part at (read_part (suc n) deep (cursor_at s at))
  unfolding read_part ReadsAs cannot_stand
  part_step n deep below = go (is_next 40 (cursor_at s at)) refl deep
    where
      go : (t : Bool) → is_next 40 (cursor_at s at) ≡ t → (deep : ℕ) → ReadsAs s Kind.part at
          (elim t [
            | false ↦ read_single (cursor_at s at)
            | true ↦ elim deep [
              | zero ↦ cannot_stand (cursor_at s at)
              | suc deeper ↦ elim (read_alternatives n deeper (after_byte (cursor_at s at))) [ got p c₁ ↦ close_bracket p c₁ | refused n i ↦ refused n i ]
            ]
          ])
      go false e deep = single-read e
      go true e zero = tt
      go true e (suc deeper) = rw (after-suc s at (next-within s at 40 (omega arith) e))
          (bracket-read e (read_alternatives n deeper (cursor_at s (suc at))) (below.of_alternatives deeper (suc at)))

reads_all : (s : Line) (n : ℕ) → ReadsAll s n
unfolding read_alternatives ReadsAs
reads_all s zero = record { of_alternatives = λ deep at. tt; of_row = λ deep at. tt; of_item = λ deep at. tt; of_part = λ deep at. tt }
reads_all s (suc n) =
    let below = reads_all s n in
    record {
      of_alternatives = λ deep at. alternatives-step s at n deep below;
      of_row = λ deep at. row_step s at n deep below;
      of_item = λ deep at. item-step s at n deep below;
      of_part = λ deep at. part_step s at n deep below;
    }

-- ---- the whole string

-- the reader's answer is p, with the cursor c after it
unfoldable Gives : Line → Pattern → Cursor → Got Pattern → Type 0
Gives s p c (got q d) = (q ≡ p) × (d ≡ c)
Gives s p c (refused n i) = ⊥

pub reads-stands : (s : Line) (p : Pattern) → Reads s p → Stands s Kind.alternatives 0 p (length s)
unfolding read_pattern and_then close_pattern ReadsAs Gives cannot_stand place_at
reads-stands s p h = go (read_alternatives (4 * length s + 4) 8 (cursor 0 s)) ((reads_all s (4 * length s + 4)).of_alternatives 8 0)
    (subst (Gives s p (cursor (length s) [])) (sym h) (refl, refl))
  where
    whole : (q : Pattern) (c : Cursor) → Read s Kind.alternatives 0 q c → (q ≡ p) × (c ≡ cursor (length s) []) → Stands s Kind.alternatives 0 p (length s)
    whole q c k (same, ends) =
        let end : k.end ≡ length s = ap place_at (sym k.is ∙ ends) in
        rw (← same, ← end) (k.stands (rw end (end-next s (length s) 45 (omega arith) (at-end s (length s) (omega arith)))))

    closed : (t : Bool) (q : Pattern) (c : Cursor) → Read s Kind.alternatives 0 q c → Gives s p (cursor (length s) []) (cond t (got q c) (cannot_stand c)) → Stands s Kind.alternatives 0 p (length s)
    closed true q c k e = whole q c k e
    closed false q c k e = absurd e

    go : (r : Got Pattern) → ReadsAs s Kind.alternatives 0 r → Gives s p (cursor (length s) []) (and_then r close_pattern) → Stands s Kind.alternatives 0 p (length s)
    go (got q c) k e = closed (is_at_end c && not (is_blank q)) q c k e
    go (refused n i) k e = absurd e

-- a string is one pattern
pub reads_same : (s : Line) (p q : Pattern) → Reads s p → Reads s q → q ≡ p
unfolding Gives
reads_same s p q h k = (subst (Gives s p (cursor (length s) [])) (sym h ∙ k) (refl, refl)).0
