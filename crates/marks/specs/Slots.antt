-- A pattern has no more marks than its string has bytes: each character, range or mismatch takes a byte at least, and so does each `#`.
use Rattle.std.specs.Prelude.{◌≡◌, Bool, cond, ◌&&◌, ◌||◌, [], ◌∷◌, ℕ, zero, suc, ◌+◌, ◌*◌, ◌≤◌, ◌<◌, length, eqb}
use Rattle.std.proofs.Math.Path.{refl}
use Rattle.std.proofs.Common.{subst, arith, eqb-true}
use Rattle.std.proofs.Math.Bool.{true, false, not}
use Rattle.definitions.specs.Bytes.{Line, is_digit, is_letter}
use Rattle.definitions.specs.WordSet.{is_range}
use Rattle.definitions.specs.Reader.{Cursor, cursor, Got, got, refused, and_then, bytes_left, next_byte, after_byte, is_next}
use Rattle.definitions.specs.Patterns.{Pattern, empty_row, in_row, either_of, any_number, is_sign, is_at_end, cannot_stand, range_end, after_plain, after_quote, read_character, read_single, ends_row, is_blank, close_bracket, close_pattern, read_alternatives, read_row, read_item, read_part, read_pattern}
use Rattle.marks.specs.Sweeping.{Reads, slots}

-- what was read of n bytes has no more marks than the bytes it took
data Short (n : ℕ) : Got Pattern → Type 0 where
  took : {p : Pattern} {c : Cursor} → slots p + bytes_left c ≤ n → Short n (got p c)
  refuses : {k at : ℕ} → Short n (refused k at)

-- a pattern that was read goes on, a refusal is passed upward
then-short : {m n : ℕ} (g : Got Pattern) (f : Pattern → Cursor → Got Pattern) → Short m g
    → ((p : Pattern) (c : Cursor) → slots p + bytes_left c ≤ m → Short n (f p c))
    → Short n (elim g [ got p c ↦ f p c | refused k at ↦ refused k at ])
then-short (got p c) f (took h) k = k p c h
then-short (refused x at) f refuses k = refuses

shorter : {m n : ℕ} (g : Got Pattern) → m ≤ n → Short m g → Short n g
shorter (got p c) l (took h) = took {p = p} {c = c} (omega (arith, l, h))
shorter (refused k at) l refuses = refuses

cond_short : {n : ℕ} (t : Bool) {g h : Got Pattern} → Short n g → Short n h → Short n (cond t g h)
cond_short true i j = i
cond_short false i j = j

after-short : (c : Cursor) → bytes_left (after_byte c) ≤ bytes_left c
unfolding bytes_left after_byte
after-short (cursor at []) = omega arith
after-short (cursor at (b ∷ bs)) = omega arith

-- a byte that stands next is there to be taken; 0 stands for none
next-short : (b : ℕ) (c : Cursor) → 0 < b → is_next b c ≡ true → bytes_left (after_byte c) < bytes_left c
unfolding bytes_left after_byte is_next next_byte
next-short b (cursor at []) l e = omega (arith, eqb-true b 0 e)
next-short b (cursor at (x ∷ bs)) l e = omega arith

-- ---- one character, after its first byte

range-short : (mismatch : Bool) (a : ℕ) (c : Cursor) → Short (suc (bytes_left c)) (range_end mismatch a c)
unfolding range_end cannot_stand slots
range-short mismatch a c = cond_short (is_range a (next_byte c)) (took (omega (arith, after-short c))) refuses

plain-short : (mismatch : Bool) (a : ℕ) (c : Cursor) → Short (suc (bytes_left c)) (after_plain mismatch a c)
unfolding after_plain slots
plain-short mismatch a c =
    cond_short (is_next 45 c && (is_digit a || is_letter a))
    (shorter (range_end mismatch a (after_byte c)) (omega (arith, after-short c)) (range-short mismatch a (after_byte c)))
    (took (omega arith))

quote-short : (mismatch : Bool) (c : Cursor) → Short (suc (bytes_left c)) (after_quote mismatch c)
unfolding after_quote cannot_stand slots
quote-short mismatch c = cond_short (is_at_end c) refuses (took (omega (arith, after-short c)))

character-short : (mismatch : Bool) (c : Cursor) → Short (bytes_left c) (read_character mismatch c)
unfolding read_character is_next is_at_end cannot_stand next_byte after_byte bytes_left
character-short mismatch (cursor at []) = refuses
character-short mismatch (cursor at (b ∷ bs)) =
    cond_short (eqb 34 b) (quote-short mismatch (cursor (suc at) bs))
    (cond_short (eqb (suc (length bs)) 0 || is_sign b) refuses (plain-short mismatch b (cursor (suc at) bs)))

single-short : (c : Cursor) → Short (bytes_left c) (read_single c)
unfolding read_single
single-short c =
    cond_short (is_next 126 c) (shorter (read_character true (after_byte c)) (after-short c) (character-short true (after_byte c)))
    (character-short false c)

-- ---- alternatives, rows, items, parts: by how deep they call each other

abbrev AllShort : (ℕ → ℕ → Cursor → Got Pattern) → ℕ → Type 0
AllShort read fuel = (deep : ℕ) (c : Cursor) → Short (bytes_left c) (read fuel deep c)

module _ (fuel deep : ℕ) (c : Cursor) where
  alternatives-short : AllShort read_row fuel → AllShort read_alternatives fuel → Short (bytes_left c) (read_alternatives (suc fuel) deep c)
  unfolding read_alternatives slots
  alternatives-short rows others = then-short (read_row fuel deep c) _ (rows deep c) (λ p c₁ h. bar (is_next 124 c₁) p c₁ h)
    where
      bar : (t : Bool) (p : Pattern) (c₁ : Cursor) → slots p + bytes_left c₁ ≤ bytes_left c → Short (bytes_left c) (elim t [
        | false ↦ got p c₁
        | true ↦ elim (read_alternatives fuel deep (after_byte c₁)) [ got q c₂ ↦ got (either_of p q) c₂ | refused n at ↦ refused n at ]
      ])
      bar false p c₁ h = took h
      bar true p c₁ h =
          then-short (read_alternatives fuel deep (after_byte c₁)) (λ q c₂. got (either_of p q) c₂) (others deep (after_byte c₁))
          (λ q c₂ k. took {c = c₂} (omega (arith, after-short c₁, h, k)))

  row-short : AllShort read_item fuel → AllShort read_row fuel → Short (bytes_left c) (read_row (suc fuel) deep c)
  unfolding read_alternatives slots
  row-short items others = go (ends_row c)
    where
      go : (t : Bool) → Short (bytes_left c) (elim t [
        | true ↦ got empty_row c
        | false ↦ elim (read_item fuel deep c) [
          | refused n at ↦ refused n at
          | got p c₁ ↦ elim (read_row fuel deep c₁) [ got q c₂ ↦ got (in_row p q) c₂ | refused n at ↦ refused n at ]
        ]
      ])
      go true = took {p = empty_row} {c = c} (omega arith)
      go false =
          then-short (read_item fuel deep c) _ (items deep c)
          (λ p c₁ h. then-short (read_row fuel deep c₁) (λ q c₂. got (in_row p q) c₂) (others deep c₁) (λ q c₂ k. took {c = c₂} (omega (arith, h, k))))

  item-short : AllShort read_part fuel → Short (bytes_left c) (read_item (suc fuel) deep c)
  unfolding read_alternatives slots
  item-short parts = go (is_next 35 c) refl
    where
      go : (t : Bool) → is_next 35 c ≡ t → Short (bytes_left c) (elim t [
        | false ↦ read_part fuel deep c
        | true ↦ elim (read_part fuel deep (after_byte c)) [ got p c₁ ↦ got (any_number p) c₁ | refused n at ↦ refused n at ]
      ])
      go true e =
          then-short (read_part fuel deep (after_byte c)) (λ p c₁. got (any_number p) c₁) (parts deep (after_byte c))
          (λ p c₁ k. took {c = c₁} (omega (arith, next-short 35 c (omega arith) e, k)))
      go false e = parts deep c

  part-short : AllShort read_alternatives fuel → Short (bytes_left c) (read_part (suc fuel) deep c)
  unfolding read_alternatives slots close_bracket cannot_stand
  part-short alternatives = go (is_next 40 c) deep
    where
      close : (p : Pattern) (c₁ : Cursor) → slots p + bytes_left c₁ ≤ bytes_left (after_byte c) → Short (bytes_left c) (close_bracket p c₁)
      close p c₁ h = cond_short (is_next 41 c₁ && not (is_blank p)) (took {p = p} (omega (arith, after-short c, after-short c₁, h))) refuses

      go : (t : Bool) (d : ℕ) → Short (bytes_left c) (elim t [
        | false ↦ read_single c
        | true ↦ elim d [
          | zero ↦ cannot_stand c
          | suc deeper ↦ elim (read_alternatives fuel deeper (after_byte c)) [ got p c₁ ↦ close_bracket p c₁ | refused n at ↦ refused n at ]
        ]
      ])
      go false d = single-short c
      go true zero = refuses
      go true (suc deeper) = then-short (read_alternatives fuel deeper (after_byte c)) close_bracket (alternatives deeper (after_byte c)) close

record Shorts (fuel : ℕ) : Type 0 where
  alternatives : AllShort read_alternatives fuel
  row : AllShort read_row fuel
  item : AllShort read_item fuel
  part : AllShort read_part fuel

shorts : (fuel : ℕ) → Shorts fuel
unfolding read_alternatives
shorts zero = record { alternatives = λ deep c. refuses; row = λ deep c. refuses; item = λ deep c. refuses; part = λ deep c. refuses }
shorts (suc fuel) =
    let r : Shorts fuel = shorts fuel in
    record {
      alternatives = λ deep c. alternatives-short fuel deep c r.row r.alternatives;
      row = λ deep c. row-short fuel deep c r.item r.row;
      item = λ deep c. item-short fuel deep c r.part;
      part = λ deep c. part-short fuel deep c r.alternatives;
    }

pub slots-short : (s : Line) (p : Pattern) → Reads s p → slots p ≤ length s
unfolding read_pattern bytes_left and_then close_pattern cannot_stand
slots-short s p h = bound (subst (Short (length s)) h whole)
  where
    close : (g : Got Pattern) → Short (length s) g → Short (length s) (and_then g close_pattern)
    close (got q c) (took k) = cond_short (is_at_end c && not (is_blank q)) (took {c = c} k) refuses
    close (refused k at) refuses = refuses

    whole : Short (length s) (read_pattern 0 s)
    whole = close (read_alternatives (4 * length s + 4) 8 (cursor 0 s)) ((shorts (4 * length s + 4)).alternatives 8 (cursor 0 s))

    bound : Short (length s) (got p (cursor (length s) [])) → slots p ≤ length s
    bound (took k) = omega (arith, k)
