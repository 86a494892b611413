-- What stands in the string, taken apart by the byte that is next. Assumes nothing.
use mathlib.Core.Path.{◌≡◌, refl, sym, ◌∙◌}
use mathlib.Core.Bool.{Bool, true, false, true≢false}
use Prim.Native.Nat.{ℕ, suc, ◌+◌, ◌≤◌, ◌<◌}
use native.Mathlib.Omega.{arith}
use lib.ListN.{length}
use Rattle.definitions.specs.Bytes.{Line}
use Rattle.definitions.specs.WordSet.{Named}
use Rattle.definitions.specs.Reader.{is_next}
use Rattle.definitions.specs.Patterns.{Pattern, one_byte, empty_row, in_row, either_of, any_number, ends_row}
use Rattle.text.specs.Cursors.{cursor_at}
use Rattle.patterns.proofs.Places.{next-within}
use Rattle.marks.specs.Written.{after_mismatch, Names, Kind, Stands}

-- ---- each item and each part takes a byte

unfoldable takes : Kind → ℕ
takes Kind.alternatives = 0
takes Kind.row = 0
takes Kind.item = 1
takes Kind.part = 1

names-forward : {s : Line} {at end : ℕ} {x : Named} → Names s at x end → at < end
names-forward (Names.quoted e within) = omega arith
names-forward (Names.ranged other e within) = omega arith
names-forward (Names.alone other none within) = omega arith

forward : {s : Line} {k : Kind} {at end : ℕ} {p : Pattern} → Stands s k at p end → takes k + at ≤ end
unfolding takes
forward (Stands.last row other) = forward row
forward (Stands.either row bar rest) = omega (arith, forward row, forward rest)
forward (Stands.ended e) = omega arith
forward (Stands.more e item rest) = omega (arith, forward item, forward rest)
forward (Stands.once e part) = forward part
forward (Stands.many e part) = omega (arith, forward part)
forward (Stands.bracket opens inner closes) = omega (arith, forward inner)
forward (Stands.plain no-bracket other names) = omega (arith, names-forward names)
forward (Stands.mismatch no-bracket e names) = omega (arith, names-forward names)

module _ {s : Line} {at end : ℕ} {p : Pattern} where
  pub row-forward : Stands s Kind.row at p end → at ≤ end
  unfolding takes
  row-forward st = omega (arith, forward st)

  pub item-forward : Stands s Kind.item at p end → at < end
  unfolding takes
  item-forward st = omega (arith, forward st)

-- ---- alternatives

-- the first row; it is the last, or another follows
pub data Alternatives (s : Line) (at end : ℕ) (p : Pattern) : Type 0 where
  last : Stands s Kind.row at p end → is_next 124 (cursor_at s end) ≡ false → Alternatives s at end p
  either : (q r : Pattern) (mid : ℕ) → p ≡ either_of q r → Stands s Kind.row at q mid → is_next 124 (cursor_at s mid) ≡ true
      → Stands s Kind.alternatives (suc mid) r end → Alternatives s at end p

pub alternatives-parts : {s : Line} {at end : ℕ} {p : Pattern} → Stands s Kind.alternatives at p end → Alternatives s at end p
alternatives-parts (Stands.last row other) = last row other
alternatives-parts (Stands.either row bar rest) = either _ _ _ refl row bar rest

-- ---- rows

pub record MoreRow (s : Line) (at end : ℕ) (p : Pattern) : Type 0 where
  pub first : Pattern
  pub second : Pattern
  pub mid : ℕ
  pub is : p ≡ in_row first second
  pub item : Stands s Kind.item at first mid
  pub row : Stands s Kind.row mid second end

pub row_more : {s : Line} {at end : ℕ} {p : Pattern} → Stands s Kind.row at p end → ends_row (cursor_at s at) ≡ false → MoreRow s at end p
row_more (Stands.ended e) h = absurd (true≢false (sym e ∙ h))
row_more (Stands.more e item row) h = record { first = _; second = _; mid = _; is = refl; item = item; row = row }

pub row-ended : {s : Line} {at end : ℕ} {p : Pattern} → Stands s Kind.row at p end → ends_row (cursor_at s at) ≡ true → (p ≡ empty_row) × (end ≡ at)
row-ended (Stands.ended e) h = (refl, refl)
row-ended (Stands.more e item row) h = absurd (true≢false (sym h ∙ e))

-- ---- items

pub item-many : {s : Line} {at end : ℕ} {p : Pattern} → Stands s Kind.item at p end → is_next 35 (cursor_at s at) ≡ true
    → (q : Pattern) × (p ≡ any_number q) × Stands s Kind.part (suc at) q end
item-many (Stands.once e part) h = absurd (true≢false (sym h ∙ e))
item-many (Stands.many e part) h = (_, refl, part)

pub item-once : {s : Line} {at end : ℕ} {p : Pattern} → Stands s Kind.item at p end → is_next 35 (cursor_at s at) ≡ false → Stands s Kind.part at p end
item-once (Stands.once e part) h = part
item-once (Stands.many e part) h = absurd (true≢false (sym e ∙ h))

-- ---- parts

pub record Bracket (s : Line) (at end : ℕ) (p : Pattern) : Type 0 where
  pub close : ℕ
  pub is : end ≡ suc close
  pub inner : Stands s Kind.alternatives (suc at) p close
  pub within : close < length s

pub part-bracket : {s : Line} {at end : ℕ} {p : Pattern} → Stands s Kind.part at p end → is_next 40 (cursor_at s at) ≡ true → Bracket s at end p
part-bracket {s} (Stands.bracket {end = close} e inner closes) h = record { close = close; is = refl; inner = inner; within = next-within s close 41 (omega arith) closes }
part-bracket (Stands.plain no-bracket other names) h = absurd (true≢false (sym h ∙ no-bracket))
part-bracket (Stands.mismatch no-bracket e names) h = absurd (true≢false (sym h ∙ no-bracket))

pub record Single (s : Line) (at end : ℕ) (p : Pattern) (m : Bool) : Type 0 where
  pub named : Named
  pub is : p ≡ one_byte m named
  pub names : Names s (after_mismatch m at) named end

pub part-single : {s : Line} {at end : ℕ} {p : Pattern} → Stands s Kind.part at p end → is_next 40 (cursor_at s at) ≡ false
    → Single s at end p (is_next 126 (cursor_at s at))
unfolding after_mismatch
part-single (Stands.bracket e inner closes) h = absurd (true≢false (sym e ∙ h))
part-single (Stands.plain no-bracket other names) h = rw other (record { named = _; is = refl; names = names })
part-single (Stands.mismatch no-bracket e names) h = rw e (record { named = _; is = refl; names = names })
