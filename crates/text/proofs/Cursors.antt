-- The cursor at a place among bytes: the next byte, and what is after it. Assumes nothing.
use Rattle.std.proofs.Common.{◌≡◌, ℕ, zero, suc, ◌+◌, ◌<◌, ◌≤◌, true, false, List, [], ◌∷◌, length, get_or, sym, refl, not-suc-le-zero, add-one, arith, drop_of_length-le, drop-cons, eq-eqb, ne_eqb}
use Rattle.definitions.specs.Reader.{Cursor, next_byte, after_byte, is_next}
use Rattle.text.specs.Cursors.{cursor_at}

-- ---- the next byte, tested

pub is-next : (b : ℕ) (c : Cursor) → next_byte c ≡ b → is_next b c ≡ true
unfolding is_next
is-next b c e = eq-eqb b (next_byte c) (sym e)

pub not-next : (b : ℕ) (c : Cursor) → (next_byte c ≡ b → ⊥) → is_next b c ≡ false
unfolding is_next
not-next b c e = ne_eqb b (next_byte c) (λ h. e (sym h))

module _ (s : List ℕ) (i : ℕ) where
  pub next-in : i < length s → next_byte (cursor_at s i) ≡ get_or s i 0
  unfolding next_byte
  next-in h = rw (drop-cons s i 0 h)

  pub next-end : length s ≤ i → next_byte (cursor_at s i) ≡ 0
  unfolding next_byte
  next-end h = rw (drop_of_length-le s {i = i} h)

  pub after-in : i < length s → after_byte (cursor_at s i) ≡ cursor_at s (i + 1)
  unfolding after_byte
  after-in h = rw (add-one i, drop-cons s i 0 h)

  pub after-end : length s ≤ i → after_byte (cursor_at s i) ≡ cursor_at s i
  unfolding after_byte
  after-end h = rw (drop_of_length-le s {i = i} h)

pub next-at : (s : List ℕ) (i : ℕ) → next_byte (cursor_at s i) ≡ get_or s i 0
unfolding next_byte
next-at [] zero = refl
next-at [] (suc i) = refl
next-at (b ∷ s) zero = refl
next-at (b ∷ s) (suc i) = next-at s i

-- a byte that is not 0 is before the end
pub next-inside : (s : List ℕ) (i : ℕ) → 0 < next_byte (cursor_at s i) → i < length s
unfolding next_byte
next-inside [] zero h = absurd (not-suc-le-zero h)
next-inside [] (suc i) h = absurd (not-suc-le-zero h)
next-inside (b ∷ s) zero h = omega arith
next-inside (b ∷ s) (suc i) h = omega (arith, next-inside s i h)

pub after_next : (s : List ℕ) (i : ℕ) → 0 < next_byte (cursor_at s i) → after_byte (cursor_at s i) ≡ cursor_at s (i + 1)
after_next s i h = after-in s i (next-inside s i h)
