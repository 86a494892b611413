-- The cursor at a place of the string: is a byte left, which one, does a row end there. Assumes nothing.
use mathlib.Core.Path.{◌≡◌}
use mathlib.Core.Bool.{true, false, ◌||◌}
use mathlib.Core.List.{List}
use Prim.Native.Nat.{ℕ, ◌≤◌, ◌<◌}
use native.Mathlib.Omega.{arith}
use lib.ListN.{length, drop, get_or, length-drop, drop_of_length-le}
use lib.Dec.{eqb}
use borrow.Author.Tests.{ne_eqb, eqb-true}
use Rattle.definitions.specs.Reader.{bytes_left, next_byte, is_next}
use Rattle.definitions.specs.Patterns.{is_at_end, ends_row}
use Rattle.text.specs.Cursors.{cursor_at}
use Rattle.text.proofs.Cursors.{next-in, next-end, next-inside}

-- ---- at the end

module _ (s : List ℕ) (i : ℕ) (h : length s ≤ i) where
  pub at-end : is_at_end (cursor_at s i) ≡ true
  unfolding is_at_end bytes_left
  at-end = rw (drop_of_length-le s {i = i} h)

  pub row_ends : ends_row (cursor_at s i) ≡ true
  unfolding ends_row
  row_ends = rw at-end

  pub none-next : (b : ℕ) → 0 < b → is_next b (cursor_at s i) ≡ false
  unfolding is_next
  none-next b pos = rw (next-end s i h) (ne_eqb b 0 (λ e. omega (arith, e)))

-- ---- before the end

module _ (s : List ℕ) (i : ℕ) (h : i < length s) where
  pub not_end : is_at_end (cursor_at s i) ≡ false
  unfolding is_at_end bytes_left
  not_end = ne_eqb (length (drop i s)) 0 (λ e. omega (arith, e, length-drop i s))

  pub is-next : (b : ℕ) → is_next b (cursor_at s i) ≡ eqb b (get_or s i 0)
  unfolding is_next
  is-next b = rw (next-in s i h)

  pub row-ends-by : ends_row (cursor_at s i) ≡ (eqb 124 (get_or s i 0) || eqb 41 (get_or s i 0))
  unfolding ends_row
  row-ends-by = rw (not_end, is-next 124, is-next 41)

-- ---- a byte that is not 0 is before the end

pub next-within : (s : List ℕ) (i b : ℕ) → 0 < b → is_next b (cursor_at s i) ≡ true → i < length s
unfolding is_next
next-within s i b pos e = next-inside s i (omega (arith, eqb-true b (next_byte (cursor_at s i)) e))
