-- Kinds of bytes. Assumes nothing.
use mathlib.Core.Path.{◌≡◌, refl}
use mathlib.Core.Bool.{Bool, true, false, cond, ◌&&◌}
use mathlib.Core.Logic.{◌⊎◌, inl, inr}
use Prim.Native.Nat.{ℕ, ◌-◌, ◌≤◌, ◌<◌}
use native.Mathlib.Omega.{arith}
use lib.Dec.{leb}
use borrow.Author.Tests.{le-leb, lt-leb, leb-true, ne_eqb}
use Rattle.definitions.specs.Bytes.{is_digit, is_small, upper}
use Rattle.definitions.specs.Reader.{is_delimiter}

module _ (b : ℕ) where
  pub is-digit-from : is_digit b ≡ true → 48 ≤ b
  unfolding is_digit
  is-digit-from e = leb-true 48 b (first (leb 48 b) (leb b 57) e)
    where
      first : (t u : Bool) → (t && u) ≡ true → t ≡ true
      first true u e = refl
      first false u e = e

  pub upper-below : b < 256 → upper b < 256
  unfolding upper
  upper-below h = go (is_small b)
    where
      go : (t : Bool) → cond t (b - 32) b < 256
      go true = omega arith
      go false = h

  pub delimiter-single : (b ≡ 33) ⊎ ((b ≡ 39) ⊎ ((b ≡ 58) ⊎ (b ≡ 63))) → is_delimiter b ≡ true
  unfolding is_delimiter
  delimiter-single (inl e) = rw e
  delimiter-single (inr (inl e)) = rw e
  delimiter-single (inr (inr (inl e))) = rw e
  delimiter-single (inr (inr (inr e))) = rw e

  pub delimiter-range : 42 ≤ b → b < 48 → is_delimiter b ≡ true
  unfolding is_delimiter
  delimiter-range h k = rw (ne_eqb b 33 (omega arith), ne_eqb b 39 (omega arith), le-leb 42 b h, le-leb b 47 (omega arith))

  module _ (none : (b ≡ 33) ⊎ ((b ≡ 39) ⊎ ((b ≡ 58) ⊎ (b ≡ 63))) → ⊥) where
    pub delimiter-low : b < 42 → is_delimiter b ≡ false
    unfolding is_delimiter
    delimiter-low h = rw (
      ne_eqb b 33 (λ e. none (inl e)),
      ne_eqb b 39 (λ e. none (inr (inl e))),
      lt-leb 42 b h,
      ne_eqb b 58 (omega arith),
      ne_eqb b 63 (omega arith),
    )

    pub delimiter-high : 48 ≤ b → is_delimiter b ≡ false
    unfolding is_delimiter
    delimiter-high h = rw (
      ne_eqb b 33 (omega arith),
      ne_eqb b 39 (omega arith),
      le-leb 42 b (omega arith),
      lt-leb b 47 (omega arith),
      ne_eqb b 58 (λ e. none (inr (inr (inl e)))),
      ne_eqb b 63 (λ e. none (inr (inr (inr e)))),
    )
