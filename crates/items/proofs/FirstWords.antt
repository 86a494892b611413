-- What a first word says. Assumes nothing.
use mathlib.Core.Path.{◌≡◌}
use Prim.Native.Nat.{ℕ, ◌+◌, ◌*◌, ◌/◌, ◌%◌, ◌<◌}
use native.Mathlib.Omega.{arith}
use Rattle.items.specs.Words.{head_with}

-- two numbers in one: a number above another does not touch it
pub below : (x place n : ℕ) → place < 32768 → x ≡ place + 32768 * n → x % 32768 ≡ place
below x place n small h = omega (arith, h, small)

pub above : (x place n : ℕ) → place < 32768 → x ≡ place + 32768 * n → x / 32768 ≡ n
above x place n small h = omega (arith, h, small)

module _ (x kind place n : ℕ) (small : kind < 256) (is : x ≡ head_with kind place n) where
  pub head-kind : x % 256 ≡ kind
  head-kind = omega (arith, is, small)

  rest : x / 256 ≡ place + 32768 * n
  rest = omega (arith, is, small)

  pub head-place : place < 32768 → x / 256 % 32768 ≡ place
  head-place few = below (x / 256) place n few rest

  pub head-number : place < 32768 → x / 8388608 ≡ n
  head-number few = omega (arith, is, small, few)
