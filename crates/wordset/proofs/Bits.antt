-- The bits of words: of one that is all zeros, of a power of two, of two words joined. Assumes nothing.
use mathlib.Core.Path.{◌≡◌, refl, sym, ap, ◌∙◌}
use mathlib.Core.Bool.{false, ◌||◌}
use Prim.Native.Nat.{ℕ, zero, suc, ◌*◌, ◌/◌, ◌%◌, ◌^◌, ◌<◌}
use native.Mathlib.Nat.{pow-suc, mul-div_cancel, mul-mod_left, mod-lt, div-one, zero-div, one-mul}
use native.Mathlib.Numerals.{one-add}
use native.Mathlib.Omega.{arith}
use lib.Bits.{bit_or, or_shr, or_mod}
use lib.Pow.{shr-shr, shl_exact}
use lib.Dec.{eqb, eqb-zero-suc, eqb-suc-zero, eqb-suc-suc}
use Rattle.wordset.specs.Sets.{has_bit}

-- ---- where a bit stands

-- the bit after k is the bit k of the half
half : (n k : ℕ) → n / 2 ^ suc k ≡ n / 2 / 2 ^ k
half n k = ap (λ (j : ℕ). n / 2 ^ j) (sym (one-add k)) ∙ sym (shr-shr n 1 k)

bit-half : (n k : ℕ) → has_bit n (suc k) ≡ has_bit (n / 2) k
unfolding has_bit
bit-half n k = ap (λ (x : ℕ). eqb (x % 2) 1) (half n k)

pub no-bit : (k : ℕ) → has_bit 0 k ≡ false
unfolding has_bit
no-bit k = ap (λ (x : ℕ). eqb (x % 2) 1) (zero-div (2 ^ k))

-- a power of two has its own bit
pub own-bit : (j k : ℕ) → has_bit (2 ^ j) k ≡ eqb j k
unfolding has_bit
own-bit zero zero = refl
own-bit zero (suc k) = bit-half 1 k ∙ no-bit k ∙ sym (eqb-zero-suc k)
own-bit (suc j) zero =
    ap (λ (x : ℕ). eqb (x / 1 % 2) 1) (pow-suc 2 j) ∙ ap (λ (x : ℕ). eqb (x % 2) 1) (div-one (2 ^ j * 2))
    ∙ ap (λ (x : ℕ). eqb x 1) (mul-mod_left (2 ^ j) 2) ∙ sym (eqb-suc-zero j)
own-bit (suc j) (suc k) =
    bit-half (2 ^ suc j) k ∙ ap (λ (x : ℕ). has_bit (x / 2) k) (pow-suc 2 j) ∙ ap (λ (x : ℕ). has_bit x k) (mul-div_cancel (2 ^ j) (omega arith))
    ∙ own-bit j k ∙ sym (eqb-suc-suc j k)

-- ---- two words joined

digit_or : (x y : ℕ) → x < 2 → y < 2 → eqb (bit_or x y) 1 ≡ (eqb x 1 || eqb y 1)
digit_or zero y h k = refl
digit_or (suc zero) zero h k = refl
digit_or (suc zero) (suc zero) h k = refl
digit_or (suc zero) (suc (suc y)) h k = absurd (omega arith)
digit_or (suc (suc x)) y h k = absurd (omega arith)

pub or-bit : (a b k : ℕ) → has_bit (bit_or a b) k ≡ (has_bit a k || has_bit b k)
unfolding has_bit
or-bit a b k =
    ap (λ (x : ℕ). eqb (x % 2) 1) (or_shr a b k)
    ∙ ap (λ (x : ℕ). eqb x 1) (or_mod (a / 2 ^ k) (b / 2 ^ k) 1)
    ∙ digit_or (a / 2 ^ k % 2) (b / 2 ^ k % 2) (mod-lt (a / 2 ^ k) (omega arith)) (mod-lt (b / 2 ^ k) (omega arith))

-- ---- 1, shifted

pub shifted : (j : ℕ) → j < 32 → 1 * 2 ^ j % 2 ^ 32 ≡ 2 ^ j
shifted j h = shl_exact {a = 1} 1 j 32 (omega arith) (omega arith) ∙ one-mul (2 ^ j)
