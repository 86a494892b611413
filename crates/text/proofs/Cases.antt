-- Laws of bytes in upper case, by what is taken off: 32 where a byte is small, 0 where it is not. Assumes nothing.
use Rattle.std.proofs.Common.{◌≡◌, ℕ, ◌-◌, ◌*◌, ◌<◌, ◌≤◌, Bool, true, false, cond, ◌&&◌, leb, refl, arith, leb-true}
use mir.Val.{bool_byte}
use Rattle.definitions.specs.Bytes.{is_small, upper}

-- what is taken off a byte that is small (t), or not
abbrev taken : Bool → ℕ
taken t = 32 * bool_byte t

taken-most : (t : Bool) → taken t ≤ 32
taken-most true = omega arith
taken-most false = omega arith

pub taken-fits : (t : Bool) → taken t < 256
taken-fits t = omega (arith, taken-most t)

-- no more than there is, where the bytes in question begin at 32 or above
pub taken-within : (m b : ℕ) (u : Bool) → 32 ≤ m → taken (leb m b && u) ≤ b
taken-within m b u h = go (leb m b) refl
  where
    go : (t : Bool) → leb m b ≡ t → taken (t && u) ≤ b
    go true e = omega (arith, taken-most u, leb-true m b e)
    go false e = omega arith

-- for every byte: the difference is the definition's upper case
pub upper-taken : (b : ℕ) → b - taken (is_small b) ≡ upper b
unfolding upper
upper-taken b = go (is_small b)
  where
    go : (t : Bool) → b - taken t ≡ cond t (b - 32) b
    go true = refl
    go false = omega arith
