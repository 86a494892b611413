-- Bytes in upper and lower case. Assumes nothing.
use mathlib.Core.Path.{◌≡◌}
use mathlib.Core.Bool.{Bool, true, false}
use Prim.Native.Nat.{ℕ, ◌+◌, ◌≤◌, ◌<◌}
use native.Mathlib.Omega.{arith}
use mathlib.Core.List.{[], ◌∷◌}
use lib.ListN.{length, get_or}
use borrow.Author.Tests.{le-leb, lt-leb}
use Rattle.definitions.specs.Bytes.{Line, all_text, is_capital, upper, lower}
use Rattle.definitions.specs.Edit.{cased}
use Rattle.theorems.specs.GoodLines.{cased-byte}

-- by the bounds
pub lower-low : (b : ℕ) → b < 65 → lower b ≡ b
unfolding lower is_capital
lower-low b h = rw (lt-leb 65 b h)

pub lower_high : (b : ℕ) → 90 < b → lower b ≡ b
unfolding lower is_capital
lower_high b h =
    let low : 65 ≤ b = omega arith in
    rw (le-leb 65 b low, lt-leb b 90 h)

pub lower-capital : (b : ℕ) → 65 ≤ b → b ≤ 90 → lower b ≡ b + 32
unfolding lower is_capital
lower-capital b h k = rw (le-leb 65 b h, le-leb b 90 k)

-- by the case that is asked for
pub case-upper : (up : Bool) (b x : ℕ) → up ≡ true → x ≡ upper b → x ≡ cased up b
unfolding cased
case-upper up b x e q = rw e q

pub case-lower : (up : Bool) (b x : ℕ) → up ≡ false → x ≡ lower b → x ≡ cased up b
unfolding cased
case-lower up b x e q = rw e q

-- a byte of a line of text, in the other case
pub cased-one : (up : Bool) (l : Line) (i b x : ℕ) → all_text l ≡ true → i < length l → b ≡ get_or l i 0 → x ≡ cased up b → all_text (x ∷ []) ≡ true
cased-one up l i b x h k q e = rw (e, q) (cased-byte up l i k h)
