-- Laws of hexadecimal digits, and of what is written over the start of a buffer. Assumes nothing.
use mathlib.Core.Path.{◌≡◌, refl, sym, ap, ◌∙◌}
use mathlib.Core.List.{List, [], ◌∷◌, ◌++◌}
use Prim.Native.Nat.{ℕ, zero, suc, ◌+◌, ◌-◌, ◌*◌, ◌/◌, ◌%◌, ◌<◌, min}
use native.Mathlib.Nat.{not-suc-le-zero, le_of_suc-le-suc}
use native.Mathlib.Numerals.{add-one}
use native.Mathlib.Omega.{arith}
use lib.ListN.{length, take, drop, get_or, set, length-take}
use lib.Seq.{take-nil}
use Rattle.text.specs.Buffer.{laid}
use Rattle.text.proofs.Buffer.{laid_none, laid-zero}
use Rattle.cases.specs.Hex.{digit_of, hex_digit, from_hex, to_hex, bytes_for, digits_for}

-- ---- the first n of `out` written over the start of a buffer

abbrev pub over : List ℕ → List ℕ → ℕ → List ℕ
over d out n = take n out ++ drop n d

over-suc : (d out : List ℕ) (n : ℕ) → n < length d → n < length out → set (over d out n) n (get_or out n 0) ≡ over d out (suc n)
over-suc [] out n h k = absurd (not-suc-le-zero h)
over-suc (x ∷ d) [] n h k = absurd (not-suc-le-zero k)
over-suc (x ∷ d) (y ∷ out) zero h k = refl
over-suc (x ∷ d) (y ∷ out) (suc n) h k = ap (λ (l : List ℕ). y ∷ l) (over-suc d out n (le_of_suc-le-suc h) (le_of_suc-le-suc k))

over-more : (d out : List ℕ) (n v : ℕ) → n < length d → n < length out → v ≡ get_or out n 0 → set (over d out n) n v ≡ over d out (n + 1)
over-more d out n v h k e = rw (e, add-one n) (over-suc d out n h k)

take-most : (m : ℕ) (s : List ℕ) (i : ℕ) → i ≡ min (length s) m → take m s ≡ take i s
take-most zero s i e =
    let z : i ≡ 0 = omega arith in
    rw z
take-most (suc m) [] i e =
    let z : i ≡ 0 = omega arith in
    rw z
take-most (suc m) (b ∷ s) i e =
    let z : i ≡ suc (i - 1) = omega arith in
    rw z (ap (λ (l : List ℕ). b ∷ l) (take-most m s (i - 1) (omega arith)))

over_done : (d out : List ℕ) (n : ℕ) → n ≡ length (take n out) → over d out n ≡ laid d 0 (take n out)
over_done d out n e = ap (λ (k : ℕ). take n out ++ drop k d) e ∙ sym (laid-zero d (take n out))

-- ---- bytes of digits

from-length : (s : List ℕ) → length (from_hex s) ≡ length s / 2
unfolding from_hex
from-length [] = refl
from-length (a ∷ []) = refl
from-length (a ∷ b ∷ s) = omega (arith, from-length s)

from_at : (s : List ℕ) (n : ℕ) → n < length s / 2 → 16 * digit_of (get_or s (2 * n) 0) + digit_of (get_or s (2 * n + 1) 0) ≡ get_or (from_hex s) n 0
unfolding from_hex
from_at [] n h = absurd (omega arith)
from_at (a ∷ []) n h = absurd (omega arith)
from_at (a ∷ b ∷ s) zero h = refl
from_at (a ∷ b ∷ s) (suc n) h =
    let two : 2 * suc n ≡ suc (suc (2 * n)) = omega arith in
    let more : suc (suc (2 * n)) + 1 ≡ suc (suc (2 * n + 1)) = omega arith in
    rw (two, more) (from_at s n (omega arith))

-- one byte more is written
pub from-turn : (d s out : List ℕ) (n a b : ℕ) → out ≡ over d (from_hex s) n → n < length d → n < length s / 2 → a ≡ digit_of (get_or s (2 * n) 0)
    → b ≡ digit_of (get_or s (2 * n + 1) 0) → set out n (16 * a + b) ≡ over d (from_hex s) (n + 1)
from-turn d s out n a b e h k p q = rw (e, p, q) (over-more d (from_hex s) n _ h (omega (arith, from-length s)) (from_at s n k))

module _ (d s : List ℕ) (n : ℕ) (all : n ≡ min (length s / 2) (length d)) where
  enough : take (length d) (from_hex s) ≡ take n (from_hex s)
  enough = take-most (length d) (from_hex s) n (omega (arith, from-length s))

  pub bytes-length : n ≡ length (bytes_for (length d) s)
  unfolding bytes_for
  bytes-length = rw enough (simp length-take (omega (arith, from-length s)))

  pub bytes-done : over d (from_hex s) n ≡ laid d 0 (bytes_for (length d) s)
  unfolding bytes_for
  bytes-done = rw enough (over_done d (from_hex s) n (simp length-take (omega (arith, from-length s))))

-- ---- digits of bytes

to-length : (s : List ℕ) → length (to_hex s) ≡ 2 * length s
unfolding to_hex
to-length [] = refl
to-length (b ∷ s) = omega (arith, to-length s)

to-first : (s : List ℕ) (i : ℕ) → i < length s → hex_digit (get_or s i 0 / 16) ≡ get_or (to_hex s) (2 * i) 0
unfolding to_hex
to-first [] i h = absurd (not-suc-le-zero h)
to-first (b ∷ s) zero h = refl
to-first (b ∷ s) (suc i) h =
    let two : 2 * suc i ≡ suc (suc (2 * i)) = omega arith in
    rw two (to-first s i (le_of_suc-le-suc h))

to-second : (s : List ℕ) (i : ℕ) → i < length s → hex_digit (get_or s i 0 % 16) ≡ get_or (to_hex s) (2 * i + 1) 0
unfolding to_hex
to-second [] i h = absurd (not-suc-le-zero h)
to-second (b ∷ s) zero h = refl
to-second (b ∷ s) (suc i) h =
    let two : 2 * suc i + 1 ≡ suc (suc (2 * i + 1)) = omega arith in
    rw two (to-second s i (le_of_suc-le-suc h))

-- two digits more are written
pub to-turn : (d s out : List ℕ) (i a b : ℕ) → out ≡ over d (to_hex s) (2 * i) → i < length d / 2 → i < length s → a ≡ hex_digit (get_or s i 0 / 16)
    → b ≡ hex_digit (get_or s i 0 % 16) → set (set out (2 * i) a) (2 * i + 1) b ≡ over d (to_hex s) (2 * (i + 1))
to-turn d s out i a b e h k p q =
    let two : 2 * (i + 1) ≡ 2 * i + 1 + 1 = omega arith in
    let one : set (over d (to_hex s) (2 * i)) (2 * i) (hex_digit (get_or s i 0 / 16)) ≡ over d (to_hex s) (2 * i + 1)
    = over-more d (to_hex s) (2 * i) _ (omega arith) (omega (arith, to-length s)) (to-first s i k)
    in
    rw (e, p, q, one, two) (over-more d (to_hex s) (2 * i + 1) _ (omega arith) (omega (arith, to-length s)) (to-second s i k))

take-to : (i : ℕ) (s : List ℕ) → take (2 * i) (to_hex s) ≡ to_hex (take i s)
unfolding to_hex
take-to zero s = refl
take-to (suc i) [] =
    let two : 2 * suc i ≡ suc (suc (2 * i)) = omega arith in
    rw two
take-to (suc i) (b ∷ s) =
    let two : 2 * suc i ≡ suc (suc (2 * i)) = omega arith in
    rw two (ap (λ (l : List ℕ). hex_digit (b / 16) ∷ hex_digit (b % 16) ∷ l) (take-to i s))

module _ (d s : List ℕ) (i : ℕ) (all : i ≡ min (length s) (length d / 2)) where
  digits_are : digits_for (length d) s ≡ take (2 * i) (to_hex s)
  unfolding digits_for
  digits_are = ap to_hex (take-most (length d / 2) s i all) ∙ sym (take-to i s)

  long : 2 * i ≡ length (take (2 * i) (to_hex s))
  long = simp length-take (omega (arith, to-length s))

  pub digits-length : 2 * i ≡ length (digits_for (length d) s)
  digits-length = rw digits_are long

  pub digits-done : over d (to_hex s) (2 * i) ≡ laid d 0 (digits_for (length d) s)
  digits-done = rw digits_are (over_done d (to_hex s) (2 * i) long)

pub digits-none : (d s : List ℕ) → length s ≡ 0 → d ≡ laid d 0 (digits_for (length d) s)
unfolding digits_for to_hex
digits-none d [] e = rw take-nil (sym (laid_none d 0))
digits-none d (b ∷ s) e = absurd (omega arith)
