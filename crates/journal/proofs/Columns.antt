-- A number in five columns. Assumes nothing.
use mathlib.Core.Path.{◌≡◌, refl, sym}
use mathlib.Core.Bool.{Bool, true, false}
use mathlib.Core.List.{List, [], ◌∷◌}
use Prim.Native.Nat.{ℕ, suc, ◌+◌, ◌/◌, ◌%◌, ◌≤◌, ◌<◌}
use native.Mathlib.Omega.{arith}
use lib.Dec.{leb}
use borrow.Author.Tests.{le-leb, lt-leb, lt-ltb, le-ltb, leb-true, leb-false}
use Rattle.definitions.specs.Bytes.{bytes}
use Rattle.definitions.specs.Listing.{digits_before, decimal, in_five}
use Rattle.journal.specs.Views.{column_of}

blank : (n unit : ℕ) → n < unit → column_of n unit ≡ 32
unfolding column_of
blank n unit h = rw (lt-ltb n unit h)

digit : (n unit d : ℕ) → unit ≤ n → 48 + n / unit % 10 ≡ d → column_of n unit ≡ d
unfolding column_of
digit n unit d h e = rw (le-ltb n unit h) e

-- five columns
abbrev five : (a b c d e : ℕ) → List ℕ
five a b c d e = a ∷ b ∷ c ∷ d ∷ e ∷ []

five-eq : {a b c d e a' b' c' d' e' : ℕ} → a ≡ a' → b ≡ b' → c ≡ c' → d ≡ d' → e ≡ e' → five a b c d e ≡ five a' b' c' d' e'
five-eq p q r s t = λ i. five (p i) (q i) (r i) (s i) (t i)

-- the digits of a number
last-digit : (k n : ℕ) (rest : List ℕ) → n ≤ 9 → digits_before (suc k) n rest ≡ (48 + n) ∷ rest
unfolding digits_before
last-digit k n rest h = rw (le-leb n 9 h, digits_before)

more-digits : (k n : ℕ) (rest : List ℕ) → 9 < n → digits_before (suc k) n rest ≡ digits_before k (n / 10) ((48 + n % 10) ∷ rest)
unfolding digits_before
more-digits k n rest h = rw (lt-leb n 9 h, digits_before)

module _ (n : ℕ) where
  abbrev columns : List ℕ
  columns = five (column_of n 10000) (column_of n 1000) (column_of n 100) (column_of n 10) (48 + n % 10)

  five-1 : n ≤ 9 → in_five n ≡ columns
  unfolding in_five decimal bytes
  five-1 h =
      rw (le-leb n 9 h, last-digit 9 n [] h)
      (five-eq (sym (blank n 10000 (omega arith))) (sym (blank n 1000 (omega arith))) (sym (blank n 100 (omega arith))) (sym (blank n 10 (omega arith))) (omega arith))

  five-2 : 9 < n → n ≤ 99 → in_five n ≡ columns
  unfolding in_five decimal bytes
  five-2 l h =
      rw (lt-leb n 9 l, le-leb n 99 h, more-digits 9 n [] l, last-digit 8 (n / 10) ((48 + n % 10) ∷ []) (omega arith))
      (five-eq (sym (blank n 10000 (omega arith))) (sym (blank n 1000 (omega arith))) (sym (blank n 100 (omega arith))) (sym (digit n 10 (48 + n / 10) (omega arith) (omega arith))) refl)

  five-3 : 99 < n → n ≤ 999 → in_five n ≡ columns
  unfolding in_five decimal bytes
  five-3 l h =
      let a : 9 < n = omega arith in
      let b : 9 < n / 10 = omega arith in
      rw (
        lt-leb n 9 a,
        lt-leb n 99 l,
        le-leb n 999 h,
        more-digits 9 n [] a,
        more-digits 8 (n / 10) ((48 + n % 10) ∷ []) b,
        last-digit 7 (n / 10 / 10) ((48 + n / 10 % 10) ∷ (48 + n % 10) ∷ []) (omega arith),
      )
      (five-eq (sym (blank n 10000 (omega arith))) (sym (blank n 1000 (omega arith)))
      (sym (digit n 100 (48 + n / 10 / 10) (omega arith) (omega arith))) (sym (digit n 10 (48 + n / 10 % 10) (omega arith) refl)) refl)

  five-4 : 999 < n → n ≤ 9999 → in_five n ≡ columns
  unfolding in_five decimal bytes
  five-4 l h =
      let a : 9 < n = omega arith in
      let b : 99 < n = omega arith in
      let c : 9 < n / 10 = omega arith in
      let d : 9 < n / 10 / 10 = omega arith in
      rw (
        lt-leb n 9 a,
        lt-leb n 99 b,
        lt-leb n 999 l,
        le-leb n 9999 h,
        more-digits 9 n [] a,
        more-digits 8 (n / 10) ((48 + n % 10) ∷ []) c,
        more-digits 7 (n / 10 / 10) ((48 + n / 10 % 10) ∷ (48 + n % 10) ∷ []) d,
        last-digit 6 (n / 10 / 10 / 10) ((48 + n / 10 / 10 % 10) ∷ (48 + n / 10 % 10) ∷ (48 + n % 10) ∷ []) (omega arith),
      )
      (five-eq (sym (blank n 10000 (omega arith))) (sym (digit n 1000 (48 + n / 10 / 10 / 10) (omega arith) (omega arith)))
      (sym (digit n 100 (48 + n / 10 / 10 % 10) (omega arith) (omega arith))) (sym (digit n 10 (48 + n / 10 % 10) (omega arith) refl)) refl)

  five-5 : 9999 < n → n ≤ 99999 → in_five n ≡ columns
  unfolding in_five decimal bytes
  five-5 l h =
      let a : 9 < n = omega arith in
      let b : 99 < n = omega arith in
      let c : 999 < n = omega arith in
      let d : 9 < n / 10 = omega arith in
      let e : 9 < n / 10 / 10 = omega arith in
      let f : 9 < n / 10 / 10 / 10 = omega arith in
      rw (
        lt-leb n 9 a,
        lt-leb n 99 b,
        lt-leb n 999 c,
        lt-leb n 9999 l,
        more-digits 9 n [] a,
        more-digits 8 (n / 10) ((48 + n % 10) ∷ []) d,
        more-digits 7 (n / 10 / 10) ((48 + n / 10 % 10) ∷ (48 + n % 10) ∷ []) e,
        more-digits 6 (n / 10 / 10 / 10) ((48 + n / 10 / 10 % 10) ∷ (48 + n / 10 % 10) ∷ (48 + n % 10) ∷ []) f,
        last-digit 5 (n / 10 / 10 / 10 / 10) ((48 + n / 10 / 10 / 10 % 10) ∷ (48 + n / 10 / 10 % 10) ∷ (48 + n / 10 % 10) ∷ (48 + n % 10) ∷ []) (omega arith),
      )
      (five-eq (sym (digit n 10000 (48 + n / 10 / 10 / 10 / 10) (omega arith) (omega arith))) (sym (digit n 1000 (48 + n / 10 / 10 / 10 % 10) (omega arith) (omega arith)))
      (sym (digit n 100 (48 + n / 10 / 10 % 10) (omega arith) (omega arith))) (sym (digit n 10 (48 + n / 10 % 10) (omega arith) refl)) refl)

  -- a number of at most five digits
  pub in-five : n ≤ 99999 → in_five n ≡ columns
  in-five h = go (leb n 9) (leb n 99) (leb n 999) (leb n 9999) refl refl refl refl
    where
      go : (a b c d : Bool) → leb n 9 ≡ a → leb n 99 ≡ b → leb n 999 ≡ c → leb n 9999 ≡ d → in_five n ≡ columns
      go true b c d e f g k = five-1 (leb-true n 9 e)
      go false true c d e f g k = five-2 (leb-false n 9 e) (leb-true n 99 f)
      go false false true d e f g k = five-3 (leb-false n 99 f) (leb-true n 999 g)
      go false false false true e f g k = five-4 (leb-false n 999 g) (leb-true n 9999 k)
      go false false false false e f g k = five-5 (leb-false n 9999 k) h
