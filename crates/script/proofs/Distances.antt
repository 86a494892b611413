-- How far digits and letters reach. Assumes nothing.
use mathlib.Core.Path.{◌≡◌, refl, sym, ap, ◌∙◌}
use mathlib.Core.Bool.{Bool, true, false, ◌&&◌, false≢true}
use mathlib.Core.List.{List, [], ◌∷◌}
use Prim.Native.Nat.{ℕ, zero, suc, ◌+◌, ◌-◌, ◌*◌, ◌≤◌, ◌<◌, min}
use native.Mathlib.Omega.{arith}
use lib.ListN.{length, drop, get_or}
use lib.Seq.{drop-cons}
use lib.Dec.{leb}
use borrow.Author.Tests.{leb-true}
use Rattle.definitions.specs.Bytes.{is_digit, is_letter, upper}
use Rattle.definitions.specs.Reader.{cursor, place_at, next_byte, Token, token, after_token, digits_at, digits, letters_at, name}
use Rattle.lexer.specs.Places.{cursor_at}
use Rattle.lexer.specs.Answers.{capped}
use Rattle.lexer.proofs.OneByte.{upper-below}
use Rattle.lexer.proofs.AtPlace.{next-at}

unfoldable value_of : Token → ℕ
value_of (token n c) = n

-- ---- digits

digits-reach : (n i : ℕ) (bs : List ℕ) → i ≤ place_at (after_token (digits_at n i bs))
unfolding after_token place_at digits_at
digits-reach n i [] = omega arith
digits-reach n i (b ∷ bs) = go (is_digit b) (digits-reach (n * 10 + (b - 48)) (suc i) bs)
  where
    go : (t : Bool) → suc i ≤ place_at (after_token (digits_at (n * 10 + (b - 48)) (suc i) bs))
        → i ≤ place_at (after_token (elim t [ true ↦ digits_at (n * 10 + (b - 48)) (suc i) bs | false ↦ token n (cursor i (b ∷ bs)) ]))
    go true h = omega arith
    go false h = omega arith

-- where the value has changed, one digit more was read
digits-grow : (n i : ℕ) (bs : List ℕ) → n < value_of (digits_at n i bs) → i < place_at (after_token (digits_at n i bs))
unfolding after_token place_at digits_at value_of
digits-grow n i [] h = absurd (omega (arith, h))
digits-grow n i (b ∷ bs) h = go (is_digit b) (digits-reach (n * 10 + (b - 48)) (suc i) bs) h
  where
    go : (t : Bool) → suc i ≤ place_at (after_token (digits_at (n * 10 + (b - 48)) (suc i) bs))
        → n < value_of (elim t [ true ↦ digits_at (n * 10 + (b - 48)) (suc i) bs | false ↦ token n (cursor i (b ∷ bs)) ])
        → i < place_at (after_token (elim t [ true ↦ digits_at (n * 10 + (b - 48)) (suc i) bs | false ↦ token n (cursor i (b ∷ bs)) ]))
    go true r g = omega arith
    go false r g = absurd (omega (arith, g))

digit-small : (b : ℕ) → is_digit b ≡ true → b ≤ 57
unfolding is_digit
digit-small b e = go (leb 48 b) (leb b 57) refl e
  where
    go : (t u : Bool) → leb b 57 ≡ u → t && u ≡ true → b ≤ 57
    go true true f g = leb-true b 57 f
    go true false f g = absurd (false≢true g)
    go false u f g = absurd (false≢true g)

one-digit : (i b : ℕ) (bs : List ℕ) → is_digit b ≡ true → digits (cursor i (b ∷ bs)) ≡ digits_at (0 * 10 + (b - 48)) (suc i) bs
unfolding digits digits_at
one-digit i b bs e = rw (e, digits_at)

-- a number of more than one digit's value has two digits at least
pub digits-far : (s : List ℕ) (i v r : ℕ) → i < length s → is_digit (get_or s i 0) ≡ true → capped (digits (cursor_at s i)) ≡ token v (cursor_at s r)
    → (i < r) × (10 ≤ v → suc i < r)
unfolding capped after_token place_at value_of
digits-far s i v r less e read = go (digits (cursor_at s i)) read (ap digits (ap (cursor i) (drop-cons s i 0 less)) ∙ one-digit i (get_or s i 0) (drop (suc i) s) e)
  where
    first : ℕ
    first = 0 * 10 + (get_or s i 0 - 48)

    go : (x : Token) → capped x ≡ token v (cursor_at s r) → x ≡ digits_at first (suc i) (drop (suc i) s) → (i < r) × (10 ≤ v → suc i < r)
    go (token n c) p q =
        let pc : c ≡ cursor_at s r = cc in
        let pv : min n 65536 ≡ v = cc in
        let place : place_at (after_token (digits_at first (suc i) (drop (suc i) s))) ≡ r = ap (λ (y : Token). place_at (after_token y)) (sym q) ∙ ap place_at pc in
        let value : value_of (digits_at first (suc i) (drop (suc i) s)) ≡ n = ap value_of (sym q) in (
          omega (arith, digits-reach first (suc i) (drop (suc i) s), place),
          λ h. omega (arith, place, digits-grow first (suc i) (drop (suc i) s) (omega (arith, value, digit-small (get_or s i 0) e))),
        )

-- digits are read to their end
digits-stop : (n i : ℕ) (bs : List ℕ) → is_digit (next_byte (after_token (digits_at n i bs))) ≡ false
unfolding after_token next_byte digits_at is_digit
digits-stop n i [] = refl
digits-stop n i (b ∷ bs) = go (is_digit b) refl (digits-stop (n * 10 + (b - 48)) (suc i) bs)
  where
    go : (t : Bool) → is_digit b ≡ t → is_digit (next_byte (after_token (digits_at (n * 10 + (b - 48)) (suc i) bs))) ≡ false
        → is_digit (next_byte (after_token (elim t [ true ↦ digits_at (n * 10 + (b - 48)) (suc i) bs | false ↦ token n (cursor i (b ∷ bs)) ]))) ≡ false
    go true e h = h
    go false e h = e

pub digits-end : (s : List ℕ) (i v r : ℕ) → capped (digits (cursor_at s i)) ≡ token v (cursor_at s r) → is_digit (get_or s r 0) ≡ false
unfolding capped after_token digits
digits-end s i v r read = go (digits (cursor_at s i)) read (digits-stop 0 i (drop i s))
  where
    go : (x : Token) → capped x ≡ token v (cursor_at s r) → is_digit (next_byte (after_token x)) ≡ false → is_digit (get_or s r 0) ≡ false
    go (token n c) p stop =
        let pc : c ≡ cursor_at s r = cc in
        ap is_digit (sym (ap next_byte pc ∙ next-at s r)) ∙ stop

-- ---- letters

letters-reach : (k n i : ℕ) (bs : List ℕ) → i ≤ place_at (after_token (letters_at k n i bs))
unfolding after_token place_at letters_at
letters-reach k n i [] = omega arith
letters-reach zero n i (b ∷ bs) = go (is_letter b) (letters-reach zero n (suc i) bs)
  where
    go : (t : Bool) → suc i ≤ place_at (after_token (letters_at zero n (suc i) bs))
        → i ≤ place_at (after_token (elim t [ true ↦ letters_at zero n (suc i) bs | false ↦ token n (cursor i (b ∷ bs)) ]))
    go true h = omega arith
    go false h = omega arith
letters-reach (suc k) n i (b ∷ bs) = go (is_letter b) (letters-reach k (n * 256 + upper b) (suc i) bs)
  where
    go : (t : Bool) → suc i ≤ place_at (after_token (letters_at k (n * 256 + upper b) (suc i) bs))
        → i ≤ place_at (after_token (elim t [ true ↦ letters_at k (n * 256 + upper b) (suc i) bs | false ↦ token n (cursor i (b ∷ bs)) ]))
    go true h = omega arith
    go false h = omega arith

one-letter : (i b : ℕ) (bs : List ℕ) → is_letter b ≡ true → name (cursor i (b ∷ bs)) ≡ letters_at 3 (0 * 256 + upper b) (suc i) bs
unfolding name letters_at
one-letter i b bs e = rw (e, letters_at)

pub name-far : (s : List ℕ) (i n r : ℕ) → i < length s → is_letter (get_or s i 0) ≡ true → name (cursor_at s i) ≡ token n (cursor_at s r) → i < r
unfolding after_token place_at
name-far s i n r less e read =
    let is = ap name (ap (cursor i) (drop-cons s i 0 less)) ∙ one-letter i (get_or s i 0) (drop (suc i) s) e in
    let place : place_at (after_token (letters_at 3 (0 * 256 + upper (get_or s i 0)) (suc i) (drop (suc i) s))) ≡ r = ap (λ (y : Token). place_at (after_token y)) (sym is ∙ read) in
    omega (arith, place, letters-reach 3 (0 * 256 + upper (get_or s i 0)) (suc i) (drop (suc i) s))

-- where the packed letters have changed, one letter more was read
letters-grow : (k n i : ℕ) (bs : List ℕ) → n < value_of (letters_at k n i bs) → i < place_at (after_token (letters_at k n i bs))
unfolding after_token place_at letters_at value_of
letters-grow k n i [] h = absurd (omega (arith, h))
letters-grow zero n i (b ∷ bs) h = go (is_letter b) (letters-reach zero n (suc i) bs) h
  where
    go : (t : Bool) → suc i ≤ place_at (after_token (letters_at zero n (suc i) bs))
        → n < value_of (elim t [ true ↦ letters_at zero n (suc i) bs | false ↦ token n (cursor i (b ∷ bs)) ])
        → i < place_at (after_token (elim t [ true ↦ letters_at zero n (suc i) bs | false ↦ token n (cursor i (b ∷ bs)) ]))
    go true r g = omega arith
    go false r g = absurd (omega (arith, g))
letters-grow (suc k) n i (b ∷ bs) h = go (is_letter b) (letters-reach k (n * 256 + upper b) (suc i) bs) h
  where
    go : (t : Bool) → suc i ≤ place_at (after_token (letters_at k (n * 256 + upper b) (suc i) bs))
        → n < value_of (elim t [ true ↦ letters_at k (n * 256 + upper b) (suc i) bs | false ↦ token n (cursor i (b ∷ bs)) ])
        → i < place_at (after_token (elim t [ true ↦ letters_at k (n * 256 + upper b) (suc i) bs | false ↦ token n (cursor i (b ∷ bs)) ]))
    go true r g = omega arith
    go false r g = absurd (omega (arith, g))

-- a name of more than one letter's value has two letters at least
pub name-longer : (s : List ℕ) (i n r : ℕ) → i < length s → get_or s i 0 < 256 → is_letter (get_or s i 0) ≡ true → name (cursor_at s i) ≡ token n (cursor_at s r)
    → 256 ≤ n → i + 2 ≤ r
unfolding after_token place_at value_of
name-longer s i n r less byte e read large =
    let is = ap name (ap (cursor i) (drop-cons s i 0 less)) ∙ one-letter i (get_or s i 0) (drop (suc i) s) e in
    let place : place_at (after_token (letters_at 3 (0 * 256 + upper (get_or s i 0)) (suc i) (drop (suc i) s))) ≡ r = ap (λ (y : Token). place_at (after_token y)) (sym is ∙ read) in
    let value : value_of (letters_at 3 (0 * 256 + upper (get_or s i 0)) (suc i) (drop (suc i) s)) ≡ n = ap value_of (sym is ∙ read) in
    omega (arith, place, letters-grow 3 (0 * 256 + upper (get_or s i 0)) (suc i) (drop (suc i) s) (omega (arith, value, large, upper-below (get_or s i 0) byte)))
