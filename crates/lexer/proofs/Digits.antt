-- Digits and numbers at a place of the script. Assumes nothing.
use mathlib.Core.Path.{◌≡◌, refl, sym, ap, ◌∙◌}
use mathlib.Core.Bool.{Bool, true, false, cond, ◌&&◌, false≢true}
use mathlib.Core.List.{List, [], ◌∷◌}
use Prim.Native.Nat.{ℕ, suc, ◌+◌, ◌-◌, ◌*◌, ◌≤◌, ◌<◌, min}
use native.Mathlib.Numerals.{add-one}
use native.Mathlib.Omega.{arith}
use lib.ListN.{length, drop, get_or, drop_of_length-le}
use lib.Seq.{drop-cons}
use lib.Dec.{leb}
use borrow.Author.Tests.{le-leb, lt-leb, leb-true, leb-false}
use Rattle.definitions.specs.Bytes.{is_digit}
use Rattle.definitions.specs.Reader.{Cursor, cursor, got, refused, Token, token, place_at, after_token, next_byte, digits_at, digits, is_digit_next, in_range, number}
use Rattle.lexer.specs.Places.{cursor_at}
use Rattle.std.specs.Prelude.{Result}
use Rattle.answers.specs.declared.Fault.TheVariants.{Argument}
use Rattle.answers.specs.declared.Read.{Read}
use Rattle.answers.specs.declared.Refusal.{Refusal}
use Rattle.answers.specs.Answers.{read_as, refusal}
use Rattle.lexer.specs.Answers.{capped, ValueRead, itself, Numbered}

-- ---- a value that is capped on the way comes to the same

cap-more : (n d : ℕ) → min (min n 65536 * 10 + d) 65536 ≡ min (n * 10 + d) 65536
cap-more n d = omega arith

once_more : (n i b : ℕ) (bs : List ℕ) (t : Bool) → ((m : ℕ) → capped (digits_at (min m 65536) (suc i) bs) ≡ capped (digits_at m (suc i) bs))
    → capped (elim t [ true ↦ digits_at (min n 65536 * 10 + (b - 48)) (suc i) bs | false ↦ token (min n 65536) (cursor i (b ∷ bs)) ])
    ≡ capped (elim t [ true ↦ digits_at (n * 10 + (b - 48)) (suc i) bs | false ↦ token n (cursor i (b ∷ bs)) ])
unfolding capped
once_more n i b bs true h =
    sym (h (min n 65536 * 10 + (b - 48))) ∙ ap (λ (m : ℕ). capped (digits_at m (suc i) bs)) (cap-more n (b - 48)) ∙ h (n * 10 + (b - 48))
once_more n i b bs false h = ap (λ (m : ℕ). token m (cursor i (b ∷ bs))) (omega arith)

capped-once : (n i : ℕ) (bs : List ℕ) → capped (digits_at (min n 65536) i bs) ≡ capped (digits_at n i bs)
unfolding capped digits_at
capped-once n i [] = ap (λ (m : ℕ). token m (cursor i [])) (omega arith)
capped-once n i (b ∷ bs) = once_more n i b bs (is_digit b) (λ m. capped-once m (suc i) bs)

-- ---- the digits at a place

module _ (s : List ℕ) (i n : ℕ) where
  pub digits-end : n ≤ 65536 → length s ≤ i → capped (digits_at n i (drop i s)) ≡ token n (cursor_at s i)
  unfolding capped digits_at
  digits-end h e = rw (drop_of_length-le s {i = i} e) (ap (λ (m : ℕ). token m (cursor i [])) (omega arith))

  module _ (more : i < length s) where
    pub digits-stop : n ≤ 65536 → is_digit (get_or s i 0) ≡ false → capped (digits_at n i (drop i s)) ≡ token n (cursor_at s i)
    unfolding capped digits_at
    digits-stop h e = rw (drop-cons s i 0 more, e, digits_at, capped) (ap (λ (m : ℕ). token m (cursor i (get_or s i 0 ∷ drop (suc i) s))) (omega arith))

    pub digits_more : is_digit (get_or s i 0) ≡ true
        → capped (digits_at n i (drop i s)) ≡ capped (digits_at (min (n * 10 + (get_or s i 0 - 48)) 65536) (i + 1) (drop (i + 1) s))
    unfolding digits_at
    digits_more e = rw (add-one i, drop-cons s i 0 more, e, digits_at) (sym (capped-once (n * 10 + (get_or s i 0 - 48)) (suc i) (drop (suc i) s)))

-- ---- what a capped value says of the value

pub capped_small : (w : Token) (v : ℕ) (c : Cursor) → capped w ≡ token v c → v ≤ 65535 → w ≡ token v c
unfolding capped
capped_small (token n c₁) v c e h =
    let p : min n 65536 ≡ v = cc in
    let q : c₁ ≡ c = cc in
    let m : n ≡ v = omega arith in
    rw (m, q)

pub capped-large : (w : Token) (v : ℕ) (c : Cursor) → capped w ≡ token v c → 65535 < v → (n : ℕ) × (w ≡ token n c) × (65535 < n)
unfolding capped
capped-large (token n c₁) v c e h =
    let p : min n 65536 ≡ v = cc in
    let q : c₁ ≡ c = cc in
    (n, rw q, omega arith)

-- the range test sees no difference
range-capped : (at : ℕ) (w : Token) → in_range at (capped w) ≡ in_range at w
unfolding in_range capped
range-capped at (token n c) = go (leb n 65535) refl
  where
    go : (t : Bool) → leb n 65535 ≡ t → cond (leb 1 (min n 65536) && leb (min n 65536) 65535) (got (min n 65536) c) (refused 3 at)
        ≡ cond (leb 1 n && leb n 65535) (got n c) (refused 3 at)
    go true e =
        let h : n ≤ 65535 = leb-true n 65535 e in
        let m : min n 65536 ≡ n = omega arith in
        rw m
    go false e =
        let h : 65535 < n = leb-false n 65535 e in
        let m : min n 65536 ≡ 65536 = omega arith in
        rw (m, le-leb 1 n (omega arith), e)

-- ---- the number at a place

-- the digits' end is not before their start
far : (n i : ℕ) (bs : List ℕ) → i ≤ place_at (after_token (capped (digits_at n i bs)))
unfolding capped after_token place_at digits_at
far n i [] = omega arith
far n i (b ∷ bs) = go (is_digit b) (far (n * 10 + (b - 48)) (suc i) bs)
  where
    go : (t : Bool) → suc i ≤ place_at (after_token (capped (digits_at (n * 10 + (b - 48)) (suc i) bs)))
        → i ≤ place_at (after_token (capped (elim t [ true ↦ digits_at (n * 10 + (b - 48)) (suc i) bs | false ↦ token n (cursor i (b ∷ bs)) ])))
    go true h = omega arith
    go false h = omega arith

far-digit : (i : ℕ) (bs : List ℕ) → is_digit (next_byte (cursor i bs)) ≡ true → i < place_at (after_token (capped (digits (cursor i bs))))
unfolding digits digits_at next_byte is_digit
far-digit i [] e = absurd (false≢true e)
far-digit i (b ∷ bs) e = rw (e, digits_at) (far (0 * 10 + (b - 48)) (suc i) bs)

-- what the reader of numbers answers
abbrev pub IsNumber : List ℕ → ℕ → Result (Read ℕ) Refusal → Type 0
IsNumber s at = ValueRead s itself (Numbered at) (number (cursor_at s at))

module _ (s : List ℕ) (at : ℕ) where
  pub no_number : is_digit (next_byte (cursor_at s at)) ≡ false → IsNumber s at (refusal Argument at)
  unfolding number is_digit_next place_at
  no_number e = (rw e)

  module _ (v r : ℕ) (first : is_digit (next_byte (cursor_at s at)) ≡ true) (read : capped (digits (cursor_at s at)) ≡ token v (cursor_at s r)) where
    ranged : number (cursor_at s at) ≡ in_range at (token v (cursor_at s r))
    unfolding number is_digit_next place_at
    ranged = rw (first, ← range-capped at (digits (cursor_at s at)), read)

    -- a number has a digit at least
    pub number-far : at < r
    unfolding after_token place_at
    number-far =
        let e : place_at (after_token (capped (digits (cursor_at s at)))) ≡ r = ap (λ (w : Token). place_at (after_token w)) read in
        omega (arith, far-digit at (drop at s) first)

    pub number-zero : v < 1 → IsNumber s at (refusal Argument at)
    unfolding in_range
    number-zero h = (ranged ∙ rw (lt-leb 1 v h))

    pub number-large : 65535 < v → IsNumber s at (refusal Argument at)
    unfolding in_range
    number-large h = (ranged ∙ rw (le-leb 1 v (omega arith), lt-leb v 65535 h))

    pub number_is : 1 ≤ v → v ≤ 65535 → r ≤ length s → IsNumber s at (read_as v r)
    unfolding in_range
    number_is h k to = (ranged ∙ rw (le-leb 1 v h, le-leb v 65535 k), (h, k, number-far), to)
