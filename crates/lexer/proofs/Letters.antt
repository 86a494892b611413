-- Names at a place of the script. Assumes nothing.
use mathlib.Core.Path.{◌≡◌, refl, ap}
use mathlib.Core.Bool.{Bool, true, false, false≢true}
use mathlib.Core.List.{List, [], ◌∷◌}
use Prim.Native.Nat.{ℕ, zero, suc, ◌+◌, ◌-◌, ◌*◌, ◌≤◌, ◌<◌}
use native.Mathlib.Nat.{not-suc-le-zero}
use native.Mathlib.Numerals.{add-one, sub-one}
use native.Mathlib.Omega.{arith}
use lib.ListN.{length, drop, get_or, drop_of_length-le}
use lib.Seq.{drop-cons}
use Rattle.definitions.specs.Bytes.{is_capital, is_small, is_letter, upper}
use Rattle.definitions.specs.Reader.{cursor, Token, token, place_at, after_token, next_byte, letters_at, name}
use Rattle.lexer.specs.Places.{cursor_at}
use Rattle.lexer.specs.Steps.{limit, with_letter}
use Rattle.lexer.proofs.OneByte.{upper-below}

more-letters : (k n i b : ℕ) (bs : List ℕ) → is_letter b ≡ true → letters_at k n i (b ∷ bs) ≡ letters_at (k - 1) (with_letter k n b) (suc i) bs
unfolding letters_at with_letter
more-letters zero n i b bs e = rw (e, letters_at)
more-letters (suc k) n i b bs e = rw (sub-one, e, letters_at)

pub letter-counts : (k n b : ℕ) → 0 < k → with_letter k n b ≡ n * 256 + upper b
unfolding with_letter
letter-counts zero n b h = absurd (not-suc-le-zero h)
letter-counts (suc k) n b h = refl

pub letter-over : (k n b : ℕ) → k ≡ 0 → with_letter k n b ≡ n
unfolding with_letter
letter-over k n b e = rw e

module _ (s : List ℕ) (i k n : ℕ) where
  pub letters-end : length s ≤ i → letters_at k n i (drop i s) ≡ token n (cursor_at s i)
  unfolding letters_at
  letters-end h = rw (drop_of_length-le s {i = i} h)

  module _ (more : i < length s) where
    pub letters-stop : is_letter (get_or s i 0) ≡ false → letters_at k n i (drop i s) ≡ token n (cursor_at s i)
    unfolding letters_at
    letters-stop e = rw (drop-cons s i 0 more, e, letters_at)

    pub letters-more : is_letter (get_or s i 0) ≡ true
        → letters_at k n i (drop i s) ≡ letters_at (k - 1) (with_letter k n (get_or s i 0)) (i + 1) (drop (i + 1) s)
    letters-more e = rw (add-one i, drop-cons s i 0 more) (more-letters k n i (get_or s i 0) (drop (suc i) s) e)

-- ---- the packed letters fit

pub letters-room : (k n : ℕ) → 0 < k → n < limit k → n < 16777216
unfolding limit
letters-room zero n p h = absurd (not-suc-le-zero p)
letters-room (suc zero) n p h = h
letters-room (suc (suc zero)) n p h = omega arith
letters-room (suc (suc (suc zero))) n p h = omega arith
letters-room (suc (suc (suc (suc zero)))) n p h = omega arith
letters-room (suc (suc (suc (suc (suc k))))) n p h = omega arith

below : (k n u : ℕ) → n < limit (suc k) → u < 256 → n * 256 + u < limit k
unfolding limit
below zero n u h p = omega arith
below (suc zero) n u h p = omega arith
below (suc (suc zero)) n u h p = omega arith
below (suc (suc (suc zero))) n u h p = omega arith
below (suc (suc (suc (suc k)))) n u h p = absurd (not-suc-le-zero h)

pub letters-below : (k n b : ℕ) → n < limit k → b < 256 → with_letter k n b < limit (k - 1)
unfolding with_letter
letters-below zero n b h p = h
letters-below (suc k) n b h p = rw sub-one (below k n (upper b) h (upper-below b p))

-- ---- a name has a letter at least

far : (k n i : ℕ) (bs : List ℕ) → i ≤ place_at (after_token (letters_at k n i bs))
unfolding after_token place_at letters_at
far k n i [] = omega arith
far k n i (b ∷ bs) = go (is_letter b) k (λ j m. far j m (suc i) bs)
  where
    go : (t : Bool) (k : ℕ) → ((j m : ℕ) → suc i ≤ place_at (after_token (letters_at j m (suc i) bs)))
        → i
        ≤ place_at
        (after_token
        (elim t [
          | true ↦ elim k [ zero ↦ letters_at zero n (suc i) bs | suc j ↦ letters_at j (n * 256 + upper b) (suc i) bs ]
          | false ↦ token n (cursor i (b ∷ bs))
        ]))
    go true zero h = omega (arith, h zero n)
    go true (suc j) h = omega (arith, h j (n * 256 + upper b))
    go false k h = omega arith

far-letter : (i : ℕ) (bs : List ℕ) → is_letter (next_byte (cursor i bs)) ≡ true → i < place_at (after_token (name (cursor i bs)))
unfolding name next_byte is_letter is_capital is_small
far-letter i [] e = absurd (false≢true e)
far-letter i (b ∷ bs) e = rw (more-letters 4 0 i b bs e) (far (4 - 1) (with_letter 4 0 b) (suc i) bs)

pub name-far : (s : List ℕ) (at n r : ℕ) → is_letter (next_byte (cursor_at s at)) ≡ true → name (cursor_at s at) ≡ token n (cursor_at s r) → at < r
unfolding after_token place_at
name-far s at n r first read =
    let e : place_at (after_token (name (cursor_at s at))) ≡ r = ap (λ (w : Token). place_at (after_token w)) read in
    omega (arith, far-letter at (drop at s) first)
