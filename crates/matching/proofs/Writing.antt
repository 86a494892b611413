-- Laws for the writer of a search's words. Assumes nothing.
use mathlib.Core.Path.{◌≡◌, refl, sym, ap}
use mathlib.Core.Bool.{Bool, true, false, cond}
use mathlib.Core.List.{List, [], ◌∷◌}
use Prim.Native.Nat.{ℕ, zero, suc, ◌+◌, ◌*◌, ◌≤◌}
use native.Mathlib.Nat.{add-zero, zero-add}
use native.Mathlib.Numerals.{add-one, add-two}
use native.Mathlib.Omega.{arith}
use lib.ListN.{length, set}
use lib.Seq.{sets}
use lib.Dec.{ltb}
use borrow.Author.Tests.{lt-ltb}
use Rattle.definitions.specs.Matching.{columns}
use Rattle.matching.specs.Quals.{anchor_of, columns_of, qualifiers_of}
use mir.Val.{bool_byte}
use Rattle.matching.specs.Words.{anchor_number, bit_of, are_given, flags_of, first_word, second_word, columns_in, column_words, string_words, led_in}
use Rattle.matching.specs.declared.Quals.{Quals}

-- ---- the words that are written

anchor-written : (n : ℕ) → n ≤ 3 → anchor_number (anchor_of n) ≡ n
unfolding anchor_of anchor_number
anchor-written zero h = refl
anchor-written (suc zero) h = refl
anchor-written (suc (suc zero)) h = refl
anchor-written (suc (suc (suc zero))) h = refl
anchor-written (suc (suc (suc (suc n)))) h = absurd (omega (arith, h))

columns-written : (from to : ℕ) → are_given (columns_of from to) ≡ ltb 0 from
unfolding are_given columns_of
columns-written zero to = refl
columns-written (suc n) to = sym (lt-ltb 0 (suc n) (omega arith))

-- a bit that is written
pub bit-written : (b : Bool) {n : ℕ} → n ≡ bool_byte b → n ≡ bit_of b
unfolding bit_of
bit-written true e = e
bit-written false e = e

pub bit_low : (b : Bool) {n : ℕ} → n ≡ bool_byte b → n ≤ 1
bit_low true e = omega (arith, e)
bit_low false e = omega (arith, e)

pub flags-written : (q : Quals) → q.anchor ≤ 3 → (l n w u s c r : ℕ) → l ≡ bit_of q.last → n ≡ bit_of q.negated → w ≡ bit_of q.word → u ≡ bit_of q.fold
    → s ≡ bit_of q.skip → c ≡ bit_of (ltb 0 q.from) → r ≡ bit_of q.pattern
    → q.anchor + 4 * l + 8 * n + 16 * w + 32 * u + 64 * s + 128 * c + 256 * r ≡ flags_of (qualifiers_of q)
unfolding flags_of qualifiers_of
flags-written q h l n w u s c r el en ew eu es ec er =
    rw (anchor-written q.anchor h, columns-written q.from q.to, ← el, ← en, ← ew, ← eu, ← es, ← ec, ← er)

pub first-written : (q : Quals) (start flags : ℕ) → flags ≡ flags_of (qualifiers_of q) → 4 * (flags + 512 * start) ≡ first_word (qualifiers_of q) start
unfolding first_word
first-written q start flags e = rw e

one_number : (r : Bool) (n : ℕ) → n ≡ cond r 0 n + cond r n 0
one_number true n = sym (zero-add n)
one_number false n = sym (add-zero n)

pub second-written : (q : Quals) (len : ℕ) → len + 256 * q.count ≡ second_word (qualifiers_of q) len (led_in q)
unfolding second_word qualifiers_of led_in
second-written q len = ap (λ (n : ℕ). len + 256 * n) (one_number q.pattern q.count)

two : (q : Quals) → q.from ≡ 0 → column_words (columns_in (qualifiers_of q)) ≡ []
unfolding column_words columns_in qualifiers_of columns_of
two q e = rw e

some_of : (n m : ℕ) → (n ≡ 0 → ⊥) → columns_of n m ≡ columns n m
unfolding columns_of
some_of zero m h = absurd (h refl)
some_of (suc n) m h = refl

three : (q : Quals) → (q.from ≡ 0 → ⊥) → column_words (columns_in (qualifiers_of q)) ≡ (q.from + 65536 * q.to) ∷ []
unfolding column_words columns_in qualifiers_of
three q e = rw (some_of q.from q.to e)

-- two stores where no columns are given, three where they are
module _ (words : List ℕ) (k : ℕ) (q : Quals) (start len a b : ℕ) (first : a ≡ first_word (qualifiers_of q) start) (second : b ≡ second_word (qualifiers_of q) len (led_in q)) where
  pub put_two : q.from ≡ 0 → (set (set words k a) (k + 1) b ≡ sets words k (string_words (qualifiers_of q) start len (led_in q))) × (k + 2 ≡ k + length (string_words (qualifiers_of q) start len (led_in q)))
  unfolding string_words
  put_two e = (rw (two q e, add-one k, first, second), rw (two q e))

  pub put_three : (q.from ≡ 0 → ⊥)
      → (set (set (set words k a) (k + 1) b) (k + 2) (q.from + 65536 * q.to) ≡ sets words k (string_words (qualifiers_of q) start len (led_in q)))
      × (k + 3 ≡ k + length (string_words (qualifiers_of q) start len (led_in q)))
  unfolding string_words
  put_three e = (rw (three q e, add-one k, add-two k, first, second), rw (three q e))

module _ (q : Quals) (start len : ℕ) where
  pub at-least-two : 2 ≤ length (string_words (qualifiers_of q) start len (led_in q))
  unfolding string_words
  at-least-two = omega arith

  pub then-three : (q.from ≡ 0 → ⊥) → length (string_words (qualifiers_of q) start len (led_in q)) ≡ 3
  unfolding string_words
  then-three e = rw (three q e)
