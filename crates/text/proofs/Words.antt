-- The laws of bytes as one number: the test that finds the first of them that is not text, for any number of bytes. Assumes nothing.
use Rattle.std.proofs.Common.{◌≡◌, ℕ, zero, suc, ◌+◌, ◌-◌, ◌*◌, ◌/◌, ◌%◌, ◌^◌, ◌<◌, ◌≤◌, Bool, true, false, cond, ◌⊎◌, List, [], ◌∷◌, length, get_or, drop, replicate, refl, ap, ◌∙◌, inl, inr, ⊎_elim, mul_assoc, mul_comm, eq-zero-or-pos, suc-add, pow-suc, zero-add, mul-one, add-one, arith, drop_of_length-le, drop-cons}
use lib.Bits.{bit_and, bit_or, and_high, and_le_l, and_le_r, and_mod, or_mod, and_shr, or_shr, or_add_and, or_lt, shifted_half, shifted_even}
use lib.Count.{count_trailing_zeros}
use Rattle.definitions.specs.Bytes.{is_text}
use Rattle.text.specs.Words.{word_of, text_run}
use Rattle.std.specs.Int.{from_le_bytes, w64}
use Rattle.theorems.specs.Lines.{text_of}
use Rattle.text.proofs.Ends.{text-is, text-low, text-high}

-- ---- eight bytes, read as one number

word-from : (l : List ℕ) (k : ℕ) → k < length l → word_of (drop k l) ≡ get_or l k 0 + 256 * word_of (drop (k + 1) l)
unfolding word_of
word-from l k h = rw (drop-cons l k 0 h, add-one k)

pub word-read : (l : List ℕ) → length l ≡ 8 → from_le_bytes w64 l ≡ word_of l
unfolding word_of
word-read l long =
    let none : word_of (drop 8 l) ≡ 0 = rw (drop_of_length-le l {i = 8} (omega arith)) in
    let next = λ (k : ℕ) (h : k < 8). word-from l k (omega arith) in
    omega (arith, none, next 0 (omega arith), next 1 (omega arith), next 2 (omega arith), next 3 (omega arith), next 4 (omega arith), next 5 (omega arith), next 6 (omega arith), next 7 (omega arith))

-- ---- zeros at a number's end

zeros-on : (n k d : ℕ) → count_trailing_zeros (n + k) (d * 2 ^ n) ≡ n + count_trailing_zeros k d
unfolding count_trailing_zeros
zeros-on zero k d = rw (mul-one d, zero-add k, zero-add (count_trailing_zeros k d))
zeros-on (suc n) k d = rw (suc-add n k, shifted_even d n, shifted_half d n) (ap suc (zeros-on n k d) ∙ omega arith)

zeros-odd : (k d : ℕ) → d % 2 ≡ 1 → count_trailing_zeros (suc k) d ≡ 0
unfolding count_trailing_zeros
zeros-odd k d e = rw e

-- ---- one byte of the test: the highest digit of 32 less and of 1 more, in eight digits

high_digit : (v : ℕ) → v < 256 → bit_and v 128 ≡ v / 128 * 128
high_digit v h = let low : v / 128 % 2 ≡ v / 128 = omega arith in and_high v 1 7 ∙ rw low

or_most : (a b : ℕ) → (a ≤ bit_or a b) × (b ≤ bit_or a b)
or_most a b = (omega (arith, or_add_and a b, and_le_r a b), omega (arith, or_add_and a b, and_le_l a b))

module _ (b u v : ℕ) (byte : b < 256) (less : u ≡ (b + 224) % 256) (more : v ≡ (b + 1) % 256) where
  small : bit_or u v < 256
  small = or_lt 8 u v (omega arith) (omega arith)

  byte-text : 32 ≤ b → b ≤ 126 → bit_and (bit_or u v) 128 ≡ 0
  byte-text h k =
      let low : bit_or u v < 128 = or_lt 7 u v (omega arith) (omega arith) in
      omega (arith, high_digit (bit_or u v) small)

  byte-other : (128 ≤ u) ⊎ (128 ≤ v) → bit_and (bit_or u v) 128 ≡ 128
  byte-other h =
      let most = or_most u v in
      let high : 128 ≤ bit_or u v = ⊎_elim (λ a. omega (arith, a, most.0)) (λ a. omega (arith, a, most.1)) h in
      omega (arith, small, high_digit (bit_or u v) small)

  pub byte-test : bit_and (bit_or u v) 128 ≡ cond (is_text b) 0 128
  byte-test = ⊎_elim (λ z. ⊎_elim (λ w. rw (text_of b (omega arith) (omega arith)) (byte-text (omega arith) (omega arith))) (λ w. rw (text-high b (omega arith)) (byte-other (high w))) (eq-zero-or-pos (b - 126))) (λ z. rw (text-low b (omega arith)) (byte-other (inl (omega arith)))) (eq-zero-or-pos (32 - b))
    where
      high : 0 < b - 126 → (128 ≤ u) ⊎ (128 ≤ v)
      high w = ⊎_elim (λ z. inr (omega arith)) (λ z. inl (omega arith)) (eq-zero-or-pos (b - 254))

-- ---- all bytes of the test

module _ (x y m : ℕ) where
  -- the test's lowest byte, and the others
  test_low : bit_and (bit_or x y) (128 + 256 * m) % 256 ≡ bit_and (bit_or (x % 256) (y % 256)) 128
  test_low = let e : (128 + 256 * m) % 256 ≡ 128 = omega arith in and_mod (bit_or x y) (128 + 256 * m) 8 ∙ rw (or_mod x y 8, e)

  test-rest : bit_and (bit_or x y) (128 + 256 * m) / 256 ≡ bit_and (bit_or (x / 256) (y / 256)) m
  test-rest = let e : (128 + 256 * m) / 256 ≡ m = omega arith in and_shr (bit_or x y) (128 + 256 * m) 8 ∙ rw (or_shr x y 8, e)

-- what the lowest byte says of the zeros at the end
module _ (k t : ℕ) where
  zeros-text : t % 256 ≡ 0 → count_trailing_zeros (8 + k) t / 8 ≡ suc (count_trailing_zeros k (t / 256) / 8)
  zeros-text h =
      let is : t / 256 * 2 ^ 8 ≡ t = omega arith in
      let z : count_trailing_zeros (8 + k) t ≡ 8 + count_trailing_zeros k (t / 256) = rw is at (zeros-on 8 k (t / 256)) in
      rw z (omega arith)

  zeros-other : t % 256 ≡ 128 → count_trailing_zeros (8 + k) t / 8 ≡ 0
  zeros-other h =
      let two : t / 128 ≡ 2 * (t / 256) + 1 = omega arith in
      let is : t / 128 * 2 ^ 7 ≡ t = omega arith in
      let wide : 7 + suc k ≡ 8 + k = omega arith in
      let z : count_trailing_zeros (8 + k) t ≡ 7 + count_trailing_zeros (suc k) (t / 128) = rw (is, wide) at (zeros-on 7 (suc k) (t / 128)) in
      let half : t / 128 / 2 ≡ t / 256 = omega arith in
      rw (z, zeros-odd k (t / 128) (omega arith))

carry-suc : (n q : ℕ) → q * 256 ^ suc n ≡ 256 * (q * 256 ^ n)
carry-suc n q = rw (pow-suc 256 n, ← mul_assoc q (256 ^ n) 256) (mul_comm (q * 256 ^ n) 256)

-- the byte c, n times
abbrev times : ℕ → ℕ → ℕ
times n c = word_of (replicate n c)

times-suc : (n c : ℕ) → times (suc n) c ≡ c + 256 * times n c
unfolding word_of
times-suc n c = refl

word-suc : (b : ℕ) (l : List ℕ) → word_of (b ∷ l) ≡ b + 256 * word_of l
unfolding word_of
word-suc b l = refl

-- x is the word with 32 less in each byte, y with 1 more, as far as the bytes go: below the lowest digit that is the highest of its byte in x or y there are as
-- many whole bytes as are text
pub text-test : (l : List ℕ) (x y q r : ℕ) → ((k : ℕ) → k < length l → get_or l k 0 < 256)
    → x + times (length l) 32 ≡ word_of l + q * 256 ^ length l
    → y + r * 256 ^ length l ≡ word_of l + times (length l) 1
    → count_trailing_zeros (8 * length l) (bit_and (bit_or x y) (times (length l) 128)) / 8 ≡ text_run l
unfolding count_trailing_zeros text_run
text-test [] x y q r bytes hx hy = refl
text-test (b ∷ l) x y q r bytes hx hy = go (is_text b) refl (text-test l (x / 256) (y / 256) q r (λ k h. bytes (suc k) (omega arith)))
  where
    n : ℕ
    n = length l

    t : ℕ
    t = bit_and (bit_or x y) (128 + 256 * times n 128)

    byte : b < 256
    byte = bytes 0 (omega arith)

    less : x + (32 + 256 * times n 32) ≡ b + 256 * word_of l + 256 * (q * 256 ^ n)
    less = rw (times-suc n 32, word-suc b l, carry-suc n q) at hx

    more : y + 256 * (r * 256 ^ n) ≡ b + 256 * word_of l + (1 + 256 * times n 1)
    more = rw (times-suc n 1, word-suc b l, carry-suc n r) at hy

    low : t % 256 ≡ cond (is_text b) 0 128
    low = test_low x y (times n 128) ∙ byte-test b (x % 256) (y % 256) byte (omega (arith, byte, less)) (omega (arith, byte, more))

    left : ℕ
    left = count_trailing_zeros (8 * n) (bit_and (bit_or (x / 256) (y / 256)) (times n 128)) / 8

    go : (e : Bool) → is_text b ≡ e
        → (x / 256 + times n 32 ≡ word_of l + q * 256 ^ n → y / 256 + r * 256 ^ n ≡ word_of l + times n 1 → left ≡ text_run l)
        → count_trailing_zeros (8 * suc n) (bit_and (bit_or x y) (times (suc n) 128)) / 8 ≡ cond (is_text b) (suc (text_run l)) 0
    go true e rest =
        let w : 8 * suc n ≡ 8 + 8 * n = omega arith in
        let text = text-is b e in
        rw (w, times-suc n 128, e) (zeros-text (8 * n) t (low ∙ rw e) ∙ rw (test-rest x y (times n 128)) (ap suc (rest (omega (arith, byte, less, text.0)) (omega (arith, byte, more, text.1)))))
    go false e rest =
        let w : 8 * suc n ≡ 8 + 8 * n = omega arith in
        rw (w, times-suc n 128, e) (zeros-other (8 * n) t (low ∙ rw e))

-- eight bytes, by sums that wrap at 2 ^ 64: 2 ^ 64 - 0x2020202020202020 is 0xdfdfdfdfdfdfdfe0
pub text-test-eight : (l : List ℕ) (w : ℕ) → length l ≡ 8 → ((k : ℕ) → k < 8 → get_or l k 0 < 256) → w ≡ word_of l → w < 2 ^ 64
    → count_trailing_zeros 64 (bit_and (bit_or ((w + 0xdfdfdfdfdfdfdfe0) % 2 ^ 64) ((w + 0x0101010101010101) % 2 ^ 64)) 0x8080808080808080) / 8 ≡ text_run l
unfolding word_of
text-test-eight l w long bytes is fits =
    let x : ℕ = (w + 0xdfdfdfdfdfdfdfe0) % 2 ^ 64 in
    let y : ℕ = (w + 0x0101010101010101) % 2 ^ 64 in
    let q : ℕ = (x + 0x2020202020202020) / 2 ^ 64 in
    let r : ℕ = (word_of l + 0x0101010101010101) / 2 ^ 64 in
    rw long at (text-test l x y q r) (λ k h. bytes k h) (omega (arith, is, fits)) (omega (arith, is))
