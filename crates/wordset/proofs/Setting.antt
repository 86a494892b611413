-- Sets in three words: what words hold that are written, and what a set holds with bytes added to it. Assumes nothing.
use mathlib.Core.Path.{◌≡◌, refl, sym, ap, ap₂, ◌∙◌}
use mathlib.Core.Bool.{Bool, true, false, cond, not, ◌&&◌, ◌||◌, or-false, or_assoc, and-false, false≢true}
use mathlib.Core.List.{List, [], ◌∷◌, append_assoc}
use Prim.Native.Nat.{ℕ, zero, suc, ◌+◌, ◌-◌, ◌/◌, ◌%◌, ◌^◌, ◌≤◌, ◌<◌}
use native.Mathlib.Nat.{not-suc-le-zero, add-zero}
use native.Mathlib.Numerals.{add-one}
use native.Mathlib.Omega.{arith}
use lib.ListN.{length, take, drop, get_or, set, length-set}
use borrow.Rule.Slice.PartMut.{put_mid}
use Rattle.std.proofs.lemmas.List.Edits.{sets-eq}
use lib.Seq.{sets, drop-drop, set-set, set_comm, get_or-set_same, get_or-set_other}
use lib.Bits.{bit_or, or_lt}
use lib.Pow.{pow-lt}
use lib.Dec.{eqb, leb, ltb}
use borrow.Author.Tests.{ltb-true, ltb-false, leb-true, leb-false, eqb-true, eqb-false, lt-ltb, le-ltb, le-leb, lt-leb, eq-eqb, ne_eqb}
use Rattle.definitions.specs.WordSet.{is_named, is_word_byte, letters_and_digits}
use Rattle.wordset.specs.Sets.{has_bit, in_set}
use Rattle.wordset.specs.Decoding.{first_words, word_of, with_byte, with_bytes, ThreePut}
use Rattle.wordset.specs.Laws.{written}
use Rattle.wordset.proofs.Bits.{no-bit, own-bit, or-bit}

-- ---- tests that say the same

pub leb-iff : (a b c d : ℕ) → (a ≤ b → c ≤ d) → (c ≤ d → a ≤ b) → leb a b ≡ leb c d
leb-iff a b c d f g = go (leb a b) refl (leb c d) refl
  where
    go : (s : Bool) → leb a b ≡ s → (t : Bool) → leb c d ≡ t → s ≡ t
    go true e true h = refl
    go true e false h = sym (le-leb c d (f (leb-true a b e))) ∙ h
    go false e true h = sym e ∙ le-leb a b (g (leb-true c d h))
    go false e false h = refl

eqb-iff : (a b c d : ℕ) → (a ≡ b → c ≡ d) → (c ≡ d → a ≡ b) → eqb a b ≡ eqb c d
eqb-iff a b c d f g = go (eqb a b) refl (eqb c d) refl
  where
    go : (s : Bool) → eqb a b ≡ s → (t : Bool) → eqb c d ≡ t → s ≡ t
    go true e true h = refl
    go true e false h = sym (eq-eqb c d (f (eqb-true a b e))) ∙ h
    go false e true h = sym e ∙ eq-eqb a b (g (eqb-true c d h))
    go false e false h = refl

-- ---- is a byte in a set

module _ (w : List ℕ) (k c : ℕ) where
  pub in-below : c < 32 → in_set w k c ≡ false
  unfolding in_set
  in-below h = rw (lt-leb 32 c h)

  pub in-beyond : 128 ≤ c → in_set w k c ≡ false
  unfolding in_set
  in-beyond h = rw (le-ltb c 128 h) (and-false (leb 32 c))

  pub in-range : 32 ≤ c → c < 128 → in_set w k c ≡ has_bit (get_or w (word_of k c) 0) (c % 32)
  unfolding in_set
  in-range low high = rw (le-leb 32 c low, lt-ltb c 128 high)

-- a law of all bytes: from those below 32, those from 128 on and the others
by-range : (P : ℕ → Type 0) → ((c : ℕ) → c < 32 → P c) → ((c : ℕ) → 128 ≤ c → P c) → ((c : ℕ) → 32 ≤ c → c < 128 → P c) → (c : ℕ) → P c
by-range P below beyond range c = go (leb 32 c) refl (ltb c 128) refl
  where
    go : (s : Bool) → leb 32 c ≡ s → (t : Bool) → ltb c 128 ≡ t → P c
    go false e t f = below c (leb-false 32 c e)
    go true e false f = beyond c (ltb-false c 128 f)
    go true e true f = range c (leb-true 32 c e) (ltb-true c 128 f)

-- ---- no byte; letters and digits

abbrev pub no_bytes : List ℕ
no_bytes = 0 ∷ 0 ∷ 0 ∷ []

pub none-set : (c : ℕ) → in_set no_bytes 0 c ≡ false
none-set = by-range (λ c. in_set no_bytes 0 c ≡ false) (in-below no_bytes 0) (in-beyond no_bytes 0)
    (λ c low high. in-range no_bytes 0 c low high ∙ ap (λ (x : ℕ). has_bit x (c % 32)) (zeros (0 + (c / 32 - 1))) ∙ no-bit (c % 32))
  where
    zeros : (n : ℕ) → get_or no_bytes n 0 ≡ 0
    zeros zero = refl
    zeros (suc zero) = refl
    zeros (suc (suc zero)) = refl
    zeros (suc (suc (suc n))) = refl

-- two tests of bytes say the same of all bytes below n
agree : (ℕ → Bool) → (ℕ → Bool) → ℕ → Bool
agree f g zero = true
agree f g (suc n) = cond (f n) (g n) (not (g n)) && agree f g n

agreed : (f g : ℕ → Bool) (n : ℕ) → agree f g n ≡ true → (b : ℕ) → b < n → f b ≡ g b
unfolding agree
agreed f g zero e b h = absurd (not-suc-le-zero h)
agreed f g (suc n) e b h = go (agreed f g n) (f n) (g n) refl refl (eqb b n) refl e
  where
    here : (x : Bool) → f n ≡ x → g n ≡ x → eqb b n ≡ true → f b ≡ g b
    here x p q i = let is = eqb-true b n i in ap f is ∙ p ∙ sym q ∙ sym (ap g is)

    before : eqb b n ≡ false → b < n
    before i = let other = eqb-false b n i in omega arith

    go : (agree f g n ≡ true → (b : ℕ) → b < n → f b ≡ g b) → (x y : Bool) → f n ≡ x → g n ≡ y → (t : Bool) → eqb b n ≡ t
        → (cond x y (not y) && agree f g n) ≡ true → f b ≡ g b
    go ih true false p q t i a = absurd (false≢true a)
    go ih false true p q t i a = absurd (false≢true a)
    go ih true true p q true i a = here true p q i
    go ih true true p q false i a = ih a b (before i)
    go ih false false p q true i a = here false p q i
    go ih false false p q false i a = ih a b (before i)

first_byte : (c : ℕ) → in_set first_words 0 c ≡ is_word_byte letters_and_digits c
unfolding in_set has_bit is_word_byte is_named letters_and_digits agree
first_byte c = go (ltb c 128) refl
  where
    go : (t : Bool) → ltb c 128 ≡ t → in_set first_words 0 c ≡ is_word_byte letters_and_digits c
    go true e = agreed (in_set first_words 0) (is_word_byte letters_and_digits) 128 refl c (ltb-true c 128 e)
    go false e =
        let far = ltb-false c 128 e in
        in-beyond first_words 0 c far ∙ rw (lt-leb c 57 (omega arith), lt-leb c 90 (omega arith), lt-leb c 122 (omega arith), and-false (leb 48 c), and-false (leb 65 c), and-false (leb 97 c))

pub first-set : in_set first_words 0 ≡ is_word_byte letters_and_digits
first-set = λ i c. first_byte c i

-- ---- a byte added

set-bit : (w : List ℕ) (i j m : ℕ) → i < length w → has_bit (get_or (set w i (bit_or (get_or w i 0) (2 ^ j))) i 0) m ≡ (has_bit (get_or w i 0) m || eqb j m)
set-bit w i j m h =
    ap (λ (x : ℕ). has_bit x m) (get_or-set_same w i (bit_or (get_or w i 0) (2 ^ j)) 0 h) ∙ or-bit (get_or w i 0) (2 ^ j) m
    ∙ ap (λ (t : Bool). has_bit (get_or w i 0) m || t) (own-bit j m)

module _ (w : List ℕ) (k b : ℕ) (fits : k + 3 ≤ length w) (low : 32 ≤ b) (high : b < 128) where
  added : (c : ℕ) → 32 ≤ c → c < 128 → (t : Bool) → eqb (b / 32) (c / 32) ≡ t
      → has_bit (get_or (with_byte w k b) (word_of k c) 0) (c % 32) ≡ (has_bit (get_or w (word_of k c) 0) (c % 32) || eqb b c)
  added c l h true e =
      let same : b / 32 ≡ c / 32 = eqb-true (b / 32) (c / 32) e in
      let place : word_of k b ≡ word_of k c = ap (λ (x : ℕ). k + (x - 1)) same in
      let bit : eqb (b % 32) (c % 32) ≡ eqb b c = eqb-iff (b % 32) (c % 32) b c (λ p. omega arith) (λ p. ap (λ (x : ℕ). x % 32) p) in
      ap (λ (i : ℕ). has_bit (get_or (with_byte w k b) i 0) (c % 32)) (sym place)
      ∙ set-bit w (word_of k b) (b % 32) (c % 32) (omega arith)
      ∙ ap₂ (λ (i : ℕ) (t : Bool). has_bit (get_or w i 0) (c % 32) || t) place bit
  added c l h false e =
      let other : b / 32 ≡ c / 32 → ⊥ = eqb-false (b / 32) (c / 32) e in
      let apart : eqb b c ≡ false = ne_eqb b c (λ p. other (ap (λ (x : ℕ). x / 32) p)) in
      ap (λ (x : ℕ). has_bit x (c % 32)) (get_or-set_other w (word_of k b) (word_of k c) (bit_or (get_or w (word_of k b) 0) (2 ^ (b % 32))) 0 (λ p. other (omega arith)))
      ∙ sym (or-false (has_bit (get_or w (word_of k c) 0) (c % 32))) ∙ ap (λ (t : Bool). has_bit (get_or w (word_of k c) 0) (c % 32) || t) (sym apart)

  pub with_byte_lem : (c : ℕ) → in_set (with_byte w k b) k c ≡ (in_set w k c || eqb b c)
  with_byte_lem = by-range (λ c. in_set (with_byte w k b) k c ≡ (in_set w k c || eqb b c))
      (λ c h. in-below (with_byte w k b) k c h ∙ rw (in-below w k c h, ne_eqb b c (λ p. omega arith)))
      (λ c h. in-beyond (with_byte w k b) k c h ∙ rw (in-beyond w k c h, ne_eqb b c (λ p. omega arith)))
      (λ c l h. in-range (with_byte w k b) k c l h ∙ added c l h (eqb (b / 32) (c / 32)) refl ∙ ap (λ (t : Bool). t || eqb b c) (sym (in-range w k c l h)))

-- ---- bytes added, from one to another

range_none : (b c : ℕ) → (leb b c && ltb c b) ≡ false
range_none b c = go (leb b c) refl
  where
    go : (t : Bool) → leb b c ≡ t → (t && ltb c b) ≡ false
    go true e = le-ltb c b (leb-true b c e)
    go false e = refl

range-more : (b c n : ℕ) → (eqb b c || (leb (suc b) c && ltb c (suc b + n))) ≡ (leb b c && ltb c (b + suc n))
range-more b c n = go (eqb b c) refl
  where
    go : (t : Bool) → eqb b c ≡ t → (t || (leb (suc b) c && ltb c (suc b + n))) ≡ (leb b c && ltb c (b + suc n))
    go true e = let is = eqb-true b c e in sym (rw (le-leb b c (omega arith)) (lt-ltb c (b + suc n) (omega arith)))
    go false e =
        let other = eqb-false b c e in
        ap₂ (λ (s t : Bool). s && t) (leb-iff (suc b) c b c (λ h. omega arith) (λ h. omega arith)) (leb-iff (suc c) (suc b + n) (suc c) (b + suc n) (λ h. omega arith) (λ h. omega arith))

pub in_bytes : (k c n : ℕ) (w : List ℕ) (b : ℕ) → k + 3 ≤ length w → 32 ≤ b → b + n ≤ 128
    → in_set (with_bytes w k b n) k c ≡ (in_set w k c || (leb b c && ltb c (b + n)))
unfolding with_bytes
in_bytes k c zero w b fits low high = sym (rw (add-zero b, range_none b c) (or-false (in_set w k c)))
in_bytes k c (suc n) w b fits low high =
    in_bytes k c n (with_byte w k b) (suc b) (simp length-set fits) (omega arith) (omega arith)
    ∙ ap (λ (t : Bool). t || (leb (suc b) c && ltb c (suc b + n))) (with_byte_lem w k b fits low (omega arith) c)
    ∙ or_assoc (in_set w k c) (eqb b c) (leb (suc b) c && ltb c (suc b + n))
    ∙ ap (λ (t : Bool). in_set w k c || t) (range-more b c n)

-- a byte less to add; none left
module _ (w : List ℕ) (k b y : ℕ) where
  pub bytes_on : b ≤ y → with_bytes w k b (suc y - b) ≡ with_bytes (with_byte w k b) k (b + 1) (suc y - (b + 1))
  unfolding with_bytes
  bytes_on h =
      let some : suc y - b ≡ suc (suc y - (b + 1)) = omega arith in
      rw (some, add-one b)

  pub bytes-none : y < b → with_bytes w k b (suc y - b) ≡ w
  unfolding with_bytes
  bytes-none h =
      let none : suc y - b ≡ 0 = omega arith in
      rw none

-- ---- which words are written

-- a part that is copied over
pub three-put : (w : List ℕ) (k n : ℕ) (vs us : List ℕ) → length vs ≡ 3 → k + 3 ≤ length w → n ≡ 3 → us ≡ vs → put_mid k n w us ≡ sets w k vs
three-put w k n vs us three fits is same =
    rw (same, is, sets-eq vs w k (omega arith), three) (sym (append_assoc (take k w) vs (drop (k + 3) w) ∙ rw (drop-drop 3 k w)))

pub set_below : (vs l : List ℕ) (i j v : ℕ) → j < i → set (sets l i vs) j v ≡ sets (set l j v) i vs
set_below [] l i j v h = refl
set_below (a ∷ vs) l i j v h = set_below vs (set l i a) (suc i) j v (omega arith) ∙ ap (λ (r : List ℕ). sets r (suc i) vs) (set_comm l i j a v (λ e. omega arith))

set-within : (vs l : List ℕ) (i n v : ℕ) → n < length vs → set (sets l i vs) (i + n) v ≡ sets l i (set vs n v)
set-within [] l i n v h = absurd (not-suc-le-zero h)
set-within (a ∷ vs) l i zero v h = rw (add-zero i) (set_below vs (set l i a) (suc i) i v (omega arith) ∙ ap (λ (r : List ℕ). sets r (suc i) vs) (set-set l i a v))
set-within (a ∷ vs) l i (suc n) v h =
    let place : i + suc n ≡ suc i + n = omega arith in
    rw place (set-within vs (set l i a) (suc i) n v (omega arith))

pub sets_over : (us vs l : List ℕ) (i : ℕ) → length us ≡ length vs → sets (sets l i us) i vs ≡ sets l i vs
sets_over [] [] l i e = refl
sets_over [] (v ∷ vs) l i e = absurd (omega arith)
sets_over (u ∷ us) [] l i e = absurd (omega arith)
sets_over (u ∷ us) (v ∷ vs) l i e =
    ap (λ (r : List ℕ). sets r (suc i) vs) (set_below us (set l i u) (suc i) i v (omega arith) ∙ ap (λ (r : List ℕ). sets r (suc i) us) (set-set l i u v))
    ∙ sets_over us vs (set l i v) (suc i) (omega arith)

put-again : (w w' : List ℕ) (k n v : ℕ) → n < 3 → v < 2 ^ 32 → ThreePut w k w' → ThreePut w k (set w' (k + n) v)
put-again w w' k zero v h hv (a, b, c, ha, hb, hc, is) = (v, b, c, hv, hb, hc, rw is (set-within (a ∷ b ∷ c ∷ []) w k 0 v (omega arith)))
put-again w w' k (suc zero) v h hv (a, b, c, ha, hb, hc, is) = (a, v, c, ha, hv, hc, rw is (set-within (a ∷ b ∷ c ∷ []) w k 1 v (omega arith)))
put-again w w' k (suc (suc zero)) v h hv (a, b, c, ha, hb, hc, is) = (a, b, v, ha, hb, hv, rw is (set-within (a ∷ b ∷ c ∷ []) w k 2 v (omega arith)))
put-again w w' k (suc (suc (suc n))) v h hv p = absurd (omega arith)

word_below : (w w' : List ℕ) (k n : ℕ) → k + 3 ≤ length w → n < 3 → ThreePut w k w' → get_or w' (k + n) 0 < 2 ^ 32
word_below w w' k n fits h (a, b, c, ha, hb, hc, is) = rw (is, written w (a ∷ b ∷ c ∷ []) k n fits h) (go n h)
  where
    go : (n : ℕ) → n < 3 → get_or (a ∷ b ∷ c ∷ []) n 0 < 2 ^ 32
    go zero h = ha
    go (suc zero) h = hb
    go (suc (suc zero)) h = hc
    go (suc (suc (suc n))) h = absurd (omega arith)

pub put-bytes : (w : List ℕ) (k n : ℕ) (w' : List ℕ) (b : ℕ) → k + 3 ≤ length w → 32 ≤ b → b + n ≤ 128 → ThreePut w k w' → ThreePut w k (with_bytes w' k b n)
unfolding with_bytes
put-bytes w k zero w' b fits low high p = p
put-bytes w k (suc n) w' b fits low high p =
    put-bytes w k n (with_byte w' k b) (suc b) fits (omega arith) (omega arith)
    (put-again w w' k (b / 32 - 1) (bit_or (get_or w' (word_of k b) 0) (2 ^ (b % 32))) (omega arith)
    (or_lt 32 (get_or w' (word_of k b) 0) (2 ^ (b % 32)) (word_below w w' k (b / 32 - 1) fits (omega arith) p) (pow-lt {i = b % 32} {j = 32} (omega arith))) p)
