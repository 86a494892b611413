-- Laws of adding a qualifier, one for each way out. Assumes nothing.
use mathlib.Core.Path.{◌≡◌, refl, sym, ◌∙◌}
use mathlib.Core.Bool.{Bool, true, false, cond, ◌&&◌, false≢true}
use mathlib.Core.Logic.{◌⊎◌, inl, inr}
use mathlib.Core.Option.{Option, none, some}
use Prim.Native.Nat.{ℕ, zero, suc, ◌≤◌, ◌<◌}
use native.Mathlib.Omega.{arith}
use native.Mathlib.Nat.{not-suc-le-zero}
use borrow.Author.Tests.{eq-eqb, ne_eqb}
use Rattle.definitions.specs.Matching.{Qualifiers}
use Rattle.definitions.specs.Reader.{Cursor, place_at, after_byte}
use Rattle.definitions.specs.Strings.{is_anchored, clashes_with_l, unless, add_anchor, add_count, add_l, add_n, add_w, add_u, add_s, add_r, added, letter_of, read_qualifier}
use Rattle.matching.specs.declared.Quals.{Quals}
use Rattle.matching.specs.Quals.{anchor_of, qualifiers_of}
use Rattle.std.specs.Prelude.{Result, Ok, Err}
use Rattle.answers.specs.declared.Fault.{Fault}
use Rattle.answers.specs.declared.Fault.TheVariants.{Argument, Qualifier}
use Rattle.strings.specs.Answers.{Small, added_of, SmallAdded, Adds, AddsAt}

-- ---- from the definition's answer to the code's

pub clash : (x : Option Qualifiers) (q : Quals) → x ≡ none → Adds x q (Err Qualifier)
unfolding added_of added SmallAdded
clash x q e = record { is = λ at c. rw e; small = λ h. tt }

pub now : (x : Option Qualifiers) (q more : Quals) → x ≡ some (qualifiers_of more) → (Small q → Small more) → Adds x q (Ok more)
unfolding added_of added SmallAdded
now x q more e h = record { is = λ at c. rw e; small = h }

-- ---- numbers and anchors

pub not-zero : (n : ℕ) → (n ≡ 0 → ⊥) → is_anchored (anchor_of n) ≡ true
unfolding is_anchored anchor_of
not-zero zero h = absurd (h refl)
not-zero (suc zero) h = refl
not-zero (suc (suc zero)) h = refl
not-zero (suc (suc (suc n))) h = refl

pub is_zero : (n : ℕ) → n ≡ 0 → is_anchored (anchor_of n) ≡ false
unfolding is_anchored anchor_of
is_zero n h = rw h

-- P and B clash with L, E does not
not_end : (n : ℕ) → 1 ≤ n → n ≤ 3 → (n ≡ 2 → ⊥) → clashes_with_l (anchor_of n) ≡ true
unfolding clashes_with_l anchor_of
not_end zero low high e = absurd (not-suc-le-zero low)
not_end (suc zero) low high e = refl
not_end (suc (suc zero)) low high e = absurd (e refl)
not_end (suc (suc (suc n))) low high e = refl

is-start : (n : ℕ) → n ≡ 1 → clashes_with_l (anchor_of n) ≡ true
unfolding clashes_with_l anchor_of
is-start n e = rw e

is_whole : (n : ℕ) → 2 < n → clashes_with_l (anchor_of n) ≡ true
unfolding clashes_with_l anchor_of
is_whole zero h = absurd (not-suc-le-zero h)
is_whole (suc zero) h = refl
is_whole (suc (suc zero)) h = let z : ⊥ = omega arith in absurd z
is_whole (suc (suc (suc n))) h = refl

is-neither : (n : ℕ) → (n ≡ 1 → ⊥) → n ≤ 2 → clashes_with_l (anchor_of n) ≡ false
unfolding clashes_with_l anchor_of
is-neither zero e h = refl
is-neither (suc zero) e h = absurd (e refl)
is-neither (suc (suc zero)) e h = refl
is-neither (suc (suc (suc n))) e h = let z : ⊥ = omega arith in absurd z

stands : (l : Bool) (n : ℕ) → (l ≡ false) ⊎ (n ≡ 2) → (l && clashes_with_l (anchor_of n)) ≡ false
unfolding clashes_with_l anchor_of
stands l n (inl e) = rw e
stands true n (inr e) = rw e
stands false n (inr e) = refl

-- of a pattern no count is given
pub count-given : (q : Quals) → Small q → cond q.pattern 0 q.count ≡ q.count
count-given q small = by q.pattern small.uncounted
  where
    by : (p : Bool) → (p ≡ true → q.count ≡ 0) → cond p 0 q.count ≡ q.count
    by true h = sym (h refl)
    by false h = refl

-- the qualifiers with another anchor, another count, R, and other flags
abbrev set_anchor : Quals → ℕ → Quals
set_anchor q a = record { anchor = a; count = q.count; last = q.last; negated = q.negated; word = q.word; fold = q.fold; skip = q.skip; from = q.from; to = q.to; pattern = q.pattern }

abbrev set_count : Quals → ℕ → Quals
set_count q k = record { anchor = q.anchor; count = k; last = q.last; negated = q.negated; word = q.word; fold = q.fold; skip = q.skip; from = q.from; to = q.to; pattern = q.pattern }

abbrev set_pattern : Quals → Quals
set_pattern q = record { anchor = q.anchor; count = q.count; last = q.last; negated = q.negated; word = q.word; fold = q.fold; skip = q.skip; from = q.from; to = q.to; pattern = true }

abbrev set_flags : Quals → Bool → Bool → Bool → Bool → Bool → Quals
set_flags q l n w u s = record { anchor = q.anchor; count = q.count; last = l; negated = n; word = w; fold = u; skip = s; from = q.from; to = q.to; pattern = q.pattern }

module _ (q : Quals) where
  -- ---- B, E and P

  module _ (anchor : ℕ) where
    pub anchored : (q.anchor ≡ 0 → ⊥) → Adds (add_anchor (anchor_of anchor) (qualifiers_of q)) q (Err Qualifier)
    unfolding add_anchor qualifiers_of unless
    anchored h = clash _ q (rw (not-zero q.anchor h))

    pub counted : Small q → q.anchor ≡ 0 → (q.count ≡ 0 → ⊥) → Adds (add_anchor (anchor_of anchor) (qualifiers_of q)) q (Err Qualifier)
    unfolding add_anchor qualifiers_of unless
    counted small h k = clash _ q (rw (is_zero q.anchor h, count-given q small, ne_eqb q.count 0 k))

    pub with-last : Small q → q.anchor ≡ 0 → q.count ≡ 0 → q.last ≡ true → 1 ≤ anchor → anchor ≤ 3 → (anchor ≡ 2 → ⊥)
        → Adds (add_anchor (anchor_of anchor) (qualifiers_of q)) q (Err Qualifier)
    unfolding add_anchor qualifiers_of unless
    with-last small h k l low high e = clash _ q (rw (is_zero q.anchor h, count-given q small, eq-eqb q.count 0 k, l, not_end anchor low high e))

    pub anchor-now : Small q → q.anchor ≡ 0 → q.count ≡ 0 → (q.last ≡ false) ⊎ (anchor ≡ 2) → anchor ≤ 3
        → Adds (add_anchor (anchor_of anchor) (qualifiers_of q)) q (Ok (set_anchor q anchor))
    unfolding add_anchor qualifiers_of unless
    anchor-now small h k e high =
        now _ q _ (rw (is_zero q.anchor h, count-given q small, eq-eqb q.count 0 k, stands q.last anchor e))
        (λ s. record { fits = record { anchor = high; count = s.fits.count; from = s.fits.from; to = s.fits.to }; uncounted = s.uncounted })

  -- ---- a count

  module _ (count : ℕ) where
    pub count-anchored : (q.anchor ≡ 0 → ⊥) → Adds (add_count count (qualifiers_of q)) q (Err Qualifier)
    unfolding add_count qualifiers_of unless
    count-anchored h = clash _ q (rw (not-zero q.anchor h))

    pub count-pattern : q.anchor ≡ 0 → q.pattern ≡ true → Adds (add_count count (qualifiers_of q)) q (Err Qualifier)
    unfolding add_count qualifiers_of unless
    count-pattern h p = clash _ q (rw (is_zero q.anchor h, p))

    module _ (no-anchor : q.anchor ≡ 0) (no_pattern : q.pattern ≡ false) where
      pub count-counted : (q.count ≡ 0 → ⊥) → Adds (add_count count (qualifiers_of q)) q (Err Qualifier)
      unfolding add_count qualifiers_of unless
      count-counted k = clash _ q (rw (is_zero q.anchor no-anchor, no_pattern, ne_eqb q.count 0 k))

      pub count-now : q.count ≡ 0 → count ≤ 65535 → Adds (add_count count (qualifiers_of q)) q (Ok (set_count q count))
      unfolding add_count qualifiers_of unless
      count-now k high =
          now _ q _ (rw (is_zero q.anchor no-anchor, no_pattern, eq-eqb q.count 0 k))
          (λ s. record { fits = record { anchor = s.fits.anchor; count = high; from = s.fits.from; to = s.fits.to }; uncounted = λ p. absurd (false≢true (sym no_pattern ∙ p)) })

  -- ---- flags

  flags-small : (l n w u s : Bool) → Small q → Small (set_flags q l n w u s)
  flags-small l n w u s h = record {
    fits = record { anchor = h.fits.anchor; count = h.fits.count; from = h.fits.from; to = h.fits.to };
    uncounted = h.uncounted;
  }

  pub last-twice : q.last ≡ true → Adds (add_l (qualifiers_of q)) q (Err Qualifier)
  unfolding add_l qualifiers_of unless
  last-twice h = clash _ q (rw h)

  pub last-at-start : q.last ≡ false → q.anchor ≡ 1 → Adds (add_l (qualifiers_of q)) q (Err Qualifier)
  unfolding add_l qualifiers_of unless
  last-at-start h e = clash _ q (rw (h, is-start q.anchor e))

  pub last-whole : q.last ≡ false → 2 < q.anchor → Adds (add_l (qualifiers_of q)) q (Err Qualifier)
  unfolding add_l qualifiers_of unless
  last-whole h e = clash _ q (rw (h, is_whole q.anchor e))

  pub last-now : q.last ≡ false → (q.anchor ≡ 1 → ⊥) → q.anchor ≤ 2
      → Adds (add_l (qualifiers_of q)) q (Ok (set_flags q true q.negated q.word q.fold q.skip))
  unfolding add_l qualifiers_of unless
  last-now h e k = now _ q _ (rw (h, is-neither q.anchor e k)) (flags-small _ _ _ _ _)

  pub negated-twice : (i : Bool) → q.negated ≡ true → Adds (add_n i (qualifiers_of q)) q (Err Qualifier)
  unfolding add_n qualifiers_of unless
  negated-twice i h = clash _ q (rw h)

  pub negated-outside : (i : Bool) → q.negated ≡ false → i ≡ false → Adds (add_n i (qualifiers_of q)) q (Err Qualifier)
  unfolding add_n qualifiers_of unless
  negated-outside i h e = clash _ q (rw (h, e))

  pub negated-now : (i : Bool) → q.negated ≡ false → i ≡ true
      → Adds (add_n i (qualifiers_of q)) q (Ok (set_flags q q.last true q.word q.fold q.skip))
  unfolding add_n qualifiers_of unless
  negated-now i h e = now _ q _ (rw (h, e)) (flags-small _ _ _ _ _)

  pub word-twice : q.word ≡ true → Adds (add_w (qualifiers_of q)) q (Err Qualifier)
  unfolding add_w qualifiers_of unless
  word-twice h = clash _ q (rw h)

  pub word-now : q.word ≡ false → Adds (add_w (qualifiers_of q)) q (Ok (set_flags q q.last q.negated true q.fold q.skip))
  unfolding add_w qualifiers_of unless
  word-now h = now _ q _ (rw h) (flags-small _ _ _ _ _)

  pub fold-twice : q.fold ≡ true → Adds (add_u (qualifiers_of q)) q (Err Qualifier)
  unfolding add_u qualifiers_of unless
  fold-twice h = clash _ q (rw h)

  pub fold-pattern : q.fold ≡ false → q.pattern ≡ true → Adds (add_u (qualifiers_of q)) q (Err Qualifier)
  unfolding add_u qualifiers_of unless
  fold-pattern h p = clash _ q (rw (h, p))

  pub fold-now : q.fold ≡ false → q.pattern ≡ false → Adds (add_u (qualifiers_of q)) q (Ok (set_flags q q.last q.negated q.word true q.skip))
  unfolding add_u qualifiers_of unless
  fold-now h p = now _ q _ (rw (h, p)) (flags-small _ _ _ _ _)

  pub skip-twice : q.skip ≡ true → Adds (add_s (qualifiers_of q)) q (Err Qualifier)
  unfolding add_s qualifiers_of unless
  skip-twice h = clash _ q (rw h)

  pub skip-now : q.skip ≡ false → Adds (add_s (qualifiers_of q)) q (Ok (set_flags q q.last q.negated q.word q.fold true))
  unfolding add_s qualifiers_of unless
  skip-now h = now _ q _ (rw h) (flags-small _ _ _ _ _)

  -- ---- R

  pub pattern-twice : q.pattern ≡ true → Adds (add_r (qualifiers_of q)) q (Err Qualifier)
  unfolding add_r qualifiers_of unless
  pattern-twice p = clash _ q (rw p)

  module _ (once : q.pattern ≡ false) where
    pub pattern-folded : q.fold ≡ true → Adds (add_r (qualifiers_of q)) q (Err Qualifier)
    unfolding add_r qualifiers_of unless
    pattern-folded h = clash _ q (rw (once, h))

    pub pattern-counted : q.fold ≡ false → (q.count ≡ 0 → ⊥) → Adds (add_r (qualifiers_of q)) q (Err Qualifier)
    unfolding add_r qualifiers_of unless
    pattern-counted h k = clash _ q (rw (once, h, ne_eqb q.count 0 k))

    pub pattern-now : q.fold ≡ false → q.count ≡ 0 → Adds (add_r (qualifiers_of q)) q (Ok (set_pattern q))
    unfolding add_r qualifiers_of unless
    pattern-now h k = now _ q _ (rw (once, h, k)) (λ s. record {
      fits = record { anchor = s.fits.anchor; count = s.fits.count; from = s.fits.from; to = s.fits.to };
      uncounted = λ p. k;
    })

  -- ---- the letters

  module _ (i : Bool) (b : ℕ) (r : Result Quals Fault) where
    -- where the letter is known, its clause of the definition is an addition
    letter : (x : Option Qualifiers) → ((c : Cursor) → read_qualifier i (qualifiers_of q) c (letter_of b) ≡ added (place_at c) x (after_byte c))
        → Adds x q r → AddsAt (λ c. read_qualifier i (qualifiers_of q) c (letter_of b)) q r
    letter x e a = record { is = λ c. a.is (place_at c) (after_byte c) ∙ sym (e c); small = a.small }

    pub letter-B : b ≡ 66 → Adds (add_anchor (anchor_of 1) (qualifiers_of q)) q r → AddsAt (λ c. read_qualifier i (qualifiers_of q) c (letter_of b)) q r
    unfolding read_qualifier letter_of anchor_of
    letter-B e = letter _ (λ c. rw e)

    pub letter-E : b ≡ 69 → Adds (add_anchor (anchor_of 2) (qualifiers_of q)) q r → AddsAt (λ c. read_qualifier i (qualifiers_of q) c (letter_of b)) q r
    unfolding read_qualifier letter_of anchor_of
    letter-E e = letter _ (λ c. rw e)

    pub letter-P : b ≡ 80 → Adds (add_anchor (anchor_of 3) (qualifiers_of q)) q r → AddsAt (λ c. read_qualifier i (qualifiers_of q) c (letter_of b)) q r
    unfolding read_qualifier letter_of anchor_of
    letter-P e = letter _ (λ c. rw e)

    pub letter-L : b ≡ 76 → Adds (add_l (qualifiers_of q)) q r → AddsAt (λ c. read_qualifier i (qualifiers_of q) c (letter_of b)) q r
    unfolding read_qualifier letter_of
    letter-L e = letter _ (λ c. rw e)

    pub letter-N : b ≡ 78 → Adds (add_n i (qualifiers_of q)) q r → AddsAt (λ c. read_qualifier i (qualifiers_of q) c (letter_of b)) q r
    unfolding read_qualifier letter_of
    letter-N e = letter _ (λ c. rw e)

    pub letter-W : b ≡ 87 → Adds (add_w (qualifiers_of q)) q r → AddsAt (λ c. read_qualifier i (qualifiers_of q) c (letter_of b)) q r
    unfolding read_qualifier letter_of
    letter-W e = letter _ (λ c. rw e)

    pub letter-U : b ≡ 85 → Adds (add_u (qualifiers_of q)) q r → AddsAt (λ c. read_qualifier i (qualifiers_of q) c (letter_of b)) q r
    unfolding read_qualifier letter_of
    letter-U e = letter _ (λ c. rw e)

    pub letter-S : b ≡ 83 → Adds (add_s (qualifiers_of q)) q r → AddsAt (λ c. read_qualifier i (qualifiers_of q) c (letter_of b)) q r
    unfolding read_qualifier letter_of
    letter-S e = letter _ (λ c. rw e)

    pub letter-R : b ≡ 82 → Adds (add_r (qualifiers_of q)) q r → AddsAt (λ c. read_qualifier i (qualifiers_of q) c (letter_of b)) q r
    unfolding read_qualifier letter_of
    letter-R e = letter _ (λ c. rw e)

  pub letter-other : (i : Bool) (b : ℕ) → (b ≡ 66 → ⊥) → (b ≡ 69 → ⊥) → (b ≡ 80 → ⊥) → (b ≡ 76 → ⊥) → (b ≡ 78 → ⊥) → (b ≡ 87 → ⊥) → (b ≡ 85 → ⊥) → (b ≡ 83 → ⊥) → (b ≡ 82 → ⊥)
      → AddsAt (λ c. read_qualifier i (qualifiers_of q) c (letter_of b)) q (Err Argument)
  unfolding read_qualifier letter_of added_of SmallAdded
  letter-other i b nB nE nP nL nN nW nU nS nR =
      record {
        is = λ c. rw (ne_eqb b 66 nB, ne_eqb b 69 nE, ne_eqb b 80 nP, ne_eqb b 76 nL, ne_eqb b 78 nN, ne_eqb b 87 nW, ne_eqb b 85 nU, ne_eqb b 83 nS, ne_eqb b 82 nR);
        small = λ h. tt;
      }
