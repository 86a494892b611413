-- Laws of characters, ranges and mismatches, one for each way out. Assumes nothing.
use Rattle.std.specs.Prelude.{Ok, Err}
use mathlib.Core.Path.{◌≡◌, refl, ◌∙◌}
use mathlib.Core.Bool.{Bool, true, false, ◌||◌, or_assoc}
use mathlib.Core.List.{List}
use Prim.Native.Nat.{ℕ, zero, suc, ◌+◌, ◌≤◌, ◌<◌}
use native.Mathlib.Omega.{arith}
use lib.ListN.{length, get_or}
use borrow.Author.Tests.{ne_eqb, lt-leb}
use Rattle.std.specs.Char.{is_ascii_alphanumeric}
use Rattle.definitions.specs.Bytes.{is_digit, is_letter, is_capital, is_small}
use Rattle.definitions.specs.WordSet.{Named, byte, quoted_byte, range, is_range}
use Rattle.definitions.specs.Reader.{Got, got, place_at, is_next}
use Rattle.definitions.specs.Patterns.{Pattern, one_byte, is_sign, is_blank, cannot_stand, range_end, after_plain, after_quote, read_character, read_single}
use Rattle.text.specs.Cursors.{cursor_at}
use Rattle.text.proofs.Cursors.{next-end, next-in, after-in}
use Rattle.patterns.specs.Reading.{Found, past-to, fault-at, Reads, ReadsEither}
use Rattle.patterns.proofs.Answering.{same_reads}
use Rattle.patterns.proofs.Places.{at-end, none-next, not_end, is-next, next-within}

-- one byte of the line is named
one_byte_lem : {x : Got Pattern} (s : List ℕ) {least : ℕ} (next : ℕ) (mismatch : Bool) (named : Named) → x ≡ got (one_byte mismatch named) (cursor_at s next)
    → least ≤ next → next ≤ length s → Reads s least x (Ok (past-to next false))
unfolding is_blank
one_byte_lem s next mismatch named e low high = Reads.past next false (record { pattern = one_byte mismatch named; is = e; same = refl; after = low; within = high })

-- ---- the last byte of a range

-- 0 is no range's last byte
no_range : (a : ℕ) → is_range a 0 ≡ false
unfolding is_range is_digit is_capital is_small
no_range zero = refl
no_range (suc a) = rw (lt-leb (suc a) 0 (omega arith))

-- what begins a range
pub begins-range : (a : ℕ) → is_ascii_alphanumeric a ≡ (is_digit a || is_letter a)
unfolding is_digit is_letter is_capital is_small
begins-range a = or_assoc (is_digit a) (is_capital a) (is_small a)

module _ (s : List ℕ) (at a : ℕ) where
  pub range_none : length s ≤ at → ReadsEither s at (λ mismatch. range_end mismatch a (cursor_at s at)) (Err (fault-at at))
  unfolding range_end cannot_stand place_at
  range_none h mismatch = Reads.fault at (rw (next-end s at h, no_range a))

  module _ (h : at < length s) where
    pub range-is : is_range a (get_or s at 0) ≡ true → ReadsEither s at (λ mismatch. range_end mismatch a (cursor_at s at)) (Ok (past-to (at + 1) false))
    unfolding range_end
    range-is e mismatch = one_byte_lem s (at + 1) mismatch (range a (get_or s at 0)) (rw (next-in s at h, e, after-in s at h)) (omega arith) (omega arith)

    pub range_other : is_range a (get_or s at 0) ≡ false → ReadsEither s at (λ mismatch. range_end mismatch a (cursor_at s at)) (Err (fault-at at))
    unfolding range_end cannot_stand place_at
    range_other e mismatch = Reads.fault at (rw (next-in s at h, e))

  -- ---- after a byte that is not quoted

  pub plain-alone : at ≤ length s → is_next 45 (cursor_at s at) ≡ false → ReadsEither s at (λ mismatch. after_plain mismatch a (cursor_at s at)) (Ok (past-to at false))
  unfolding after_plain
  plain-alone h e mismatch = one_byte_lem s at mismatch (byte a) (rw e) (omega arith) h

  module _ (minus : is_next 45 (cursor_at s at) ≡ true) where
    minus-within : at < length s
    minus-within = next-within s at 45 (omega arith) minus

    pub plain-no-range : (is_digit a || is_letter a) ≡ false → ReadsEither s at (λ mismatch. after_plain mismatch a (cursor_at s at)) (Ok (past-to at false))
    unfolding after_plain
    plain-no-range e mismatch = one_byte_lem s at mismatch (byte a) (rw (minus, e)) (omega arith) (omega (arith, minus-within))

    pub plain-range : (is_digit a || is_letter a) ≡ true → {r : Found} → ReadsEither s (at + 1) (λ mismatch. range_end mismatch a (cursor_at s (at + 1))) r
        → ReadsEither s at (λ mismatch. after_plain mismatch a (cursor_at s at)) r
    unfolding after_plain
    plain-range e read mismatch = same_reads (read mismatch) (omega arith) (rw (minus, e, after-in s at minus-within))

-- ---- after a quote

module _ (s : List ℕ) (at : ℕ) where
  pub quote-none : length s ≤ at → ReadsEither s at (λ mismatch. after_quote mismatch (cursor_at s at)) (Err (fault-at at))
  unfolding after_quote cannot_stand place_at
  quote-none h mismatch = Reads.fault at (rw (at-end s at h))

  pub quote-some : at < length s → ReadsEither s at (λ mismatch. after_quote mismatch (cursor_at s at)) (Ok (past-to (at + 1) false))
  unfolding after_quote
  quote-some h mismatch = one_byte_lem s (at + 1) mismatch (quoted_byte (get_or s at 0)) (rw (not_end s at h, next-in s at h, after-in s at h)) (omega arith) (omega arith)

  -- ---- a character or a range

  pub character-none : length s ≤ at → ReadsEither s (suc at) (λ mismatch. read_character mismatch (cursor_at s at)) (Err (fault-at at))
  unfolding read_character cannot_stand place_at
  character-none h mismatch = Reads.fault at (rw (none-next s at h 34 (omega arith), at-end s at h))

  module _ (h : at < length s) where
    pub character-quoted : get_or s at 0 ≡ 34 → {r : Found} → ReadsEither s (at + 1) (λ mismatch. after_quote mismatch (cursor_at s (at + 1))) r
        → ReadsEither s (suc at) (λ mismatch. read_character mismatch (cursor_at s at)) r
    unfolding read_character
    character-quoted e read mismatch = same_reads (read mismatch) (omega arith) (rw (is-next s at h 34, e, after-in s at h))

    module _ (no-quote : get_or s at 0 ≡ 34 → ⊥) where
      not-quoted : is_next 34 (cursor_at s at) ≡ false
      not-quoted = is-next s at h 34 ∙ ne_eqb 34 (get_or s at 0) (λ e. no-quote (omega (arith, e)))

      pub character-sign : is_sign (get_or s at 0) ≡ true → ReadsEither s (suc at) (λ mismatch. read_character mismatch (cursor_at s at)) (Err (fault-at at))
      unfolding read_character cannot_stand place_at
      character-sign e mismatch = Reads.fault at (rw (not-quoted, not_end s at h, next-in s at h, e))

      pub character-plain : is_sign (get_or s at 0) ≡ false → {r : Found}
          → ReadsEither s (at + 1) (λ mismatch. after_plain mismatch (get_or s at 0) (cursor_at s (at + 1))) r
          → ReadsEither s (suc at) (λ mismatch. read_character mismatch (cursor_at s at)) r
      unfolding read_character
      character-plain e read mismatch =
          same_reads (read mismatch) (omega arith) (rw (not-quoted, not_end s at h, next-in s at h, e, after-in s at h))

  -- ---- perhaps with a tilde before it

  module _ (tilde : is_next 126 (cursor_at s at) ≡ true) where
    tilde-within : at < length s
    tilde-within = next-within s at 126 (omega arith) tilde

    pub single-mismatch : {r : Found} → ReadsEither s (suc (at + 1)) (λ mismatch. read_character mismatch (cursor_at s (at + 1))) r
        → Reads s (suc at) (read_single (cursor_at s at)) r
    unfolding read_single
    single-mismatch read = same_reads (read true) (omega arith) (rw (tilde, after-in s at tilde-within))

  pub single-match : is_next 126 (cursor_at s at) ≡ false → {r : Found} → ReadsEither s (suc at) (λ mismatch. read_character mismatch (cursor_at s at)) r
      → Reads s (suc at) (read_single (cursor_at s at)) r
  unfolding read_single
  single-match e read = same_reads (read false) (omega arith) (rw e)
