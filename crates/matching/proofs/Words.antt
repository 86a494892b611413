-- Laws of reading the words of a qualified string. Assumes nothing.
use mathlib.Core.Path.{◌≡◌}
use mathlib.Core.Bool.{Bool, true, false}
use mathlib.Core.List.{List}
use Prim.Native.Nat.{ℕ, ◌+◌, ◌-◌, ◌*◌, ◌/◌, ◌%◌, ◌≤◌, ◌<◌}
use native.Mathlib.Omega.{arith}
use lib.ListN.{length, take, drop, get_or, length-take}
use lib.Dec.{eqb}
use borrow.Author.Tests.{eq-eqb, ne_eqb}
use Rattle.definitions.specs.Matching.{Anchor, anywhere, at_start, at_end, precisely, qualified, matches}
use Rattle.matching.specs.Quals.{anchor_of, qualifiers_of, Formed}
use Rattle.matching.specs.Words.{anchor_number, bit_of, flags_at, start_at, length_at, columns_at, quals_at, string_at, end_at, onward}
use Rattle.matching.specs.declared.Quals.{Quals}

-- ---- what the code reads

module _ (words : List ℕ) (k : ℕ) where
  pub no-columns : flags_at words k / 128 % 2 ≡ 0 → columns_at words k ≡ 0
  unfolding columns_at
  no-columns h = rw (eq-eqb (flags_at words k / 128 % 2) 0 h)

  pub some-columns : (flags_at words k / 128 % 2 ≡ 0 → ⊥) → columns_at words k ≡ get_or words (k + 2) 0
  unfolding columns_at
  some-columns h = rw (ne_eqb (flags_at words k / 128 % 2) 0 h)

  pub ends-soon : flags_at words k / 128 % 2 ≡ 0 → end_at words k ≡ k + 2
  unfolding end_at
  ends-soon h = rw (eq-eqb (flags_at words k / 128 % 2) 0 h)

  pub ends-late : (flags_at words k / 128 % 2 ≡ 0 → ⊥) → end_at words k ≡ k + 3
  unfolding end_at
  ends-late h = rw (ne_eqb (flags_at words k / 128 % 2) 0 h)

  module _ (truth : Bool) where
    pub and-on : get_or words k 0 % 4 ≡ 1 → truth ≡ true → onward words k truth ≡ k + 1
    unfolding onward
    and-on e f = rw (eq-eqb (get_or words k 0 % 4) 1 e, f)

    pub and-past : get_or words k 0 % 4 ≡ 1 → truth ≡ false → onward words k truth ≡ get_or words k 0 / 4
    unfolding onward
    and-past e f = rw (eq-eqb (get_or words k 0 % 4) 1 e, f)

    pub or-past : (get_or words k 0 % 4 ≡ 1 → ⊥) → truth ≡ true → onward words k truth ≡ get_or words k 0 / 4
    unfolding onward
    or-past e f = rw (ne_eqb (get_or words k 0 % 4) 1 e, f)

    pub or-on : (get_or words k 0 % 4 ≡ 1 → ⊥) → truth ≡ false → onward words k truth ≡ k + 1
    unfolding onward
    or-on e f = rw (ne_eqb (get_or words k 0 % 4) 1 e, f)

  pub read-quals : (c : ℕ) → c ≡ columns_at words k → ◌≡◌ {A = Quals} (record {
    anchor = get_or words k 0 / 4 % 512 % 4;
    count = get_or words (k + 1) 0 / 256;
    last = eqb (get_or words k 0 / 4 % 512 / 4 % 2) 1;
    negated = eqb (get_or words k 0 / 4 % 512 / 8 % 2) 1;
    word = eqb (get_or words k 0 / 4 % 512 / 16 % 2) 1;
    fold = eqb (get_or words k 0 / 4 % 512 / 32 % 2) 1;
    skip = eqb (get_or words k 0 / 4 % 512 / 64 % 2) 1;
    from = c % 65536;
    to = c / 65536;
    pattern = eqb (get_or words k 0 / 4 % 512 / 256) 1;
  }) (quals_at words k)
  unfolding quals_at flags_at
  read-quals c e = rw e

  module _ (script : List ℕ) (q : Quals) (start len : ℕ) (is : q ≡ quals_at words k) (starts : start ≡ start_at words k) (lengths : len ≡ length_at words k) where
    whole : start + len - start ≡ len
    whole = omega arith

    read-string : qualified (qualifiers_of q) (take (start + len - start) (drop start script)) ≡ string_at script words k
    unfolding string_at
    read-string = rw (whole, is, starts, lengths)

    pub read-matches : (isWord : ℕ → Bool) (l : List ℕ) (p : ℕ) → matches isWord (qualified (qualifiers_of q) (take (start + len - start) (drop start script))) p l ≡ matches isWord (string_at script words k) p l
    read-matches isWord l p = rw read-string

    pub read-formed : Formed (quals_at words k) (take (length_at words k) (drop (start_at words k) script)) → Formed q (take (start + len - start) (drop start script))
    read-formed formed = rw (whole, is, starts, lengths) formed

    pub read_short : length (take (start + len - start) (drop start script)) ≤ 255
    unfolding length_at
    read_short = rw (whole, length-take len (drop start script)) (omega (arith, lengths))

-- ---- what the words of a string are read as

pub anchor-small : (a : Anchor) → anchor_number a < 4
unfolding anchor_number
anchor-small anywhere = omega arith
anchor-small at_start = omega arith
anchor-small at_end = omega arith
anchor-small precisely = omega arith

pub anchor-back : (a : Anchor) (n : ℕ) → n ≡ anchor_number a → anchor_of n ≡ a
unfolding anchor_number anchor_of
anchor-back anywhere n e = rw e
anchor-back at_start n e = rw e
anchor-back at_end n e = rw e
anchor-back precisely n e = rw e

pub bit-small : (b : Bool) → bit_of b < 2
unfolding bit_of
bit-small true = omega arith
bit-small false = omega arith

pub bit-back : (b : Bool) (n : ℕ) → n ≡ bit_of b → eqb n 1 ≡ b
unfolding bit_of
bit-back true n e = rw e
bit-back false n e = rw e

-- the parts of a sum of bits
pub record Parts (x a b c d e f g h : ℕ) : Type 0 where
  pub small : x < 512
  pub p0 : x % 4 ≡ a
  pub p1 : x / 4 % 2 ≡ b
  pub p2 : x / 8 % 2 ≡ c
  pub p3 : x / 16 % 2 ≡ d
  pub p4 : x / 32 % 2 ≡ e
  pub p5 : x / 64 % 2 ≡ f
  pub p6 : x / 128 % 2 ≡ g
  pub p7 : x / 256 ≡ h

pub parts : (x a b c d e f g h : ℕ) → a < 4 → b < 2 → c < 2 → d < 2 → e < 2 → f < 2 → g < 2 → h < 2
    → x ≡ a + 4 * b + 8 * c + 16 * d + 32 * e + 64 * f + 128 * g + 256 * h → Parts x a b c d e f g h
parts x a b c d e f g h ha hb hc hd he hf hg hh is = record {
  small = omega arith;
  p0 = omega arith;
  p1 = omega arith;
  p2 = omega arith;
  p3 = omega arith;
  p4 = omega arith;
  p5 = omega arith;
  p6 = omega arith;
  p7 = omega arith;
}
