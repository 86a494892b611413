-- The words of a string are read as that string. Assumes nothing.
use mathlib.Core.Path.{◌≡◌, refl, sym, ap, ap₂, ◌∙◌}
use mathlib.Core.Logic.{◌⊎◌, inl, inr, ⊎_elim}
use mathlib.Core.Bool.{Bool, true, false, cond, false≢true}
use mathlib.Core.List.{List}
use Prim.Native.Nat.{ℕ, zero, suc, ◌+◌, ◌*◌, ◌/◌, ◌%◌, ◌≤◌, ◌<◌}
use native.Mathlib.Nat.{not-suc-le-zero, add-zero, zero-add}
use native.Mathlib.Omega.{arith}
use lib.ListN.{length, drop, get_or}
use lib.Seq.{get_or-take, get_or-drop}
use Rattle.definitions.specs.Bytes.{Line}
use Rattle.definitions.specs.Matching.{Anchor, Columns, all_columns, columns, qualifiers, Qualified, qualified}
use Rattle.definitions.specs.Patterns.{Pattern}
use Rattle.definitions.specs.Search.{one}
use Rattle.marks.specs.Sweeping.{Reads}
use Rattle.leads.specs.Leading.{leads_of}
use Rattle.matching.specs.Quals.{columns_of, qualifiers_of, lead_number, Formed}
use Rattle.matching.specs.Words.{anchor_number, bit_of, are_given, flags_of, first_word, second_word, columns_in, column_words, string_words, led_by, led_of, IsFormed, AreColumns, Lies, Leaf, Encodes, flags_at, start_at, length_at, columns_at, quals_at, string_at, end_at, Readable}
use Rattle.matching.proofs.Words.{no-columns, some-columns, ends-soon, ends-late, anchor-small, anchor-back, bit-small, bit-back, Parts, parts}

lies_at : (words : List ℕ) (k m : ℕ) (ws : List ℕ) → Lies words k m ws → (i : ℕ) → i < length ws → get_or words (k + i) 0 ≡ get_or ws i 0
lies_at words k m ws h i less =
    sym (get_or-drop k words i 0) ∙ sym (get_or-take (length ws) (drop k words) i 0 less) ∙ ap (λ (l : List ℕ). get_or l i 0) h.same

flag-parts : (a : Anchor) (count : ℕ) (l n w u s : Bool) (c : Columns) (r : Bool)
    → Parts (flags_of (qualifiers a count l n w u s c r)) (anchor_number a) (bit_of l) (bit_of n) (bit_of w) (bit_of u) (bit_of s) (bit_of (are_given c)) (bit_of r)
unfolding flags_of
flag-parts a count l n w u s c r =
    parts _ (anchor_number a) (bit_of l) (bit_of n) (bit_of w) (bit_of u) (bit_of s) (bit_of (are_given c)) (bit_of r)
    (anchor-small a) (bit-small l) (bit-small n) (bit-small w) (bit-small u) (bit-small s) (bit-small (are_given c)) (bit-small r) refl

-- the columns are given in a word of their own, or not at all
which : (c : Columns) → ((bit_of (are_given c) ≡ 0) × (length (column_words c) ≡ 0)) ⊎ ((bit_of (are_given c) ≡ 1) × (length (column_words c) ≡ 1))
unfolding bit_of are_given column_words
which all_columns = inl (refl, refl)
which (columns n m) = inr (refl, refl)

columns_of_lem : (n m : ℕ) → 0 < n → columns_of n m ≡ columns n m
unfolding columns_of
columns_of_lem zero m h = absurd (not-suc-le-zero h)
columns_of_lem (suc n) m h = refl

split : (n m x : ℕ) → 0 < n → n < 65536 → x ≡ n + 65536 * m → columns_of (x % 65536) (x / 65536) ≡ columns n m
split n m x pos less e =
    let low : x % 65536 ≡ n = omega arith in
    let high : x / 65536 ≡ m = omega arith in
    rw (low, high) (columns_of_lem n m pos)

columns-back : (words : List ℕ) (k : ℕ) (c : Columns) → AreColumns c → flags_at words k / 128 % 2 ≡ bit_of (are_given c)
    → (0 < length (column_words c) → get_or words (k + 2) 0 ≡ get_or (column_words c) 0 0)
    → columns_of (columns_at words k % 65536) (columns_at words k / 65536) ≡ c
unfolding AreColumns bit_of are_given column_words columns_of
columns-back words k all_columns ok bit third = rw (no-columns words k bit)
columns-back words k (columns n m) ok bit third =
    split n m (columns_at words k) ok.0 ok.1 (some-columns words k (λ e. omega (arith, e, bit)) ∙ third (omega arith))

-- the number beside the length: the count, or what a pattern's matches can begin with
module _ (a : Anchor) (count : ℕ) (l n w u s : Bool) (c : Columns) (line : Line) (x : ℕ) where
  count-back : (r : Bool) → IsFormed (qualifiers a count l n w u s c r) line → x ≡ count + led_of (qualifiers a count l n w u s c r) line → cond r 0 x ≡ count
  unfolding IsFormed led_of
  count-back true formed e = sym formed.0
  count-back false formed e = e ∙ add-zero count

  number-back : (r : Bool) → IsFormed (qualifiers a count l n w u s c r) line → x ≡ count + led_of (qualifiers a count l n w u s c r) line → r ≡ true
      → (pat : Pattern) × Reads line pat × (x ≡ lead_number (leads_of pat))
  unfolding IsFormed led_of led_by
  number-back true formed e given = (formed.1, formed.2, e ∙ ap₂ ◌+◌ formed.0 (ap led_by formed.2) ∙ zero-add (lead_number (leads_of formed.1)))
  number-back false formed e given = absurd (false≢true given)

-- the numbers that are read from words which lie there
module _ (script words : List ℕ) (k m : ℕ) (a : Anchor) (count : ℕ) (l n w u s : Bool) (c : Columns) (r : Bool) (line : Line)
    (leaf : Leaf script words k m (qualifiers a count l n w u s c r) line) where
  first : get_or words k 0 ≡ 4 * (flags_of (qualifiers a count l n w u s c r) + 512 * leaf.start)
  unfolding string_words first_word
  first =
      ap (λ (i : ℕ). get_or words i 0) (sym (add-zero k)) ∙ lies_at words k m (string_words (qualifiers a count l n w u s c r) leaf.start leaf.len (led_of (qualifiers a count l n w u s c r) line)) leaf.lies 0 (omega arith)

  second : get_or words (k + 1) 0 ≡ leaf.len + 256 * (count + led_of (qualifiers a count l n w u s c r) line)
  unfolding string_words second_word
  second = lies_at words k m (string_words (qualifiers a count l n w u s c r) leaf.start leaf.len (led_of (qualifiers a count l n w u s c r) line)) leaf.lies 1 (omega arith)

  whole-flags : Parts (flags_of (qualifiers a count l n w u s c r)) (anchor_number a) (bit_of l) (bit_of n) (bit_of w) (bit_of u) (bit_of s) (bit_of (are_given c)) (bit_of r)
  whole-flags = flag-parts a count l n w u s c r

  flags : flags_at words k ≡ flags_of (qualifiers a count l n w u s c r)
  unfolding flags_at
  flags = omega (arith, first, whole-flags.small)

  starts : start_at words k ≡ leaf.start
  unfolding start_at
  starts = omega (arith, first, whole-flags.small)

  lengths : length_at words k ≡ leaf.len
  unfolding length_at
  lengths = omega (arith, second, leaf.short)

  counts : get_or words (k + 1) 0 / 256 ≡ count + led_of (qualifiers a count l n w u s c r) line
  counts = omega (arith, second, leaf.short)

  read : Parts (flags_at words k) (anchor_number a) (bit_of l) (bit_of n) (bit_of w) (bit_of u) (bit_of s) (bit_of (are_given c)) (bit_of r)
  read = rw flags whole-flags

  third : 0 < length (column_words c) → get_or words (k + 2) 0 ≡ get_or (column_words c) 0 0
  unfolding string_words columns_in
  third h = lies_at words k m (string_words (qualifiers a count l n w u s c r) leaf.start leaf.len (led_of (qualifiers a count l n w u s c r) line)) leaf.lies 2 (omega (arith, h))

  columned : AreColumns c
  unfolding columns_in
  columned = leaf.columned

  ended : (m ≡ k + suc (suc (length (column_words c)))) × (m ≤ length words)
  unfolding string_words columns_in
  ended = (leaf.lies.ends, leaf.lies.room)

  quals-back : qualifiers_of (quals_at words k) ≡ qualifiers a count l n w u s c r
  unfolding qualifiers_of quals_at
  quals-back =
      rw (
        anchor-back a (flags_at words k % 4) read.p0,
        bit-back r (flags_at words k / 256) read.p7,
        count-back a count l n w u s c line (get_or words (k + 1) 0 / 256) r leaf.formed counts,
        bit-back l (flags_at words k / 4 % 2) read.p1,
        bit-back n (flags_at words k / 8 % 2) read.p2,
        bit-back w (flags_at words k / 16 % 2) read.p3,
        bit-back u (flags_at words k / 32 % 2) read.p4,
        bit-back s (flags_at words k / 64 % 2) read.p5,
        columns-back words k c columned read.p6 third,
      )

  string-back : string_at script words k ≡ qualified (qualifiers a count l n w u s c r) line
  unfolding string_at
  string-back = rw (quals-back, lengths, starts, ← leaf.string)

  formed-back : Formed (quals_at words k) line
  unfolding quals_at
  formed-back given =
      number-back a count l n w u s c line (get_or words (k + 1) 0 / 256) r leaf.formed counts (sym (bit-back r (flags_at words k / 256) read.p7) ∙ given)

  readable : Readable script words k
  readable = record {
    quals = (omega (arith, ended), λ h. ⊎_elim (λ x. absurd (omega (arith, h, read.p6, x.0))) (λ x. omega (arith, ended, x.1)) (which c));
    string = omega (arith, starts, lengths, leaf.inside);
    formed = rw (lengths, starts, ← leaf.string) formed-back;
  }

  end_back : end_at words k ≡ m
  end_back =
      ⊎_elim (λ x. omega (arith, ends-soon words k (read.p6 ∙ x.0), ended, x.1)) (λ x. omega (arith, ends-late words k (λ e. omega (arith, e, read.p6, x.0)), ended, x.1)) (which c)

  kind-back : get_or words k 0 % 4 ≡ 0
  kind-back = omega (arith, first)

  ahead : (k < m) × (m ≤ length words)
  ahead = omega (arith, ended)

-- what lies in the words as one string is read as that string
pub record ReadsAs (script words : List ℕ) (k m : ℕ) (q : Qualified) : Type 0 where
  pub fits : Readable script words k
  pub string : string_at script words k ≡ q
  pub ends : end_at words k ≡ m
  pub kind : get_or words k 0 % 4 ≡ 0
  pub forward : k < m
  pub room : m ≤ length words

pub one-reads : (script words : List ℕ) (k m : ℕ) (q : Qualified) → Encodes script words k m (one q) → ReadsAs script words k m q
unfolding Encodes
one-reads script words k m (qualified (qualifiers a count l n w u s c r) line) leaf = record {
  fits = readable script words k m a count l n w u s c r line leaf;
  string = string-back script words k m a count l n w u s c r line leaf;
  ends = end_back script words k m a count l n w u s c r line leaf;
  kind = kind-back script words k m a count l n w u s c r line leaf;
  forward = (ahead script words k m a count l n w u s c r line leaf).0;
  room = (ahead script words k m a count l n w u s c r line leaf).1;
}
