-- Laws of reading all qualifiers of a string: the loop up to the opening delimiter. Assumes nothing.
use mathlib.Core.Path.{◌≡◌, refl, ◌∙◌}
use mathlib.Core.Bool.{Bool, true, false}
use mathlib.Core.List.{List}
use Prim.Native.Nat.{ℕ, zero, suc, ◌-◌, ◌≤◌, ◌<◌}
use native.Mathlib.Omega.{arith}
use native.Mathlib.Nat.{not-suc-le-zero}
use native.Mathlib.Numerals.{sub-one}
use lib.ListN.{length, length-drop}
use Rattle.definitions.specs.Matching.{Qualifiers}
use Rattle.definitions.specs.Reader.{Cursor, got, refused, bytes_left, next_byte, skip_spaces, is_delimiter}
use Rattle.definitions.specs.Strings.{no_qualifiers, qualifier_byte, read_qualifier, read_qualifiers, start_qualifiers}
use Rattle.matching.specs.declared.Quals.{Quals}
use Rattle.matching.specs.Quals.{plain, qualifiers_of}
use Rattle.matching.proofs.Plain.{plain-none}
use Rattle.answers.specs.Answers.{read_as}
use Rattle.lexer.specs.Places.{cursor_at}
use Rattle.lexer.proofs.AtPlace.{next-inside}
use Rattle.strings.specs.Answers.{Small, qualifier_here, QualifierAt, QualifiersRead}

-- no qualifiers, as the code writes them
pub none-are : (q : Quals) → q ≡ plain → (qualifiers_of q ≡ no_qualifiers) × Small q × (q.from ≡ 0)
none-are q e =
    rw e (plain-none, record { fits = record { anchor = omega arith; count = omega arith; from = omega arith; to = omega arith }; uncounted = λ p. refl }, refl)

-- a delimiter is a byte of the script
pub opens-inside : (s : List ℕ) (i : ℕ) → is_delimiter (next_byte (cursor_at s i)) ≡ true → i < length s
unfolding is_delimiter
opens-inside s i e = next-inside s i (go (next_byte (cursor_at s i)) e)
  where
    go : (b : ℕ) → is_delimiter b ≡ true → 0 < b
    go zero e = let z : ◌≡◌ {A = ℕ} 0 1 = cc in omega arith
    go (suc b) e = omega arith

-- what the loop keeps: the qualifiers q are read up to i, and the rounds m that are left are enough for the bytes that are left
pub record Begun (s : List ℕ) (at : ℕ) (inSearch : Bool) (q : Quals) (i : ℕ) : Type 0 where
  pub from : at ≤ i
  pub to : i ≤ length s
  pub small : Small q
  pub columned : 0 < q.from → suc at ≤ i
  pub rounds : ℕ
  pub enough : suc (length s - i) ≤ rounds
  pub same : start_qualifiers inSearch (cursor_at s at) ≡ read_qualifiers rounds inSearch (qualifiers_of q) (cursor_at s i)

pub begins : (s : List ℕ) (at : ℕ) (inSearch : Bool) (q : Quals) (i : ℕ) → skip_spaces (cursor_at s at) ≡ cursor_at s i → at ≤ i → i ≤ length s
    → qualifiers_of q ≡ no_qualifiers → Small q → q.from ≡ 0 → Begun s at inSearch q i
unfolding start_qualifiers bytes_left
begins s at inSearch q i spaces from to is small none = record {
  from = from;
  to = to;
  small = small;
  columned = λ h. omega arith;
  rounds = suc (length s - at);
  enough = omega arith;
  same = rw (spaces, is, length-drop at s);
}

-- one round, where one is left
module _ (inSearch : Bool) (q : Qualifiers) (c : Cursor) where
  round-open : (n : ℕ) → 0 < n → is_delimiter (next_byte c) ≡ true → read_qualifiers n inSearch q c ≡ got q c
  unfolding read_qualifiers
  round-open zero h e = absurd (not-suc-le-zero h)
  round-open (suc n) h e = rw (e, read_qualifiers)

  module _ (more : is_delimiter (next_byte c) ≡ false) where
    round-on : (n : ℕ) → 0 < n → (q' : Qualifiers) (c' : Cursor) → read_qualifier inSearch q c (qualifier_byte (next_byte c)) ≡ got q' c'
        → read_qualifiers n inSearch q c ≡ read_qualifiers (n - 1) inSearch q' (skip_spaces c')
    unfolding read_qualifiers
    round-on zero h q' c' e = absurd (not-suc-le-zero h)
    round-on (suc n) h q' c' e = rw (sub-one, more, e, read_qualifiers)

    round-refused : (n : ℕ) → 0 < n → (k p : ℕ) → read_qualifier inSearch q c (qualifier_byte (next_byte c)) ≡ refused k p
        → read_qualifiers n inSearch q c ≡ refused k p
    unfolding read_qualifiers
    round-refused zero h k p e = absurd (not-suc-le-zero h)
    round-refused (suc n) h k p e = rw (more, e, read_qualifiers)

module _ (s : List ℕ) (at : ℕ) (inSearch : Bool) (q : Quals) (i : ℕ) (begun : Begun s at inSearch q i) where
  pub opened : is_delimiter (next_byte (cursor_at s i)) ≡ true → QualifiersRead s at (start_qualifiers inSearch (cursor_at s at)) (read_as q i)
  opened e = (
    begun.same ∙ round-open inSearch (qualifiers_of q) (cursor_at s i) begun.rounds (omega (arith, begun.enough)) e,
    record { from = begun.from; inside = opens-inside s i e; small = begun.small; columned = begun.columned },
  )

  module _ (more : is_delimiter (next_byte (cursor_at s i)) ≡ false) where
    pub refused-up : (k p : ℕ) → qualifier_here inSearch q (cursor_at s i) ≡ refused k p → start_qualifiers inSearch (cursor_at s at) ≡ refused k p
    refused-up k p e = begun.same ∙ round-refused inSearch (qualifiers_of q) (cursor_at s i) more begun.rounds (omega (arith, begun.enough)) k p e

    pub goes-round : (q' : Quals) (next j : ℕ) → QualifierAt s i (qualifier_here inSearch q (cursor_at s i)) q' next
        → skip_spaces (cursor_at s next) ≡ cursor_at s j → next ≤ j → j ≤ length s → Begun s at inSearch q' j
    goes-round q' next j on spaces from to = record {
      from = omega (arith, on.1, begun.from);
      to = to;
      small = on.3;
      columned = λ h. omega (arith, on.1, begun.from);
      rounds = begun.rounds - 1;
      enough = omega (arith, on.1, on.2, begun.enough);
      same = begun.same
          ∙ round-on inSearch (qualifiers_of q) (cursor_at s i) more begun.rounds (omega (arith, begun.enough)) (qualifiers_of q') (cursor_at s next) on.0
          ∙ rw spaces;
    }
