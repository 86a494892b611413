-- Laws of two strings without qualifiers. Assumes nothing.
use mathlib.Core.Path.{◌≡◌, refl, sym, ap, ◌∙◌, subst}
use mathlib.Core.Bool.{Bool, true, false, cond}
use mathlib.Core.List.{List}
use Prim.Native.Nat.{ℕ, suc, ◌+◌, ◌≤◌, ◌<◌}
use native.Mathlib.Omega.{arith}
use lib.ListN.{length, get_or}
use Rattle.definitions.specs.Bytes.{Line}
use Rattle.definitions.specs.Matching.{Qualifiers, Qualified, qualified}
use Rattle.definitions.specs.Reader.{Cursor, Got, got, refused, and_then, place_at, next_byte, after_byte, skip_spaces, is_delimiter, string_next, advance, past_delimiter, after_string, quoted}
use Rattle.definitions.specs.Strings.{no_qualifiers, Pair, pair, second_string, plain_pair, two_plain_strings}
use Rattle.text.specs.Lines.{part}
use Rattle.text.proofs.Parts.{part_none, part-cons}
use Rattle.matching.specs.declared.Quals.{Quals}
use Rattle.matching.specs.Quals.{qualifiers_of}
use Rattle.answers.specs.declared.Fault.TheVariants.{Qualifier}
use Rattle.answers.specs.Answers.{read_as, refusal}
use Rattle.lexer.specs.Places.{cursor_at}
use Rattle.lexer.specs.Answers.{ValueAt, part_in, QuotedRead}
use Rattle.lexer.proofs.AtPlace.{next-in, after-in}
use Rattle.lexer.proofs.Given.{goes_on, passed-up}
use Rattle.lexer.proofs.Parts.{delimiter-inside, string-passed, after-string}
use Rattle.strings.specs.declared.TwoStrings.{TwoStrings}
use Rattle.strings.specs.Answers.{Small, QuotedAt, PairedAt, PairedOf, PlainAt, PlainRead}
use Rattle.strings.proofs.Forming.{plain-formed}
use Rattle.strings.proofs.Quoting.{is-closed, short}

-- ---- what was read is one thing

got-value : {A : Type 0} {a b : A} {c d : Cursor} → got a c ≡ got b d → a ≡ b
got-value {A} {a} e = ap (λ (x : Got A). elim x [ got v f ↦ v | refused n at ↦ a ]) e

got-cursor : {A : Type 0} {a b : A} {c d : Cursor} → got a c ≡ got b d → c ≡ d
got-cursor {A} {a} {b} {c} e = ap (λ (x : Got A). elim x [ got v f ↦ f | refused n at ↦ c ]) e

same-got : {A : Type 0} {a b : A} {c d : Cursor} → a ≡ b → c ≡ d → got a c ≡ got b d
same-got e f = rw (e, f)

same-pair : {a b c d : Line} → a ≡ b → c ≡ d → ◌≡◌ {A = Line × Line} (a, c) (b, d)
same-pair e f = rw (e, f)

qualified-first : {q r : Qualifiers} {a b : Line} → qualified q a ≡ qualified r b → q ≡ r
qualified-first e = ap (λ (x : Qualified). elim x [ qualified q l ↦ q ]) e

qualified-second : {q r : Qualifiers} {a b : Line} → qualified q a ≡ qualified r b → a ≡ b
qualified-second e = ap (λ (x : Qualified). elim x [ qualified q l ↦ l ]) e

pair-second : {q r : Qualified} {a b : Line} → pair q a ≡ pair r b → a ≡ b
pair-second e = ap (λ (x : Pair). elim x [ pair q l ↦ l ]) e

not_refused : {A : Type 0} {a : A} {c : Cursor} {n at : ℕ} → got a c ≡ refused n at → ⊥
not_refused {A} e = subst (λ (x : Got A). elim x as (λ y. Type 0) [ got v f ↦ Unit {0} | refused n at ↦ ⊥ ]) e tt

-- ---- a string with its delimiters: its parts

-- its delimiter d stands at `o`
pub record Parted (s : List ℕ) (o start end next d : ℕ) : Type 0 where
  pub inside : o < length s
  pub string : string_next d (cursor_at s start) ≡ part start end s
  pub passed : advance (length (string_next d (cursor_at s start))) (cursor_at s start) ≡ cursor_at s end
  pub closed : past_delimiter d (cursor_at s end) ≡ cursor_at s next

module _ (s : List ℕ) (o start end next : ℕ) (starts : start ≡ o + 1) (ordered : start ≤ end) (inside : end ≤ length s) where
  parted-by : (t : Bool) → is_delimiter (next_byte (cursor_at s o)) ≡ t
      → cond t (got (string_next (next_byte (cursor_at s o)) (after_byte (cursor_at s o))) (after_string (next_byte (cursor_at s o)) (after_byte (cursor_at s o)))) (refused 3 (place_at (cursor_at s o)))
      ≡ got (part start end s) (cursor_at s next)
      → Parted s o start end next (get_or s o 0)
  parted-by false f h = absurd (not_refused (sym h))
  parted-by true f h =
      let within : o < length s = delimiter-inside s o (next_byte (cursor_at s o)) refl f in
      let after : after_byte (cursor_at s o) ≡ cursor_at s start = after-in s o within ∙ ap (λ (i : ℕ). cursor_at s i) (sym starts) in
      let both = rw (next-in s o within, after) at h in
      of within (got-value both) (got-cursor both)
    where
      of : o < length s → string_next (get_or s o 0) (cursor_at s start) ≡ part start end s → after_string (get_or s o 0) (cursor_at s start) ≡ cursor_at s next → Parted s o start end next (get_or s o 0)
      of within string after = record {
        inside = within;
        string = string;
        passed = string-passed s start end (get_or s o 0) ordered inside string;
        closed = sym (after-string s start end (get_or s o 0) ordered inside string) ∙ after;
      }

  parted : quoted (cursor_at s o) ≡ got (part start end s) (cursor_at s next) → Parted s o start end next (get_or s o 0)
  unfolding quoted
  parted e = parted-by (is_delimiter (next_byte (cursor_at s o))) refl e

-- ---- two strings

module _ (s : List ℕ) (at o : ℕ) (spaces : skip_spaces (cursor_at s at) ≡ cursor_at s o) (from : at ≤ o) where
  pub plain-refused : (k p : ℕ) → quoted (cursor_at s o) ≡ refused k p → two_plain_strings (cursor_at s at) ≡ refused k p
  unfolding two_plain_strings
  plain-refused k p e = rw spaces (passed-up (quoted (cursor_at s o)) _ k p e)

  module _ (start end next : ℕ) (string : ValueAt s (part_in s) (QuotedRead o) (quoted (cursor_at s o)) (record { start = start; end = end }) next) where
    parts : Parted s o start end next (get_or s o 0)
    parts = parted s o start end next (omega (arith, string.1.0)) string.1.1 (omega (arith, string.1.2, string.2)) string.0

    pub opening-in : o < length s
    opening-in = parts.inside

    -- from the first string on
    plain-on : two_plain_strings (cursor_at s at) ≡ plain_pair o (cursor_at s o) (part start end s) (cursor_at s next)
    unfolding two_plain_strings place_at
    plain-on = rw spaces (goes_on (quoted (cursor_at s o)) _ (part start end s) (cursor_at s next) string.0)

    pub plain-empty : start ≡ end → PlainRead s at (refusal Qualifier o)
    unfolding plain_pair
    plain-empty e = (plain-on ∙ rw (e, part_none s end))

    plain-bytes : (start ≡ end → ⊥)
        → two_plain_strings (cursor_at s at) ≡ got (part start end s, string_next (get_or s o 0) (cursor_at s next)) (after_string (get_or s o 0) (cursor_at s next))
    unfolding plain_pair
    plain-bytes e =
        let cons = part-cons s start end (omega (arith, string.1.1, e)) (omega (arith, string.1.2, string.2)) in
        plain-on ∙ rw (cons, next-in s o opening-in)

    -- the first string, as a qualified one
    abbrev pub plain_first : Got Qualified
    plain_first = got (qualified no_qualifiers (part start end s)) (cursor_at s next)

    module _ (q : Quals) (none : qualifiers_of q ≡ no_qualifiers) (small : Small q) (no-columns : q.from ≡ 0) where
      pub plain-first : QuotedAt s at (got no_qualifiers (cursor_at s o)) plain_first q start end next
      plain-first = (
        rw none,
        record {
          after = omega (arith, string.1.0, from);
          ordered = string.1.1;
          ends = string.1.2;
          closed = is-closed s start end (get_or s o 0) next parts.passed parts.closed string.1.2;
          within = string.2;
          fits = small.fits;
          columned = λ h. omega (arith, h, no-columns);
          short = short s start end (get_or s o 0) parts.string (omega (arith, string.1.2, string.2));
          formed = λ h. plain-formed q (part start end s) none;
        },
        record { opening = o; is = rw none; starts = string.1.0 },
      )

      -- with the second
      module _ (bytes : start ≡ end → ⊥) where
        pair-as : (q' : Quals) (start' end' second second-end past : ℕ)
            → PairedAt s at (got no_qualifiers (cursor_at s o)) plain_first (and_then plain_first (λ q c. second_string (get_or s o 0) q c)) q' start' end' second second-end past
            → PlainAt s at (quoted (skip_spaces (cursor_at s at))) (two_plain_strings (cursor_at s at)) q' start' end' second second-end past
        unfolding and_then second_string place_at
        pair-as q' start' end' second second-end past (both, stand, (first, one, opened)) = record {
          unqualified = sym (qualified-first (got-value first));
          starts = opened.starts ∙ ap suc (sym (ap place_at (spaces ∙ got-cursor opened.is)));
          first = rw spaces (string.0 ∙ same-got (qualified-second (got-value first)) (got-cursor first));
          both = plain-bytes bytes ∙ same-got (same-pair (qualified-second (got-value first)) (pair-second (got-value both))) (got-cursor both);
          stand = stand;
        }

        pub plain-both : (r : TwoStrings) (past : ℕ)
            → PairedOf s at (got no_qualifiers (cursor_at s o)) plain_first (and_then plain_first (λ q c. second_string (get_or s o 0) q c)) r past → PlainRead s at (read_as r past)
        plain-both r past = pair-as r.first.quals r.first.part.start r.first.part.end r.second.start r.second.end past
