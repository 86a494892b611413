-- Laws of qualified strings: the string at its opening delimiter, and a second string after it. Assumes nothing.
use mathlib.Core.Path.{◌≡◌, refl, sym, ap, ◌∙◌, subst}
use mathlib.Core.Logic.{◌⊎◌, inl, inr}
use mathlib.Core.Bool.{Bool, true, false, ◌&&◌, ◌||◌, false≢true}
use mathlib.Core.List.{List, [], ◌∷◌}
use Prim.Native.Nat.{ℕ, zero, suc, ◌+◌, ◌≤◌, ◌<◌}
use native.Mathlib.Nat.{eq-or-lt_of_le}
use native.Mathlib.Omega.{arith}
use lib.ListN.{length, drop, get_or}
use lib.Dec.{eqb}
use Rattle.text.specs.Lines.{part}
use Rattle.text.proofs.Parts.{part_length, part_none, part-cons}
use borrow.Author.Tests.{eq-eqb, ne_eqb, eqb-true}
use Rattle.definitions.specs.Bytes.{is_digit}
use Rattle.definitions.specs.Matching.{Qualifiers, Qualified}
use Rattle.definitions.specs.Reader.{Cursor, cursor, Got, refused, and_then, place_at, next_byte, string_up_to, string_next, advance, past_delimiter, after_string}
use Rattle.definitions.specs.Strings.{wants_bytes, is_empty, read_bytes, read_string, start_qualifiers, qualified_string, second_string, two_strings}
use Rattle.matching.specs.declared.Quals.{Quals}
use Rattle.matching.specs.Quals.{qualifiers_of}
use Rattle.std.specs.Prelude.{Result, Ok, Err}
use Rattle.answers.specs.declared.Fault.TheVariants.{Qualifier}
use Rattle.answers.specs.declared.Read.{Read}
use Rattle.answers.specs.declared.Refusal.{Refusal}
use Rattle.answers.specs.Answers.{read_as, refusal}
use Rattle.lexer.specs.Places.{cursor_at}
use Rattle.lexer.proofs.AtPlace.{is-next, next-in, next-at, after-in, after_next}
use Rattle.strings.proofs.Adding.{count-given}
use Rattle.strings.specs.declared.OneString.{OneString}
use Rattle.strings.specs.declared.TwoStrings.{TwoStrings}
use Rattle.strings.specs.Answers.{Small, Open, OpenAt, Short, bytes_then, Finished, BytesRead, StringAt, QuotedAt, Quoted, Paired, PairedOf, PairRead}

-- ---- which qualifiers want bytes

pub counts-want : (q : Quals) → Small q → (q.count ≡ 0 → ⊥) → wants_bytes (qualifiers_of q) ≡ true
unfolding wants_bytes qualifiers_of
counts-want q small e = rw (count-given q small, ne_eqb q.count 0 e)

pub words-want : (q : Quals) → Small q → q.count ≡ 0 → wants_bytes (qualifiers_of q) ≡ q.word
unfolding wants_bytes qualifiers_of
words-want q small e = rw (count-given q small, eq-eqb q.count 0 e)

-- ---- the string at its opening delimiter

pub not-empty : (s : List ℕ) (f t : ℕ) → f < t → t ≤ length s → is_empty (part f t s) ≡ false
unfolding is_empty
not-empty s f t h k = rw (part-cons s f t h k)

and-false : (t : Bool) → (t && false) ≡ false
and-false true = refl
and-false false = refl

-- a string's place and what is after its delimiter, as the readers of the small parts say it
module _ (s : List ℕ) (start end d next : ℕ) (string : string_next d (cursor_at s start) ≡ part start end s)
    (passed : advance (length (string_next d (cursor_at s start))) (cursor_at s start) ≡ cursor_at s end)
    (closed : past_delimiter d (cursor_at s end) ≡ cursor_at s next) where
  pub after_is : after_string d (cursor_at s start) ≡ cursor_at s next
  unfolding after_string
  after_is = ap (past_delimiter d) passed ∙ closed

-- a string goes up to its delimiter d, the line's end or the script's end: the byte there
abbrev Stopped : ℕ → ℕ → Type 0
Stopped d b = (b ≡ d) ⊎ (is_digit b ≡ false)

stops : (d i : ℕ) (bs : List ℕ) → Stopped d (next_byte (cursor i (drop (length (string_up_to d bs)) bs)))
unfolding string_up_to next_byte is_digit
stops d i [] = inr refl
stops d i (b ∷ bs) = go (eqb b d) (eqb b 10) refl refl (stops d i bs)
  where
    go : (t u : Bool) → eqb b d ≡ t → eqb b 10 ≡ u → Stopped d (next_byte (cursor i (drop (length (string_up_to d bs)) bs)))
        → Stopped d (next_byte (cursor i (drop (length {A = ℕ} (elim (t || u) [ true ↦ [] | false ↦ b ∷ string_up_to d bs ])) (b ∷ bs))))
    go true u e f rest = inl (eqb-true b d e)
    go false true e f rest = let at : b ≡ 10 = eqb-true b 10 f in inr (rw at)
    go false false e f rest = rest

-- a delimiter that is passed is a byte
passes : (s : List ℕ) (end d : ℕ) → next_byte (cursor_at s end) ≡ d → past_delimiter d (cursor_at s end) ≡ cursor_at s end → is_digit d ≡ false
unfolding past_delimiter place_at is_digit
passes s end zero e closed = refl
passes s end (suc d) e closed =
    let on : cursor_at s (end + 1) ≡ cursor_at s end = sym (after_next s end (rw e (omega arith))) ∙ rw (is-next (suc d) (cursor_at s end) e) at closed in
    absurd (omega (arith, ap place_at on))

module _ (s : List ℕ) (start end d next : ℕ) (passed : advance (length (string_next d (cursor_at s start))) (cursor_at s start) ≡ cursor_at s end)
    (closed : past_delimiter d (cursor_at s end) ≡ cursor_at s next) where
  stopped : Stopped d (next_byte (cursor_at s end))
  unfolding advance string_next next_byte
  stopped = subst (λ (c : Cursor). Stopped d (next_byte c)) passed (stops d start (drop start s))

  pub is-closed : end ≤ next → is_digit (get_or s next 0) ≡ true → end < next
  is-closed le digit = by (eq-or-lt_of_le le) stopped
    where
      by : (end ≡ next) ⊎ (end < next) → Stopped d (next_byte (cursor_at s end)) → end < next
      by (inr less) stop = less
      by (inl e) (inr other) = absurd (false≢true (sym other ∙ rw (next-at s end, e) digit))
      by (inl e) (inl is) = absurd (false≢true (sym (passes s end d is (rw (← e) at closed)) ∙ rw (← is, next-at s end, e) digit))

-- a string that is as long as a line at most
pub short : (s : List ℕ) (start end d : ℕ) → string_next d (cursor_at s start) ≡ part start end s → end ≤ length s → Short s → end ≤ start + 255
short s start end d e h lines = omega (arith, lines d start, ap length e ∙ part_length s start end h)

-- `from` is where the qualifiers begin, `at` where the opening delimiter stands
module _ (s : List ℕ) (from : ℕ) (y : Got Qualifiers) (at : ℕ) (q : Quals) (opening : OpenAt s from y q at) where
  opened : Open s from q at
  opened = opening.1

  module _ (end : ℕ) (string : string_next (get_or s at 0) (cursor_at s (at + 1)) ≡ part (at + 1) end s) where
    pub wants-more : end ≡ at + 1 → wants_bytes (qualifiers_of q) ≡ true → Quoted s from y (read_string (qualifiers_of q) (cursor_at s at)) (refusal Qualifier at)
    unfolding read_string place_at is_empty
    wants-more e w = (rw (next-in s at opened.inside, after-in s at opened.inside, string, e, part_none s (at + 1), w))

    module _ (next : ℕ) (passed : advance (length (string_next (get_or s at 0) (cursor_at s (at + 1)))) (cursor_at s (at + 1)) ≡ cursor_at s end)
        (closed : past_delimiter (get_or s at 0) (cursor_at s end) ≡ cursor_at s next)
        (ordered : at + 1 ≤ end) (ends : end ≤ next) (within : next ≤ length s) where
      -- what is read of its bytes is what is read of the string
      bytes-are : (is_empty (part (at + 1) end s) && wants_bytes (qualifiers_of q)) ≡ false
          → read_string (qualifiers_of q) (cursor_at s at) ≡ bytes_then (qualifiers_of q) (at + 1) (part (at + 1) end s) (cursor_at s next)
      unfolding read_string read_bytes bytes_then place_at
      bytes-are e =
          rw (next-in s at opened.inside, after-in s at opened.inside, string, e)
          (ap (λ c. bytes_then (qualifiers_of q) (at + 1) (part (at + 1) end s) c) (after_is s (at + 1) end (get_or s at 0) next string passed closed))

      string-at : (r : Quals) → Finished q (part (at + 1) end s) r → StringAt s from r (at + 1) end next
      string-at r h = record {
        after = omega (arith, opened.from);
        ordered = ordered;
        ends = ends;
        closed = is-closed s (at + 1) end (get_or s at 0) next passed closed ends;
        within = within;
        fits = h.fits;
        columned = λ k. omega (arith, opened.columned (rw (← h.from) k));
        short = short s (at + 1) end (get_or s at 0) string (omega arith);
        formed = λ lines. h.formed (rw string at (lines (get_or s at 0) (at + 1)));
      }

      quoted-is : (r : Result (Read OneString) Refusal) → (is_empty (part (at + 1) end s) && wants_bytes (qualifiers_of q)) ≡ false → BytesRead s q (at + 1) end next r
          → Quoted s from y (read_string (qualifiers_of q) (cursor_at s at)) r
      quoted-is (Ok r) e (is, h, ea, eb, ec) = rw (ea, eb, ec) (
        bytes-are e ∙ is ∙ rw h.same,
        string-at r.value.quals h,
        record { opening = at; is = opening.0 ∙ rw h.same; starts = omega arith },
      )
      quoted-is (Err r) e is = bytes-are e ∙ is

      pub quoted-empty : (r : Result (Read OneString) Refusal) → wants_bytes (qualifiers_of q) ≡ false → BytesRead s q (at + 1) end next r
          → Quoted s from y (read_string (qualifiers_of q) (cursor_at s at)) r
      quoted-empty r w = quoted-is r (rw w (and-false (is_empty (part (at + 1) end s))))

      pub quoted-bytes : (r : Result (Read OneString) Refusal) → (end ≡ at + 1 → ⊥) → BytesRead s q (at + 1) end next r
          → Quoted s from y (read_string (qualifiers_of q) (cursor_at s at)) r
      quoted-bytes r e = quoted-is r (rw (not-empty s (at + 1) end (omega arith) (omega arith)))

-- ---- a qualified string

module _ (s : List ℕ) (at : ℕ) (i : Bool) where
  pub string-refused : (k p : ℕ) → start_qualifiers i (cursor_at s at) ≡ refused k p → qualified_string i (cursor_at s at) ≡ refused k p
  unfolding qualified_string and_then
  string-refused k p e = rw e

  module _ (q : Quals) (o : ℕ) (opened : OpenAt s at (start_qualifiers i (cursor_at s at)) q o) where
    string-is : qualified_string i (cursor_at s at) ≡ read_string (qualifiers_of q) (cursor_at s o)
    unfolding qualified_string and_then
    string-is = rw opened.0

    pub string-read : (r : Result (Read OneString) Refusal) → ((from : ℕ) (y : Got Qualifiers) → OpenAt s from y q o → Quoted s from y (read_string (qualifiers_of q) (cursor_at s o)) r)
        → Quoted s at (start_qualifiers i (cursor_at s at)) (qualified_string i (cursor_at s at)) r
    string-read r string = rw string-is (string at (start_qualifiers i (cursor_at s at)) opened)

-- ---- a second string

module _ (s : List ℕ) (d at : ℕ) (y : Got Qualifiers) (x : Got Qualified) where
  pub pair_read : (q : Quals) (start end next second-end past : ℕ) → QuotedAt s at y x q start end next → string_next d (cursor_at s next) ≡ part next second-end s
      → advance (length (string_next d (cursor_at s next))) (cursor_at s next) ≡ cursor_at s second-end → past_delimiter d (cursor_at s second-end) ≡ cursor_at s past
      → next ≤ second-end → second-end ≤ past → past ≤ length s
      → Paired s at y x (and_then x (λ q c. second_string d q c)) (read_as (record { first = record { quals = q; part = record { start = start; end = end } }; second = record { start = next; end = second-end } }) past)
  unfolding and_then second_string
  pair_read q start end next second-end past first string passed closed ordered ends within = (
    rw (first.0, after_is s next second-end d past string passed closed, string),
    record { first = first.1; ordered = ordered; ends = ends; within = within; short = short s next second-end d string (omega arith) },
    first,
  )

module _ (s : List ℕ) (at : ℕ) where
  pub both-refused : (k p : ℕ) → start_qualifiers false (cursor_at s at) ≡ refused k p → two_strings (cursor_at s at) ≡ refused k p
  unfolding two_strings and_then
  both-refused k p e = rw e

  module _ (q : Quals) (o : ℕ) (opened : OpenAt s at (start_qualifiers false (cursor_at s at)) q o) where
    both-are : two_strings (cursor_at s at) ≡ and_then (read_string (qualifiers_of q) (cursor_at s o)) (λ q c. second_string (get_or s o 0) q c)
    unfolding two_strings and_then
    both-are = rw (opened.0, next-in s o opened.1.inside)

    pub second-refused : (k p : ℕ) → read_string (qualifiers_of q) (cursor_at s o) ≡ refused k p → two_strings (cursor_at s at) ≡ refused k p
    unfolding and_then
    second-refused k p e = both-are ∙ rw e

    pub both_read : (x : Got Qualified) → x ≡ read_string (qualifiers_of q) (cursor_at s o) → (r : TwoStrings) (next : ℕ)
        → PairedOf s at (start_qualifiers false (cursor_at s at)) x (and_then x (λ q c. second_string (get_or s o 0) q c)) r next → PairRead s at (read_as r next)
    both_read x is r next pairs = rw (both-are, string-is s at false q o opened) (rw is at pairs)
