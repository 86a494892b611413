-- The commands with a qualified string: what their words are read as. Assumes nothing.
use mathlib.Core.Path.{◌≡◌, refl, sym, ap, ◌∙◌}
use mathlib.Core.Logic.{inl, inr}
use mathlib.Core.Bool.{Bool, true, false, false≢true}
use mathlib.Core.List.{List}
use Prim.Native.Nat.{ℕ, ◌+◌, ◌-◌, ◌≤◌, ◌<◌}
use native.Mathlib.Omega.{arith}
use lib.Dec.{leb, eqb}
use lib.ListN.{length, get_or}
use Rattle.definitions.specs.Bytes.{Line, all_text, is_line}
use Rattle.definitions.specs.Matching.{Qualified, qualified}
use Rattle.definitions.specs.Given.{Carried, words_of}
use Rattle.definitions.specs.StepProgram.{state}
use Rattle.definitions.specs.Edit.{Change, after_it, before_it, exchange, Op, step}
use Rattle.theorems.specs.Lines.{and_left}
use Rattle.strings.proofs.Lines.{script-short}
use Rattle.text.specs.Lines.{part}
use Rattle.wordset.specs.Sets.{in_set}
use Rattle.matching.specs.declared.Quals.{Quals}
use Rattle.matching.specs.Quals.{qualifiers_of, Formed}
use Rattle.matching.specs.Words.{Readable, start_at, length_at, end_at, quals_at, string_at}
use Rattle.matching.proofs.Reading.{ReadsAs}
use Rattle.matching.proofs.Words.{read-formed}
use Rattle.items.specs.Kinds.{string_shape, change_shape, shape_of, is_global, point_after_kind, split_after_kind, change_kind, point_kind, split_kind}
use Rattle.items.specs.Words.{kind_at, StringIn}
use Rattle.items.specs.Arguments.{string_start, string_length}
use Rattle.items.specs.Simple.{CommandAt}
use Rattle.items.proofs.Meaning.{changing, aiming, form_of, Means, meant-as}
use Rattle.items.proofs.Strings.{string-inside, string-is}
use Rattle.globals.specs.Standing.{set_in, Standing}
use Rattle.globals.proofs.Standing.{set-counts}
use Rattle.editor.specs.declared.State.{State}
use Rattle.editor.specs.Stops.{Moved}
use Rattle.editor.specs.Shows.{lent, Answered}
use Rattle.changes.specs.declared.Change.{Change as ChangeHere}
use Rattle.changes.specs.Current.{change_of, sought, StringsIn, PerformsTold}
use Rattle.commands.specs.Performing.{split_by, change_by, pointing_by, SomeCommand, PerformsAt}

less : (a b : ℕ) → (a + b) - a ≡ b
less a b = omega arith

-- ---- the second string of A, B and E

string-part : (s : List ℕ) (word : ℕ) (l : Line) → length s ≤ 16384 → StringIn s word l → part (string_start word) (string_start word + string_length word) s ≡ l
string-part s word l short h = rw (less (string_start word) (string_length word)) (string-is h short)

pub record Second (s : List ℕ) (start end : ℕ) : Type 0 where
  pub inside : end ≤ length s
  pub short : length s ≤ 16384
  pub texts : all_text (part start end s) ≡ true

second : (s : List ℕ) (word : ℕ) (new : Line) → length s ≤ 16384 → StringIn s word new → is_line new ≡ true → Second s (string_start word) (string_start word + string_length word)
unfolding is_line
second s word new short h good = record {
  inside = string-inside h short;
  short = short;
  texts = rw (string-part s word new short h) (and_left (all_text new) (leb (length new) 255) good);
}

-- the strings that A, B and E are handed
pub strings-in : (s : List ℕ) (from len start more : ℕ) → from + len ≤ length s → Second s start (start + more) → StringsIn s from (from + len) start (start + more)
strings-in s from len start more inside x = record {
  first = omega arith;
  inside = inside;
  second = omega arith;
  within = x.inside;
  short = x.short;
  text = x.texts;
}

-- ---- kinds

-- A, AP, B, BP, E, EP
change-back : (kind : ℕ) (c : Change) (pointed : Bool) → kind ≡ change_kind c pointed → (change_of (change_by kind) ≡ c) × (pointing_by kind ≡ pointed)
unfolding change_kind change_of change_by pointing_by
change-back kind after_it false e = rw e (refl, refl)
change-back kind after_it true e = rw e (refl, refl)
change-back kind before_it false e = rw e (refl, refl)
change-back kind before_it true e = rw e (refl, refl)
change-back kind exchange false e = rw e (refl, refl)
change-back kind exchange true e = rw e (refl, refl)

-- PA, PB; SA, SB
point-back : (kind : ℕ) (after : Bool) → kind ≡ point_kind after → (split_by kind ≡ false) × (eqb kind point_after_kind ≡ after)
unfolding point_kind split_by
point-back kind true e = rw e (refl, refl)
point-back kind false e = rw e (refl, refl)

split-back : (kind : ℕ) (after : Bool) → kind ≡ split_kind after → (split_by kind ≡ true) × (eqb kind split_after_kind ≡ after)
unfolding split_kind split_by
split-back kind true e = rw e (refl, refl)
split-back kind false e = rw e (refl, refl)

-- ---- a qualified string

string-read : (s w : List ℕ) (k n : ℕ) (q : Qualified) → ReadsAs s w k n q → (qs : Quals) (from len : ℕ) → qs ≡ quals_at w k → from ≡ start_at w k → len ≡ length_at w k
    → qualified (qualifiers_of qs) (part from (from + len) s) ≡ q
unfolding string_at
string-read s w k n q h qs from len e f g = rw (e, f, g, less (start_at w k) (length_at w k)) h.string

-- what is asked of it where it is looked for: it lies in the script, has at most 255 bytes, and is a pattern where R is given
pub string-fits : (s w : List ℕ) (k : ℕ) → Readable s w k → (qs : Quals) (from len : ℕ) → qs ≡ quals_at w k → from ≡ start_at w k → len ≡ length_at w k
    → (from + len ≤ length s) × (from + len ≤ from + 255) × Formed qs (part from (from + len) s)
unfolding length_at
string-fits s w k h qs from len e f g = (omega (arith, h.string, f, g), omega (arith, g), read-formed w k s qs from len e f g h.formed)

-- ---- commands with strings

module _ (s w : List ℕ) (k kind : ℕ) (is : kind ≡ kind_at w k) where
  aims-mean : shape_of kind ≡ string_shape → (op : Op) (h : CommandAt s w k op) → Means s w k h.end kind aiming op
  unfolding form_of
  aims-mean shape op h = meant-as s w k kind is aiming (rw shape) op h

  alters-mean : shape_of kind ≡ change_shape → is_global kind ≡ false → (op : Op) (h : CommandAt s w k op) → Means s w k h.end kind changing op
  unfolding form_of
  alters-mean shape other op h = meant-as s w k kind is changing (rw (shape, other)) op h

  pub aims-read : shape_of kind ≡ string_shape → SomeCommand s w k → Readable s w (k + 1)
  unfolding Means
  aims-read shape (op, h) = on (aims-mean shape op h)
    where
      on : Means s w k h.end kind aiming op → Readable s w (k + 1)
      on (after, q, reads, which) = reads.fits

  pub alters-read : shape_of kind ≡ change_shape → is_global kind ≡ false → SomeCommand s w k → Readable s w (k + 1)
  unfolding Means
  alters-read shape other (op, h) = on (alters-mean shape other op h)
    where
      on : Means s w k h.end kind changing op → Readable s w (k + 1)
      on (c, p, q, new, n, e, kinds, ends, reads, x, good) = reads.fits

  -- the second string's word is there, and its bytes are text of the script
  module _ (shape : shape_of kind ≡ change_shape) (other : is_global kind ≡ false) (at : ℕ) (at-is : at ≡ end_at w (k + 1)) where
    pub second-there : SomeCommand s w k → at < length w
    unfolding Means
    second-there (op, h) = on (alters-mean shape other op h)
      where
        on : Means s w k h.end kind changing op → at < length w
        on (c, p, q, new, n, e, kinds, ends, reads, x, good) = omega (arith, at-is, reads.ends, ends, h.inside)

    pub second-good : (start : ℕ) → start ≡ string_start (get_or w at 0) → (len : ℕ) → len ≡ string_length (get_or w at 0) → SomeCommand s w k → Second s start (start + len)
    unfolding Means
    second-good start start_is len len_is (op, h) = on (alters-mean shape other op h)
      where
        on : Means s w k h.end kind changing op → Second s start (start + len)
        on (c, p, q, new, n, e, kinds, ends, reads, x, good) = rw (start_is, len_is, at-is ∙ reads.ends) (second s (get_or w n 0) new (script-short s h.form) x good)

  module _ (table j : List ℕ) (st : State) (b : List ℕ) (r : Moved) (qs : Quals) (from len : ℕ) (q-is : qs ≡ quals_at w (k + 1)) (from_is : from ≡ start_at w (k + 1)) (len_is : len ≡ length_at w (k + 1)) (set : List ℕ) (set_is : set ≡ set_in w) where
    -- the bytes of the word set count
    counts : (c : Carried) → Standing s w c → in_set set 0 ≡ words_of c
    counts c stands = ap (λ (v : List ℕ). in_set v 0) set_is ∙ set-counts s w c stands

    pub points-as : shape_of kind ≡ string_shape → split_by kind ≡ false → PerformsTold (in_set set 0) table j st (Op.point (eqb kind point_after_kind) (sought qs s from (from + len))) b r
        → PerformsAt s table w k j st b r
    unfolding Means
    points-as shape other does op e c t h stands ready = on (aims-mean shape op h)
      where
        on : Means s w k h.end kind aiming op → Answered b r (step (lent j) op (state e c) t)
        on (after, q, reads, inl (o, kinds)) = rw o (rw ((point-back kind after kinds).1, string-read s w (k + 1) h.end q reads qs from len q-is from_is len_is) at (does e c t (counts c stands) ready))
        on (after, q, reads, inr (o, kinds)) = absurd (false≢true (sym other ∙ (split-back kind after kinds).0))

    pub splits-as : shape_of kind ≡ string_shape → split_by kind ≡ true → PerformsTold (in_set set 0) table j st (Op.split (eqb kind split_after_kind) (sought qs s from (from + len))) b r
        → PerformsAt s table w k j st b r
    unfolding Means
    splits-as shape this does op e c t h stands ready = on (aims-mean shape op h)
      where
        on : Means s w k h.end kind aiming op → Answered b r (step (lent j) op (state e c) t)
        on (after, q, reads, inl (o, kinds)) = absurd (false≢true (sym (point-back kind after kinds).0 ∙ this))
        on (after, q, reads, inr (o, kinds)) = rw o (rw ((split-back kind after kinds).1, string-read s w (k + 1) h.end q reads qs from len q-is from_is len_is) at (does e c t (counts c stands) ready))

    pub alters-as : shape_of kind ≡ change_shape → is_global kind ≡ false → (at : ℕ) → at ≡ end_at w (k + 1) → (start : ℕ) → start ≡ string_start (get_or w at 0) → (more : ℕ) → more ≡ string_length (get_or w at 0)
        → (way : ChangeHere) → way ≡ change_by kind → (points : Bool) → points ≡ pointing_by kind
        → PerformsTold (in_set set 0) table j st (Op.alter (change_of way) points (sought qs s from (from + len)) (part start (start + more) s)) b r → PerformsAt s table w k j st b r
    unfolding Means
    alters-as shape other at at-is start start_is more more-is way change-is points points-is does op e c t h stands ready = on (alters-mean shape other op h)
      where
        new_is : (new : Line) (n : ℕ) → end_at w (k + 1) ≡ n → StringIn s (get_or w n 0) new → part start (start + more) s ≡ new
        new_is new n ends x = rw (start_is, more-is, at-is ∙ ends) (string-part s (get_or w n 0) new (script-short s h.form) x)

        on : Means s w k h.end kind changing op → Answered b r (step (lent j) op (state e c) t)
        on (ch, p, q, new, n, o, kinds, ends, reads, x, good) =
            rw o (rw (change-is, points-is, (change-back kind ch p kinds).0, (change-back kind ch p kinds).1, string-read s w (k + 1) n q reads qs from len q-is from_is len_is, new_is new n reads.ends x) at (does e c t (counts c stands) ready))
