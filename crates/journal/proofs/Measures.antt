-- The measures of a journal: what each record adds, and the steps of the loop that checks. Assumes nothing.
use Rattle.std.proofs.Common.{Option, Some, None}
use Rattle.std.specs.Bool.{then_some}
use mathlib.Core.Path.{◌≡◌, refl, sym, ap, ◌∙◌}
use mathlib.Core.Bool.{Bool, true, false, cond}
use mathlib.Core.Option.{Option as Maybe, none, some}
use mathlib.Core.List.{List, [], ◌∷◌}
use Prim.Native.Nat.{ℕ, ◌+◌, ◌≤◌, ◌<◌}
use native.Mathlib.Nat.{add-zero, zero-add}
use native.Mathlib.Omega.{arith}
use lib.ListN.{length, drop, length-append, drop_of_length-le}
use lib.Dec.{leb}
use borrow.Author.Tests.{le-leb, lt-leb}
use Rattle.definitions.specs.Bytes.{Line, lines_bytes}
use Rattle.definitions.specs.Journal.{Record, old_of, old_side, new_of, new_side, followed, few_old_lines, records_of}
use Rattle.text.specs.Lines.{part}
use Rattle.text.proofs.Parts.{part_length}
use Rattle.text.proofs.Lines.{lines-bytes-append, lines-bytes-one}
use Rattle.text.proofs.Ends.{Ended, ended-bytes}
use Rattle.journal.specs.Records.{record_at, record_of, record_in, unchanged_in, InOrder, old_span, new_span, records_from}
use Rattle.journal.specs.Measuring.{span_lines, span_length, AtMost, with_record, measures_of, checked, room_for}
use Rattle.journal.specs.declared.records.Mark.{Mark}
use Rattle.journal.specs.declared.records.Mark.TheVariants.{Kept, Changed, Deleted, Inserted}
use Rattle.journal.specs.declared.records.Extent.{Extent}
use Rattle.journal.specs.declared.records.Span.{Span}
use Rattle.journal.specs.declared.measure.Measures.{Measures}
use Rattle.journal.proofs.Walk.{records-few, records-none}
use Rattle.journal.proofs.Here.{Here, LastLine, nowhere}

-- the bytes of a span; none where there is no line
unfoldable pub span_bytes : List ℕ → Option Span → List ℕ
span_bytes j (Some s) = part s.from s.to j
span_bytes j None = []

-- ---- a record's spans are its lines

module _ (j : List ℕ) (x : Extent) (f : Ended j (x.at + 2) x.mid) where
  pub old-bytes : (m : Mark) → span_bytes j (old_span m x) ≡ lines_bytes (old_of (record_of m (part (x.at + 2) x.mid j) (part (x.mid + 1) x.end j)))
  unfolding span_bytes old_span old_of record_of lines_bytes
  old-bytes Kept = ended-bytes j (x.at + 2) x.mid f ∙ sym (lines-bytes-one _)
  old-bytes Changed = ended-bytes j (x.at + 2) x.mid f ∙ sym (lines-bytes-one _)
  old-bytes Deleted = ended-bytes j (x.at + 2) x.mid f ∙ sym (lines-bytes-one _)
  old-bytes Inserted = refl

  pub new-bytes : (m : Mark) → LastLine m j x.mid x.end
      → span_bytes j (new_span m x) ≡ lines_bytes (new_of (record_of m (part (x.at + 2) x.mid j) (part (x.mid + 1) x.end j)))
  unfolding span_bytes new_span new_of record_of lines_bytes
  new-bytes Kept l = ended-bytes j (x.at + 2) x.mid f ∙ sym (lines-bytes-one _)
  new-bytes Changed l = ended-bytes j (x.mid + 1) x.end l ∙ sym (lines-bytes-one _)
  new-bytes Deleted l = refl
  new-bytes Inserted l = ended-bytes j (x.at + 2) x.mid f ∙ sym (lines-bytes-one _)

  pub old-lines : (m : Mark) (k n : Line) → span_lines (old_span m x) ≡ length (old_of (record_of m k n))
  unfolding span_lines old_span old_of record_of
  old-lines Kept k n = refl
  old-lines Changed k n = refl
  old-lines Deleted k n = refl
  old-lines Inserted k n = refl

  pub new-lines : (m : Mark) (k n : Line) → span_lines (new_span m x) ≡ length (new_of (record_of m k n))
  unfolding span_lines new_span new_of record_of
  new-lines Kept k n = refl
  new-lines Changed k n = refl
  new-lines Deleted k n = refl
  new-lines Inserted k n = refl

module _ (j : List ℕ) (x : Extent) (mid : x.mid < length j) (end : x.end < length j) where
  old-length : (m : Mark) → length (span_bytes j (old_span m x)) ≡ span_length (old_span m x)
  unfolding span_bytes old_span span_length
  old-length Kept = part_length j (x.at + 2) (x.mid + 1) (omega arith)
  old-length Changed = part_length j (x.at + 2) (x.mid + 1) (omega arith)
  old-length Deleted = part_length j (x.at + 2) (x.mid + 1) (omega arith)
  old-length Inserted = refl

  new-length : (m : Mark) → length (span_bytes j (new_span m x)) ≡ span_length (new_span m x)
  unfolding span_bytes new_span span_length
  new-length Kept = part_length j (x.at + 2) (x.mid + 1) (omega arith)
  new-length Changed = part_length j (x.mid + 1) (x.end + 1) (omega arith)
  new-length Deleted = refl
  new-length Inserted = part_length j (x.at + 2) (x.mid + 1) (omega arith)

-- ---- no measure passes the place that is reached

module _ (x : Extent) (o : InOrder x) where
  old-small : (m : Mark) → (x.at + span_lines (old_span m x) ≤ x.end + 1) × (x.at + span_length (old_span m x) ≤ x.end + 1)
  unfolding span_lines span_length old_span
  old-small Kept = let l = o.low in let h = o.high in omega arith
  old-small Changed = let l = o.low in let h = o.high in omega arith
  old-small Deleted = let l = o.low in let h = o.high in omega arith
  old-small Inserted = let l = o.low in let h = o.high in omega arith

  new-small : (m : Mark) → (x.at + span_lines (new_span m x) ≤ x.end + 1) × (x.at + span_length (new_span m x) ≤ x.end + 1)
  unfolding span_lines span_length new_span
  new-small Kept = let l = o.low in let h = o.high in omega arith
  new-small Changed = let l = o.low in let h = o.high in omega arith
  new-small Deleted = let l = o.low in let h = o.high in omega arith
  new-small Inserted = let l = o.low in let h = o.high in omega arith

  -- the sums are numbers
  pub counted-small : (m : Measures) → AtMost m x.at → AtMost (with_record m x) (x.end + 1)
  unfolding with_record
  counted-small m a =
      let p = old-small x.mark in
      let q = new-small x.mark in record {
        lines = omega (arith, a.lines, p.0);
        old = omega (arith, a.old, p.1);
        shown = omega (arith, a.shown, q.0);
        new = omega (arith, a.new, q.1);
      }

-- ---- the check

measures-eq : (m n : Measures) → m.lines ≡ n.lines → m.old ≡ n.old → m.shown ≡ n.shown → m.new ≡ n.new → m ≡ n
measures-eq m n p q r s = λ i. record { lines = p i; old = q i; shown = r i; new = s i }

-- the measures `m` with those of records
unfoldable plus : Measures → List Record → Measures
plus m rs =
    record {
      lines = m.lines + length (old_side rs);
      old = m.old + length (lines_bytes (old_side rs));
      shown = m.shown + length (new_side rs);
      new = m.new + length (lines_bytes (new_side rs));
    }

-- the verdict on the measures of all records
unfoldable pub verdict : Measures → Option Measures
verdict m = cond (leb m.lines 65535) (Some m) None

-- the check's answer, where `m` has been measured and `o` are the records left
unfoldable pub checked_from : Measures → Maybe (List Record) → Option Measures
unfolding verdict plus
checked_from m none = None
checked_from m (some rs) = verdict (plus m rs)

abbrev pub nothing : Measures
nothing = record { lines = 0; old = 0; shown = 0; new = 0 }

checked-if : (t : Bool) (rs : List Record) → checked (cond t (some rs) none) ≡ cond t (Some (measures_of rs)) None
unfolding checked
checked-if true rs = refl
checked-if false rs = refl

check-few : (o : Maybe (List Record)) → checked (few_old_lines o) ≡ checked_from nothing o
unfolding checked few_old_lines checked_from measures_of
check-few none = refl
check-few (some rs) =
    checked-if (leb (length (old_side rs)) 65535) rs
    ∙ ap verdict (measures-eq (measures_of rs) (plus nothing rs) (sym (zero-add _)) (sym (zero-add _)) (sym (zero-add _)) (sym (zero-add _)))

pub check-start : (j : List ℕ) → checked (records_of j) ≡ checked_from nothing (records_from j)
check-start j = ap checked (records-few j) ∙ check-few (records_from j)

pub check-end : (j : List ℕ) (at : ℕ) (m : Measures) → length j ≤ at → checked_from m (records_from (drop at j)) ≡ verdict m
unfolding checked_from old_side new_side lines_bytes
check-end j at m h = rw (drop_of_length-le j {i = at} h, records-none) (ap verdict (measures-eq (plus m []) m (add-zero _) (add-zero _) (add-zero _) (add-zero _)))

pub check-nowhere : (j : List ℕ) (at : ℕ) (m : Measures) → at < length j → record_at j at ≡ None → checked_from m (records_from (drop at j)) ≡ None
unfolding checked_from
check-nowhere j at m h e = rw (nowhere j at h e)

module _ (j : List ℕ) (at : ℕ) (m : Measures) (x : Extent) (w : Here j at x) where
  pub check-equal : unchanged_in j x ≡ true → checked_from m (records_from (drop at j)) ≡ None
  unfolding checked_from followed
  check-equal e = rw (w.records, e)

  first : Ended j (x.at + 2) x.mid
  first = rw w.place w.first

  mid-inside : x.mid < length j
  mid-inside = let o = w.order in let i = w.inside in omega arith

  old-grown : (rs : List Record) → m.old + length (lines_bytes (old_side (record_in j x ∷ rs))) ≡ (with_record m x).old + length (lines_bytes (old_side rs))
  unfolding old_side with_record record_in
  old-grown rs =
      let is : span_length (old_span x.mark x) ≡ length (lines_bytes (old_of (record_in j x))) = sym (old-length j x mid-inside w.inside x.mark) ∙ ap length (old-bytes j x first x.mark) in
      rw (lines-bytes-append, length-append) (omega (arith, is))

  new-grown : (rs : List Record) → m.new + length (lines_bytes (new_side (record_in j x ∷ rs))) ≡ (with_record m x).new + length (lines_bytes (new_side rs))
  unfolding new_side with_record record_in
  new-grown rs =
      let is : span_length (new_span x.mark x) ≡ length (lines_bytes (new_of (record_in j x))) = sym (new-length j x mid-inside w.inside x.mark) ∙ ap length (new-bytes j x first x.mark w.last) in
      rw (lines-bytes-append, length-append) (omega (arith, is))

  lines-grown : (rs : List Record) → m.lines + length (old_side (record_in j x ∷ rs)) ≡ (with_record m x).lines + length (old_side rs)
  unfolding old_side with_record record_in
  lines-grown rs =
      let is : span_lines (old_span x.mark x) ≡ length (old_of (record_in j x)) = old-lines j x first x.mark _ _ in
      rw (length-append) (omega (arith, is))

  shown-grown : (rs : List Record) → m.shown + length (new_side (record_in j x ∷ rs)) ≡ (with_record m x).shown + length (new_side rs)
  unfolding new_side with_record record_in
  shown-grown rs =
      let is : span_lines (new_span x.mark x) ≡ length (new_of (record_in j x)) = new-lines j x first x.mark _ _ in
      rw (length-append) (omega (arith, is))

  check-more : (o : Maybe (List Record)) → checked_from m (followed true (record_in j x) o) ≡ checked_from (with_record m x) o
  unfolding checked_from followed
  check-more none = refl
  check-more (some rs) =
      ap verdict (measures-eq (plus m (record_in j x ∷ rs)) (plus (with_record m x) rs) (lines-grown rs) (old-grown rs) (shown-grown rs) (new-grown rs))

  pub check-step : unchanged_in j x ≡ false → checked_from m (records_from (drop at j)) ≡ checked_from (with_record m x) (records_from (drop (x.end + 1) j))
  check-step e = ap (checked_from m) (w.records ∙ rw e) ∙ check-more (records_from (drop (x.end + 1) j))

-- ---- room

pub room-enough : (n size : ℕ) → n ≤ size → room_for n size ≡ Some n
unfolding room_for
room-enough n size h = rw (le-leb n size h)

pub room-lacking : (n size : ℕ) → size < n → room_for n size ≡ None
unfolding room_for
room-lacking n size h = rw (lt-leb n size h)

-- what `count` adds up
pub counted_is : (m : Measures) (x : Extent) (o w : Option Span) (a b c d : ℕ) → o ≡ old_span x.mark x → w ≡ new_span x.mark x
    → a ≡ span_lines o → b ≡ span_length o → c ≡ span_lines w → d ≡ span_length w
    → record { lines = m.lines + a; old = m.old + b; shown = m.shown + c; new = m.new + d } ≡ with_record m x
unfolding with_record
counted_is m x o w a b c d p q e f g h = rw (e, f, g, h, p, q)

pub verdict-is : (m : Measures) → then_some (leb m.lines 65535) m ≡ verdict m
unfolding verdict
verdict-is m = go (leb m.lines 65535)
  where
    go : (t : Bool) → then_some t m ≡ cond t (Some m) None
    go true = refl
    go false = refl

pub nothing-small : AtMost nothing 0
nothing-small = record { lines = omega arith; old = omega arith; shown = omega arith; new = omega arith }
