-- The answers of a reader of journals: 11, then 10, then what is written. Assumes nothing.
use Rattle.std.proofs.Common.{Option, Some, None, Ok, Err}
use Rattle.std.specs.Option.{ok_or}
use mathlib.Core.Path.{◌≡◌, refl, sym, ap, ◌∙◌}
use mathlib.Core.Bool.{Bool, true, false, cond}
use mathlib.Core.Option.{Option as Maybe, none, some}
use mathlib.Core.List.{List, ◌++◌}
use Prim.Native.Nat.{ℕ, ◌≤◌, ◌<◌}
use native.Mathlib.Omega.{arith}
use lib.ListN.{length, drop}
use lib.Dec.{leb}
use borrow.Author.Tests.{leb-true, leb-false, le-leb, lt-leb}
use Rattle.definitions.specs.Journal.{Record, records_of}
use Rattle.definitions.specs.Listing.{written_to, read_out}
use Rattle.text.specs.Buffer.{laid}
use Rattle.text.proofs.Buffer.{laid-zero}
use Rattle.journal.specs.Measuring.{measures_of, checked, length_by, room_for}
use Rattle.journal.specs.Views.{out_of}
use Rattle.journal.specs.Reading.{reading_number, reading_length, answered}
use Rattle.journal.specs.declared.Refusal.TheVariants.{Short, Malformed}
use Rattle.journal.specs.declared.records.View.{View}
use Rattle.journal.specs.declared.measure.Measures.{Measures}
use Rattle.journal.proofs.Left.{left-start}
use Rattle.journal.proofs.Views.{out-length}

-- ---- what the check and the room say

pub checked-none : (o : Maybe (List Record)) → checked o ≡ None → o ≡ none
unfolding checked
checked-none none h = refl
checked-none (some rs) h = absurd (let z : ◌≡◌ {A = ℕ} 0 1 = cc in omega arith)

pub checked-some : (o : Maybe (List Record)) (m : Measures) → checked o ≡ Some m → (rs : List Record) × (o ≡ some rs) × (m ≡ measures_of rs)
unfolding checked
checked-some none m h = absurd (let z : ◌≡◌ {A = ℕ} 0 1 = cc in omega arith)
checked-some (some rs) m h = (rs, refl, cc)

room-enough-is : (n size k : ℕ) → room_for n size ≡ Some k → (n ≤ size) × (k ≡ n)
unfolding room_for
room-enough-is n size k h = go (leb n size) refl h
  where
    go : (t : Bool) → leb n size ≡ t → cond (leb n size) (Some n) None ≡ Some k → (n ≤ size) × (k ≡ n)
    go true e h = (leb-true n size e, let is : Some n ≡ Some k = rw e at h in cc)
    go false e h = let is : None ≡ Some k = rw e at h in absurd (let z : ◌≡◌ {A = ℕ} 0 1 = cc in omega arith)

room-lacking-is : (n size : ℕ) → room_for n size ≡ None → size < n
unfolding room_for
room-lacking-is n size h = go (leb n size) refl h
  where
    go : (t : Bool) → leb n size ≡ t → cond (leb n size) (Some n) None ≡ None → size < n
    go true e h = let is : Some n ≡ None = rw e at h in absurd (let z : ◌≡◌ {A = ℕ} 0 1 = cc in omega arith)
    go false e h = leb-false n size e

-- ---- what `ok_or` says of the option before it

pub was-none : {A E : Type 0} (o : Option A) (e x : E) → Err x ≡ ok_or o e → (o ≡ None) × (x ≡ e)
was-none None e x h = (refl, cc)
was-none (Some a) e x h = absurd (let z : ◌≡◌ {A = ℕ} 0 1 = cc in omega arith)

pub was-some : {A E : Type 0} (o : Option A) (e : E) (a : A) → Ok a ≡ ok_or o e → o ≡ Some a
was-some None e a h = absurd (let z : ◌≡◌ {A = ℕ} 0 1 = cc in omega arith)
was-some (Some b) e a h = ap Some cc

-- ---- the ways out of `read`

module _ (view : View) (j d : List ℕ) where
  pub read-malformed : checked (records_of j) ≡ None → answered (Err Malformed) d ≡ read_out (out_of view) (records_of j) d
  unfolding answered read_out
  read-malformed h = rw (checked-none (records_of j) h)

  module _ (m : Measures) (h : checked (records_of j) ≡ Some m) where
    found : (rs : List Record) × (records_of j ≡ some rs) × (m ≡ measures_of rs)
    found = checked-some (records_of j) m h

    long : length (out_of view found.0) ≡ length_by view m
    long = out-length view found.0 (left-start j found.0 found.1).1 ∙ ap (length_by view) (sym found.2)

    pub read_short : room_for (length_by view m) (length d) ≡ None → answered (Err Short) d ≡ read_out (out_of view) (records_of j) d
    unfolding answered read_out written_to
    read_short k =
        let over : length d < length (out_of view found.0) = rw long (room-lacking-is (length_by view m) (length d) k) in
        rw (found.1, lt-leb (length (out_of view found.0)) (length d) over)

    module _ (n : ℕ) (k : room_for (length_by view m) (length d) ≡ Some n) where
      fits : length (out_of view found.0) ≤ length d
      fits = rw long (room-enough-is (length_by view m) (length d) n k).0

      pub read-room : (rs : List Record) × (records_of j ≡ some rs) × (length (out_of view rs) ≤ length d)
      read-room = (found.0, found.1, fits)

      pub read-written : (d' : List ℕ) → ((rs : List Record) → records_of j ≡ some rs → d' ≡ laid d 0 (out_of view rs)) → answered (Ok n) d' ≡ read_out (out_of view) (records_of j) d
      unfolding answered reading_number reading_length read_out written_to
      read-written d' e =
          let size : n ≡ length (out_of view found.0) = (room-enough-is (length_by view m) (length d) n k).1 ∙ sym long in
          let is : d' ≡ out_of view found.0 ++ drop (length (out_of view found.0)) d = e found.0 found.1 ∙ laid-zero d (out_of view found.0) in
          rw (found.1, le-leb (length (out_of view found.0)) (length d) fits, size, is)
