-- What is measured is what reading the lines comes to. Assumes nothing.
use mathlib.Core.Path.{◌≡◌, refl, sym, ap, ◌∙◌}
use mathlib.Core.Bool.{Bool, true, false, cond}
use Prim.Native.Nat.{ℕ, ◌+◌, ◌-◌, ◌≤◌, ◌<◌}
use native.Mathlib.Omega.{arith}
use mathlib.Core.List.{List, [], ◌∷◌, map, reverse_aux}
use lib.ListN.{length}
use lib.Dec.{ltb}
use borrow.Author.Tests.{le-leb, lt-leb, ltb-true, ltb-false}
use Rattle.definitions.specs.Bytes.{Line, eq_line}
use Rattle.definitions.specs.Journal.{Record, kept, changed, journal_length}
use Rattle.definitions.specs.Tape.{unread, ret, bind}
use Rattle.definitions.specs.Given.{Given, Room, given, Carried}
use Rattle.definitions.specs.Globals.{left_by}
use Rattle.definitions.specs.Editor.{Ed, journal, stop_number, Got, got, stop}
use Rattle.definitions.specs.Reading.{Ran, gave, stopped, once_read, seen, has_room, read_changed, read_as, read_line, read_lines}
use Rattle.reading.proofs.Line.{passed-seen, unread-journal, changed-length}
use Rattle.tail.specs.Rest.{extra, measured_by, measured}

-- a number that says how a part of a step ends
unfoldable pub EndsWith : ℕ → Ran (Unit {0}) → Type 0
EndsWith k (gave u x) = k ≡ 0
EndsWith k (stopped n x) = k ≡ stop_number n

-- a line that is read unchanged was in the journal before
seen-journal : (l : Line) (e : Ed) (ls : List Line) → journal (seen (kept l) e) (unread ls) ≡ journal e (unread (l ∷ ls))
seen-journal l e ls =
    sym (unread-journal (seen (kept l) e) ls) ∙ ap (λ (z : List Record). reverse_aux z (map kept ls)) (passed-seen (kept l) e) ∙ unread-journal e (l ∷ ls)

extra-same : (l new : Line) → eq_line l new ≡ true → extra l new ≡ 0
unfolding extra
extra-same l new q = rw q

extra-other : (l new : Line) → eq_line l new ≡ false → extra l new ≡ length new + 1
unfolding extra
extra-other l new q = rw q

module _ (size : ℕ) (c : Carried) where
  abbrev g : Given
  g = given (Room.bytes size)

  -- so many bytes are free
  abbrev Free : ℕ → Ed → List Line → Type 0
  Free room e ls = journal_length (journal e (unread ls)) + room ≡ size

  -- the others
  abbrev Others : List Line → Type 0
  Others ls = (e : Ed) (room : ℕ) → Free room e ls → EndsWith (measured c room ls) (read_lines g c (length ls) e (unread ls)).0

  room-true : (l new : Line) (e : Ed) (ls : List Line) (room : ℕ) → Free room e (l ∷ ls) → length new + 1 ≤ room → has_room g (journal (seen (changed l new) e) (unread ls)) ≡ true
  unfolding has_room
  room-true l new e ls room free fits = le-leb (journal_length (journal (seen (changed l new) e) (unread ls))) size (omega (arith, free, fits, changed-length l new e ls, ap journal_length (seen-journal l e ls)))

  room-false : (l new : Line) (e : Ed) (ls : List Line) (room : ℕ) → Free room e (l ∷ ls) → room < length new + 1 → has_room g (journal (seen (changed l new) e) (unread ls)) ≡ false
  unfolding has_room
  room-false l new e ls room free full = lt-leb (journal_length (journal (seen (changed l new) e) (unread ls))) size (omega (arith, free, full, changed-length l new e ls, ap journal_length (seen-journal l e ls)))

  -- one line, by how many bytes more its record takes, and whether there is room for them; then the others
  module _ (l new : Line) (e : Ed) (ls : List Line) (room n : ℕ) (free : Free room e (l ∷ ls)) (more : Others ls) where
    same-measured : n ≡ 0 → (over : Bool) → ltb room n ≡ over
        → EndsWith (elim over [ true ↦ 26 | false ↦ measured c (room - n) ls ]) (read_lines g c (length ls) (seen (kept l) e) (unread ls)).0
    same-measured z true q = absurd (omega (arith, z, ltb-true room n q))
    same-measured z false q = more (seen (kept l) e) (room - n) (omega (arith, z, free, ap journal_length (seen-journal l e ls)))

    other-measured : n ≡ length new + 1 → (over : Bool) → ltb room n ≡ over
        → let x = read_changed g l new e (unread ls) in
        EndsWith (elim over [ true ↦ 26 | false ↦ measured c (room - n) ls ]) (once_read (λ e'. read_lines g c (length ls) e') x.0 x.1).0
    unfolding read_changed once_read EndsWith stop_number
    other-measured z true q = rw (room-false l new e ls room free (omega (arith, z, ltb-true room n q))) refl
    other-measured z false q =
        rw (room-true l new e ls room free (omega (arith, z, ltb-false room n q)))
        (more (seen (changed l new) e) (room - n) (omega (arith, z, free, ltb-false room n q, changed-length l new e ls, ap journal_length (seen-journal l e ls))))

  line-measured : (l : Line) (e : Ed) (ls : List Line) (room : ℕ) (y : Got Line) → Free room e (l ∷ ls) → Others ls
      → EndsWith (measured_by (λ left. measured c left ls) room l y) (bind (read_as g l e y) (once_read (λ e'. read_lines g c (length ls) e')) (unread ls)).0
  unfolding measured_by read_as bind
  line-measured l e ls room (stop n) free more = unfold once_read EndsWith in refl
  line-measured l e ls room (got new) free more = by (eq_line l new) refl
    where
      by : (same : Bool) → eq_line l new ≡ same
          → let x = cond same (ret (gave tt (seen (kept l) e))) (read_changed g l new e) (unread ls) in
          EndsWith (elim (ltb room (extra l new)) [ true ↦ 26 | false ↦ measured c (room - extra l new) ls ]) (once_read (λ e'. read_lines g c (length ls) e') x.0 x.1).0
      by true q = unfold once_read in (same-measured l new e ls room (extra l new) free more (extra-same l new q) (ltb room (extra l new)) refl)
      by false q = other-measured l new e ls room (extra l new) free more (extra-other l new q) (ltb room (extra l new)) refl

  -- THE LAW OF MEASURING
  pub lines-measured : (ls : List Line) (e : Ed) (room : ℕ) → Free room e ls → EndsWith (measured c room ls) (read_lines g c (length ls) e (unread ls)).0
  unfolding measured read_lines read_line read_as left_by bind
  lines-measured [] e room free = unfold EndsWith in refl
  lines-measured (l ∷ ls) e room free = line-measured l e ls room (left_by c l) free (λ x r f. lines-measured ls x r f)
