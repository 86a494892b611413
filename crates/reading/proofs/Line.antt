-- One line read through the globals, the gap standing before it: it passes the gap. Assumes nothing.
use Rattle.std.specs.Prelude.{Ok}
use mathlib.Core.Path.{◌≡◌, refl, sym, ap, ◌∙◌}
use mathlib.Core.Bool.{true, false}
use Prim.Native.Nat.{ℕ, ◌+◌, ◌-◌, ◌≤◌, ◌<◌}
use native.Mathlib.Omega.{arith}
use mathlib.Core.List.{List, [], ◌∷◌, ◌++◌, map, reverse_aux}
use lib.ListN.{length, take, length-append}
use borrow.Author.Tests.{le-leb, lt-leb}
use Rattle.definitions.specs.Bytes.{Line, eq_line, is_line}
use Rattle.definitions.specs.Journal.{Record, kept, changed, record_length, journal_length}
use Rattle.definitions.specs.Tape.{unread, rest_lines}
use Rattle.definitions.specs.Given.{Given, Carried}
use Rattle.definitions.specs.Globals.{left_by}
use Rattle.definitions.specs.Editor.{Ed, ed, records, journal, n25, stop_number, Got, got, stop}
use Rattle.definitions.specs.Reading.{seen, has_room, read_changed, read_as, read_line}
use Rattle.theorems.specs.RecordLaws.{reverse-append, reverse_twice}
use Rattle.theorems.specs.GoodGlobals.{left-line}
use Rattle.editor.specs.Records.{enc, enc_all, enc_before}
use Rattle.editor.specs.Shows.{Holds, PassesOver, lent}
use Rattle.editor.specs.declared.State.{State}
use Rattle.std.specs.Prelude.{Ok}
use Rattle.editor.specs.Stops.{Moved, stopping}
use Rattle.editor.specs.declared.Stop.TheVariants.{LineLong, JournalFull}
use Rattle.editor.proofs.Held.{held-length, held_bytes}
use Rattle.editor.proofs.Parts.{lent_same}
use Rattle.editor.proofs.Inserting.{held-journal, length-reverse}
use Rattle.globals.specs.Standing.{Standing}
use Rattle.globals.specs.Passing.{Passed, too-long, LeftAs}
use Rattle.reading.specs.Lines.{passed_of, HoldsUnread, AtUnread, ArrivedAt, Arrived, KeptAt, PassesText, JustPassed, SomePassed, TakesText}
use Rattle.reading.specs.Carrying.{SomeStand}
use Rattle.reading.proofs.Stands.{stand-good}

-- ---- the records as far as read

reverse-last : (a b : List Record) (r : Record) → reverse_aux (a ++ (r ∷ [])) b ≡ r ∷ reverse_aux a b
reverse-last [] b r = refl
reverse-last (x ∷ a) b r = reverse-last a (x ∷ b) r

pub passed-seen : (r : Record) (e : Ed) → passed_of (seen r e) ≡ r ∷ passed_of e
unfolding passed_of seen
passed-seen r (ed b a p) = reverse-last a b r

-- with the unread lines they are the journal
pub unread-journal : (e : Ed) (ls : List Line) → reverse_aux (passed_of e) (map kept ls) ≡ journal e (unread ls)
unfolding passed_of journal records rest_lines
unread-journal (ed b a p) ls = reverse_twice a b (map kept ls) ∙ reverse-append b a (map kept ls)

-- its length
pub unread-room : {j : List ℕ} {st : State} (e : Ed) (ls : List Line) → HoldsUnread j st e ls → journal_length (journal e (unread ls)) + (st.back - st.front) ≡ length j
unread-room e ls h = rw (← unread-journal e ls) (held-journal h)

-- and with one record more
pub seen-length : (r : Record) (e : Ed) (ls : List Line) → journal_length (journal (seen r e) (unread ls)) ≡ record_length r + (journal_length (passed_of e) + journal_length (map kept ls))
unfolding journal_length
seen-length r e ls =
    ap journal_length (sym (unread-journal (seen r e) ls) ∙ ap (λ (z : List Record). reverse_aux z (map kept ls)) (passed-seen r e))
    ∙ omega (arith, length-reverse (r ∷ passed_of e) (map kept ls))

-- the changed record is longer by the new line and its end
pub changed-length : (l new : Line) (e : Ed) (ls : List Line)
    → journal_length (journal (seen (changed l new) e) (unread ls)) ≡ journal_length (journal (seen (kept l) e) (unread ls)) + (length new + 1)
unfolding record_length
changed-length l new e ls = omega (arith, seen-length (changed l new) e ls, seen-length (kept l) e ls)

-- ---- 26

module _ (j : List ℕ) (l new : Line) (e : Ed) (ls : List Line) where
  abbrev after : ℕ
  after = journal_length (journal (seen (changed l new) e) (unread ls))

  pub has_room_lem : after ≤ length j → has_room (lent j) (journal (seen (changed l new) e) (unread ls)) ≡ true
  unfolding has_room lent
  has_room_lem h = le-leb _ _ h

  pub has-none : length j < after → has_room (lent j) (journal (seen (changed l new) e) (unread ls)) ≡ false
  unfolding has_room lent
  has-none h = lt-leb _ _ h

-- ---- the line has passed the gap

module _ {j : List ℕ} {st : State} (e : Ed) (l new : Line) (ls : List Line) (h : Holds j st (kept l ∷ passed_of e) (map kept ls)) where
  pub passed-holds : HoldsUnread j st (seen (kept l) e) ls
  passed-holds = rw (passed-seen (kept l) e) h

  -- its text is as it was
  pub take_same : (g : Given) → eq_line l new ≡ true → Arrived j (Ok st) (read_as g l e (got new) (unread ls))
  unfolding read_as ArrivedAt rest_lines
  take_same g q = rw q passed-holds

  -- the changed record does not fit
  pub take-full : eq_line l new ≡ false → st.back - st.front < length new + 1 → Arrived j (stopping JournalFull st) (read_as (lent j) l e (got new) (unread ls))
  unfolding read_as read_changed ArrivedAt rest_lines stop_number
  take-full q full =
      let over : length j < journal_length (journal (seen (changed l new) e) (unread ls)) = omega (arith, changed-length l new e ls, unread-room (seen (kept l) e) ls passed-holds) in
      rw (q, has-none j l new e ls over) (refl, passed-holds)

  -- it fits, and stands in its place
  pub take-changed : (k : List ℕ) (s : State) → eq_line l new ≡ false → length new + 1 ≤ st.back - st.front → Holds k s (changed l new ∷ passed_of e) (map kept ls)
      → Arrived k (Ok s) (read_as (lent j) l e (got new) (unread ls))
  unfolding read_as read_changed ArrivedAt rest_lines
  take-changed k s q fits held =
      let in-it : journal_length (journal (seen (changed l new) e) (unread ls)) ≤ length j = omega (arith, changed-length l new e ls, unread-room (seen (kept l) e) ls passed-holds) in
      rw (q, has_room_lem j l new e ls in-it, passed-seen (changed l new) e) held

-- the globals stop on it
pub take_long : {j : List ℕ} {st : State} (g : Given) (e : Ed) (l : Line) (ls : List Line) → Holds j st (kept l ∷ passed_of e) (map kept ls)
    → Arrived j (stopping LineLong st) (read_as g l e (stop n25) (unread ls))
unfolding read_as ArrivedAt rest_lines stop_number
take_long g e l ls h = (refl, rw (passed-seen (kept l) e) h)

-- ---- the text that the globals leave

pub left-long : (line : List ℕ) (x : Got Line) → LeftAs too-long line x → x ≡ stop n25
unfolding LeftAs
left-long line (got l) h = absurd h
left-long line (stop n) h = rw h

pub left-text : (m : ℕ) (line : List ℕ) (x : Got Line) → LeftAs (Ok m) line x → (m ≤ 255) × (x ≡ got (take m line))
unfolding LeftAs
left-text m line (got l) h = (h.0, ap got h.1)
left-text m line (stop n) h = absurd h

-- ---- the first unread line

none_more : {j : List ℕ} {st : State} {b : List Record} → Holds j st b [] → st.back < length j → ⊥
unfolding enc_all
none_more h more = omega (arith, held-length h)

module _ {j : List ℕ} {st : State} {b : List Record} where
  -- it is a kept record, which can pass the gap
  pub unread-passable : (ls : List Line) → Holds j st b (map kept ls) → st.back < length j
      → (c : List Record) × (l : Line) × (xs : List Line) × Holds j st c (kept l ∷ map kept xs)
  unread-passable [] h more = absurd (none_more h more)
  unread-passable (l ∷ xs) h more = (b, l, xs, h)

  pub some-kept : (ls : List Line) → Holds j st b (map kept ls) → st.back < length j → KeptAt j st.back
  some-kept ls h more =
      let w = unread-passable ls h more in
      (w.1, enc_all (map kept w.2), w.3.good.0, held_bytes w.3)

-- it has passed the gap
pub near_of : {j k : List ℕ} {st s : State} {b : List Record} (l : Line) (a : List Record) → Holds j st b (kept l ∷ a) → Holds k s (kept l ∷ b) a → JustPassed k s st.front l b a
unfolding enc_before
near_of {b = b} l a h held = record {
  holds = held;
  start = omega (arith, h.front, held.front, length-append (enc_before b) (enc (kept l)), length-append l (10 ∷ []));
}

-- what the globals leave is a line
pub left-good : (s w : List ℕ) (c : Carried) (l new : Line) → Standing s w c → left_by c l ≡ got new → is_line l ≡ true → is_line new ≡ true
left-good s w c l new h q good = left-line c l new (stand-good s w c h) q good

-- THE LAW OF A LINE: it stops, or it is read as the globals leave it
module _ {j k : List ℕ} {st s : State} (script w : List ℕ) (r : Passed) (line : List ℕ) (passes : PassesText script w j st.back r line) (moves : PassesOver j st k s) where
  left_as : (b : List Record) (c : Carried) (l : Line) (ls : List Line) → Standing script w c → Holds j st b (map kept (l ∷ ls)) → LeftAs r line (left_by c l)
  left_as b c l ls stands h = passes l (enc_all (map kept ls)) c h.good.0 (held_bytes h) stands

  pub line-long : r ≡ too-long → (e : Ed) (c : Carried) (l : Line) (ls : List Line) → Standing script w c → HoldsUnread j st e (l ∷ ls)
      → Arrived k (stopping LineLong s) (read_line (lent j) c e (unread (l ∷ ls)))
  unfolding read_line
  line-long is e c l ls stands h =
      rw (left-long line (left_by c l) (rw is at (left_as (passed_of e) c l ls stands h))) (take_long (lent j) e l ls (moves.0 (passed_of e) (kept l) (map kept ls) h))

  module _ {m : ℕ} (is : r ≡ Ok m) where
    left-new : (b : List Record) (c : Carried) (l : Line) (ls : List Line) → Standing script w c → Holds j st b (map kept (l ∷ ls)) → (m ≤ 255) × (left_by c l ≡ got (take m line))
    left-new b c l ls stands h = left-text m line (left_by c l) (rw is at (left_as b c l ls stands h))

    -- what is asked to read it
    pub line-asks : SomeStand script w → AtUnread j st → st.back < length j → length line ≡ 256
        → SomePassed k s st.front × (m ≤ length line) × (is_line (take m line) ≡ true)
    line-asks stands (b, [], h) more long = absurd (none_more h more)
    line-asks (c, stands) (b, l ∷ ls, h) more long =
        let new = left-new b c l ls stands h in
        ((l, b, map kept ls, near_of l (map kept ls) h (moves.0 b (kept l) (map kept ls) h)), omega (arith, new.0, long), left-good script w c l (take m line) stands new.1 h.good.0)

    pub line-takes : (i : List ℕ) (x : Moved) → length k ≡ length j → TakesText st.front (take m line) k s i x
        → (e : Ed) (c : Carried) (l : Line) (ls : List Line) → Standing script w c → HoldsUnread j st e (l ∷ ls) → Arrived i x (read_line (lent j) c e (unread (l ∷ ls)))
    unfolding read_line
    line-takes i x same takes e c l ls stands h =
        rw ((left-new (passed_of e) c l ls stands h).1, ← lent_same j k same) (takes e l ls (near_of l (map kept ls) h (moves.0 (passed_of e) (kept l) (map kept ls) h)))
