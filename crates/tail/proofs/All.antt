-- The unread lines of a done run: all of them are passed through the globals, or none. Assumes nothing.
use mathlib.Core.Path.{◌≡◌, refl, sym, ap, ◌∙◌}
use Prim.Native.Nat.{ℕ, suc, ◌+◌, ◌-◌, ◌≤◌, ◌<◌}
use native.Mathlib.Omega.{arith}
use mathlib.Core.List.{List, [], ◌∷◌, ◌++◌, map, append-nil}
use lib.ListN.{length}
use Rattle.definitions.specs.Bytes.{Line}
use Rattle.definitions.specs.Journal.{Record, kept}
use Rattle.definitions.specs.Tape.{Tape, unread, ended, rest_lines, Reads}
use Rattle.definitions.specs.Given.{Given, Carried, no_globals}
use Rattle.definitions.specs.Editor.{Ed, ed, before_of, after_of, records, journal, sources, n20, n21, n22, n23, n24, n25, n26, n27, n28, n30, n31, stop_number, eof}
use Rattle.definitions.specs.Editor.{Stop as StopNumber}
use Rattle.definitions.specs.Reading.{Ran, gave, stopped, read_lines, read_to}
use Rattle.theorems.specs.Words.{NoGlobal, none_reads}
use Rattle.theorems.specs.ReadLines.{seen_all, read-eof, runs-read, lines-ended}
use Rattle.theorems.specs.RecordLaws.{sources-reverse}
use Rattle.editor.specs.Shows.{Shows, lent, Walks, to_source}
use Rattle.editor.specs.declared.State.{State}
use Rattle.std.specs.Prelude.{Result, Ok, Err}
use Rattle.editor.specs.Stops.{Moved, numbered, stopping}
use Rattle.editor.specs.declared.Stop.{Stop}
use Rattle.editor.proofs.Reading.{reach_of, shown-reach, journal-is}
use Rattle.editor.proofs.Parts.{lent_same}
use Rattle.globals.specs.Standing.{Standing}
use Rattle.reading.specs.Lines.{passed_of, HoldsUnread, AtUnread, ArrivedAt, Arrived, ReadsLines}
use Rattle.reading.proofs.Line.{unread-journal, unread-room}
use Rattle.reading.proofs.To.{ending, all_lines, lines-read, LinesWent, reached-on, read_count, first_holds}
use Rattle.tail.specs.Rest.{measured, Tells, Measures, HoldsAll, RestLeft}
use Rattle.tail.proofs.Measuring.{EndsWith, lines-measured}

-- ---- nothing is passed

-- what is shown is held
pub holds-journal : {j : List ℕ} {st : State} (e : Ed) (t : Tape) → Shows j st e t → HoldsAll j st (journal e t)
unfolding before_of after_of
holds-journal (ed b a p) t h = (b, a ++ map kept (rest_lines t), h.holds, journal-is b a p t)

left-on : (k : List ℕ) (s : State) (was : List Record) (x : Ran (Unit {0})) (y : Ed) → x ≡ gave tt y → HoldsAll k s (records y) → RestLeft k (Ok s) was x
unfolding RestLeft
left-on k s was x y q h = rw q h

left-stop : (k : List ℕ) (s : State) (was : List Record) (x : Ran (Unit {0})) (m : Stop) (n : StopNumber) (y : Ed) → x ≡ stopped n y → numbered m ≡ stop_number n → HoldsAll k s was → RestLeft k (stopping m s) was x
unfolding RestLeft
left-stop k s was x m n y q same h = rw q (same, h)

seen-journal : (e : Ed) (t : Tape) → records (seen_all (rest_lines t) e) ≡ journal e t
unfolding seen_all records
seen-journal (ed b a p) t = journal-is b a p t

-- no global stands
pub none_passed : {j : List ℕ} {st : State} (g : Given) (e : Ed) (c : Carried) (t : Tape) → NoGlobal c → Shows j st e t → RestLeft j (Ok st) (journal e t) (read_to g c eof e t).0
none_passed {j} {st} g e c t none h =
    let all : read_to g c eof e t ≡ (gave tt (seen_all (rest_lines t) e), ended) =
    ap (λ (r : Reads (Ran (Unit {0}))). r t) (none_reads g c none eof e) ∙ sym (runs-read g no_globals eof e t) ∙ read-eof g e t in
    left-on j st (journal e t) (read_to g c eof e t).0 (seen_all (rest_lines t) e) (ap (λ (x : Ran (Unit {0}) × Tape). x.0) all) (rw (seen-journal e t) (holds-journal e t h))

-- EOF is read
pub eof-passed : {j : List ℕ} {st : State} (g : Given) (e : Ed) (c : Carried) (t : Tape) → Shows j st e t → st.lines < st.furthest → RestLeft j (Ok st) (journal e t) (read_to g c eof e t).0
unfolding read_to rest_lines reach_of
eof-passed g e c (unread ls) h far = absurd (omega (arith, far, shown-reach e (unread ls) h))
eof-passed {j} {st} g e c ended h far =
    left-on j st (journal e ended) (read_lines g c 1 e ended).0 e (ap (λ (x : Ran (Unit {0}) × Tape). x.0) (lines-ended g c 1 e)) (rw (← end e) (holds-journal e ended h))
  where
    end : (e : Ed) → journal e ended ≡ records e
    end e = unfold journal in (append-nil (records e))

-- ---- the lines behind the gap

-- EOF makes no difference
ending-same : (x : Ran (Unit {0}) × Tape) → (ending x).0 ≡ x.0
unfolding ending
ending-same (gave u e, t) = refl
ending-same (stopped n e, t) = refl

rest_read : (g : Given) (c : Carried) (e : Ed) (ls : List Line) → (read_to g c eof e (unread ls)).0 ≡ (read_lines g c (length ls) e (unread ls)).0
unfolding read_to rest_lines
rest_read g c e ls =
    ap (λ (x : Ran (Unit {0}) × Tape). x.0) (all_lines g c ls e (suc (length ls)) (omega arith)) ∙ ending-same (read_lines g c (length ls) e (unread ls))

-- they are held
unread-held : {k : List ℕ} {s : State} (e : Ed) (ls : List Line) → HoldsUnread k s e ls → HoldsAll k s (journal e (unread ls))
unread-held e ls h = (passed_of e, map kept ls, h, unread-journal e ls)

all_held : {k : List ℕ} {s : State} (e : Ed) → HoldsUnread k s e [] → HoldsAll k s (records e)
all_held {k} {s} e h = rw (← end e) (unread-held e [] h)
  where
    end : (e : Ed) → journal e (unread []) ≡ records e
    end e = unfold journal rest_lines in (append-nil (records e))

-- by the number that is measured
ends-stop : (m : ℕ) (x : Ran (Unit {0})) → EndsWith m x → (m ≡ 0 → ⊥) → (n : StopNumber) × (y : Ed) × (x ≡ stopped n y) × (m ≡ stop_number n)
unfolding EndsWith
ends-stop m (gave u y) h some = absurd (some h)
ends-stop m (stopped n y) h some = (n, y, refl, h)

number-some : (n : StopNumber) → 0 ≡ stop_number n → ⊥
unfolding stop_number
number-some n20 q = omega arith
number-some n21 q = omega arith
number-some n22 q = omega arith
number-some n23 q = omega arith
number-some n24 q = omega arith
number-some n25 q = omega arith
number-some n26 q = omega arith
number-some n27 q = omega arith
number-some n28 q = omega arith
number-some n30 q = omega arith
number-some n31 q = omega arith

no-rest : (n : ℕ) (rest : List Line) → n + length rest ≡ n → rest ≡ []
no-rest n [] h = refl
no-rest n (l ∷ rest) h = absurd (omega (arith, h))

module _ {j k : List ℕ} {st s : State} (b a : List Record) (p : ℕ) (ls : List Line) (h : Shows j st (ed b a p) (unread ls)) (walks : Walks (to_source st.furthest) j st k s) where
  held : HoldsUnread k s (ed b a p) ls
  held = first_holds b a p ls h walks

  -- so many lines are behind the gap
  left-count : st.lines - s.past ≡ length ls
  left-count =
      let past : s.past ≡ st.furthest = held.past ∙ past_of b a p ∙ (read_count (ed b a p) ls h).0 in
      omega (arith, past, (read_count (ed b a p) ls h).1)
    where
      turn : (b a : List Record) → sources a + sources b ≡ sources b + sources a
      turn b a = omega arith

      past_of : (b a : List Record) (p : ℕ) → sources (passed_of (ed b a p)) ≡ sources (records (ed b a p))
      past_of b a p = unfold passed_of records in (sources-reverse a b ∙ turn b a ∙ sym (sources-reverse b a))

  module _ (same : length k ≡ length j) (c : Carried) where
    -- what is measured is what they come to
    rest-ends : (m : ℕ) → m ≡ measured c (s.back - s.front) ls → EndsWith m (read_lines (lent j) c (length ls) (ed b a p) (unread ls)).0
    unfolding lent
    rest-ends m q = rw q (lines-measured (length j) c ls (ed b a p) (s.back - s.front) (unread-room (ed b a p) ls held ∙ same))

    -- they stop
    stops_so : (m : Stop) → numbered m ≡ measured c (s.back - s.front) ls → (numbered m ≡ 0 → ⊥) → RestLeft k (stopping m s) (journal (ed b a p) (unread ls)) (read_to (lent j) c eof (ed b a p) (unread ls)).0
    stops_so m q some =
        let w : (n : StopNumber) × (y : Ed) × ((read_lines (lent j) c (length ls) (ed b a p) (unread ls)).0 ≡ stopped n y) × (numbered m ≡ stop_number n) =
        ends-stop (numbered m) (read_lines (lent j) c (length ls) (ed b a p) (unread ls)).0 (rest-ends (numbered m) q) some in
        left-stop k s (journal (ed b a p) (unread ls)) (read_to (lent j) c eof (ed b a p) (unread ls)).0 m w.0 w.1 (rest_read (lent j) c (ed b a p) ls ∙ w.2) w.3
        (unread-held (ed b a p) ls held)

    -- they do not, and are read
    passes-so : 0 ≡ measured c (s.back - s.front) ls → (i : List ℕ) (r : Moved) → Arrived i r (read_lines (lent j) c (length ls) (ed b a p) (unread ls))
        → RestLeft i r (journal (ed b a p) (unread ls)) (read_to (lent j) c eof (ed b a p) (unread ls)).0
    passes-so q i (Ok u) reached =
        let x : Ran (Unit {0}) × Tape = read_lines (lent j) c (length ls) (ed b a p) (unread ls) in
        let o : LinesWent i u (ed b a p) (length ls) ls x = reached-on (ed b a p) (length ls) ls x (lines-read (lent j) c (length ls) (ed b a p) ls (omega arith)) reached in
        let none : o.rest ≡ [] = no-rest (length ls) o.rest o.all in
        left-on i u (journal (ed b a p) (unread ls)) (read_to (lent j) c eof (ed b a p) (unread ls)).0 _
        (rest_read (lent j) c (ed b a p) ls ∙ ap (λ (y : Ran (Unit {0}) × Tape). y.0) o.is) (all_held _ (rw none at o.holds))
    passes-so q i (Err u) reached = absurd (never ((read_lines (lent j) c (length ls) (ed b a p) (unread ls))) (rest-ends 0 q) reached)
      where
        never : (x : Ran (Unit {0}) × Tape) → EndsWith 0 x.0 → Arrived i (Err u) x → ⊥
        never (gave v y, t) e n = unfold ArrivedAt in n
        never (stopped n y, t) e w = number-some n (unfold EndsWith in e)

-- ---- the same of any text that is shown

module _ {j k : List ℕ} {st s : State} (walks : Walks (to_source st.furthest) j st k s) (more : st.furthest ≤ st.lines) where
  none-ended : (e : Ed) → Shows j st e ended → ⊥
  unfolding reach_of
  none-ended e h = omega (arith, more, shown-reach e ended h)

  pub rest-asks : (e : Ed) (t : Tape) → Shows j st e t → AtUnread k s × (st.lines ≤ s.lines)
  rest-asks (ed b a p) (unread ls) h = ((passed_of (ed b a p), ls, held b a p ls h walks), omega (arith, walks.1.lines))
  rest-asks e ended h = absurd (none-ended e h)

  module _ (same : length k ≡ length j) (script w : List ℕ) (m : Result (Unit {0}) Stop) (measures : Measures script w k s m) where
    -- what is measured of the text that is shown
    tells : (r : Result (Unit {0}) Stop) → m ≡ r → (b a : List Record) (p : ℕ) (ls : List Line) (c : Carried) → Standing script w c → Shows j st (ed b a p) (unread ls)
        → Tells r (measured c (s.back - s.front) ls)
    tells r is b a p ls c stands h = rw is at (measures (passed_of (ed b a p)) ls c stands (held b a p ls h walks))

    pub rest-stops : (i : Stop) → m ≡ Err i → (e : Ed) (c : Carried) (t : Tape) → Standing script w c → Shows j st e t
        → RestLeft k (stopping i s) (journal e t) (read_to (lent j) c eof e t).0
    unfolding Tells
    rest-stops i is (ed b a p) c (unread ls) stands h =
        let y = tells (Err i) is b a p ls c stands h in
        stops_so b a p ls h walks same c i y.0 y.1
    rest-stops i is e c ended stands h = absurd (none-ended e h)

    pub rest-passes : (u : Unit {0}) → m ≡ Ok u → (i : List ℕ) (r : Moved) → ReadsLines script w k s st.lines i r
        → (e : Ed) (c : Carried) (t : Tape) → Standing script w c → Shows j st e t → RestLeft i r (journal e t) (read_to (lent j) c eof e t).0
    unfolding Tells
    rest-passes u is i r reads (ed b a p) c (unread ls) stands h =
        passes-so b a p ls h walks same c (tells (Ok u) is b a p ls c stands h) i r
        (rw (← left-count b a p ls h walks, ← lent_same j k same) (reads (ed b a p) c ls stands (held b a p ls h walks)))
    rest-passes u is i r reads e c ended stands h = absurd (none-ended e h)
