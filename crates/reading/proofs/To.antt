-- Up to a source line, and up to EOF: the gap goes to the first unread line and comes back. Assumes nothing.
use mathlib.Core.Path.{◌≡◌, refl, sym, ap, ◌∙◌}
use mathlib.Core.Logic.{◌⊎◌, inl, inr}
use Prim.Native.Nat.{ℕ, zero, suc, ◌+◌, ◌-◌, ◌≤◌, ◌<◌, min}
use native.Mathlib.Nat.{eq-zero-or-pos}
use native.Mathlib.Omega.{arith}
use mathlib.Core.List.{List, [], ◌∷◌, ◌++◌, map, reverse_aux, append_assoc, append-nil}
use lib.ListN.{length}
use Rattle.definitions.specs.Bytes.{Line}
use Rattle.definitions.specs.Journal.{Record, kept, changed, deleted, inserted, old_of, old_side, up_to_line, after_line}
use Rattle.definitions.specs.Tape.{Tape, unread, ended, rest_lines, bind}
use Rattle.definitions.specs.Given.{Given, Carried}
use Rattle.definitions.specs.Editor.{Ed, ed, before_of, after_of, records, sources, furthest, stop_number, line, eof}
use Rattle.definitions.specs.Editor.{Stop as StopNumber}
use Rattle.definitions.specs.Reading.{Ran, gave, stopped, once_read, seen, read_line, read_lines, read_to}
use Rattle.definitions.specs.StepProgram.{runs}
use Rattle.definitions.specs.Edit.{read_up_to}
use Rattle.theorems.specs.Words.{NoGlobal, none_runs}
use Rattle.theorems.specs.RecordLaws.{reverse-append, reverse_twice, sources-append, sources-reverse, sources-kept}
use Rattle.theorems.specs.ReadLines.{runs-read, lines-ended}
use Rattle.editor.specs.Shows.{Holds, Shows, GroundedAt, lent, Came, Walks, on_to, to_source, raised}
use Rattle.editor.specs.declared.State.{State}
use Rattle.std.specs.Prelude.{Ok}
use Rattle.editor.specs.Stops.{Moved, numbered, stopping}
use Rattle.editor.specs.declared.Stop.{Stop}
use Rattle.editor.proofs.Records.{sources-cons, sources-nil}
use Rattle.editor.proofs.Held.{holds-lists}
use Rattle.editor.proofs.Reading.{reach_of, shown-reach, unread-few, shows-of, reads-line}
use Rattle.editor.proofs.Parts.{lent_same, came-on, came-stop}
use Rattle.globals.specs.Standing.{Standing}
use Rattle.reading.specs.Lines.{passed_of, HoldsUnread, AtUnread, ArrivedAt, Arrived, ReadsLines, BackAsks, ComesBack}
use Rattle.reading.proofs.Going.{grown, OneRead, one_on, one_stops, one-read}

-- EOF is read where no line stops
unfoldable pub ending : Ran (Unit {0}) × Tape → Ran (Unit {0}) × Tape
ending (gave u e, t) = (gave u e, ended)
ending (stopped n e, t) = (stopped n e, t)

-- all lines, and EOF
pub all_lines : (g : Given) (c : Carried) (ls : List Line) (e : Ed) (n : ℕ) → length ls < n → read_lines g c n e (unread ls) ≡ ending (read_lines g c (length ls) e (unread ls))
unfolding read_lines bind
all_lines g c [] e zero h = absurd (omega arith)
all_lines g c [] e (suc n) h = unfold read_line once_read ending in (lines-ended g c n e)
all_lines g c (l ∷ ls) e zero h = absurd (omega arith)
all_lines g c (l ∷ ls) e (suc n) h = by (read_line g c e (unread (l ∷ ls))) (one-read g c e l ls) (λ e'. all_lines g c ls e' n (omega arith))
  where
    by : (x : Ran (Unit {0}) × Tape) → OneRead e ls x.0 x.1 → ((e' : Ed) → read_lines g c n e' (unread ls) ≡ ending (read_lines g c (length ls) e' (unread ls)))
        → once_read (λ e'. read_lines g c n e') x.0 x.1 ≡ ending (once_read (λ e'. read_lines g c (length ls) e') x.0 x.1)
    by (gave u e', t) (one_on r q) more = unfold once_read in (more (seen r e))
    by (stopped k e', t) (one_stops m r q) more = unfold once_read ending in refl

-- ---- what lines that are read come to

grown-none : (e : Ed) → e ≡ grown [] e
unfolding grown
grown-none (ed b a p) = ap (λ (z : List Record). ed b z p) (sym (append-nil a))

grown-more : (r : Record) (m : List Record) (e : Ed) → grown m (seen r e) ≡ grown (r ∷ m) e
unfolding grown seen
grown-more r m (ed b a p) = ap (λ (z : List Record). ed b z p) (append_assoc a (r ∷ []) m)

-- records of them after the others, and the lines after them unread
unfoldable pub LinesRead : Ed → ℕ → List Line → Ran (Unit {0}) → Tape → Type 0
LinesRead e n ls (gave u x) t = (m : List Record) × (rest : List Line) × (x ≡ grown m e) × (t ≡ unread rest) × (sources m ≡ n) × (n + length rest ≡ length ls)
LinesRead e n ls (stopped k x) t = (m : List Record) × (rest : List Line) × (x ≡ grown m e) × (t ≡ unread rest)

read_more : (e : Ed) (r : Record) (n : ℕ) (l : Line) (ls : List Line) → sources (r ∷ []) ≡ 1 → (x : Ran (Unit {0}) × Tape) → LinesRead (seen r e) n ls x.0 x.1
    → LinesRead e (suc n) (l ∷ ls) x.0 x.1
unfolding LinesRead
read_more e r n l ls q (gave u x, t) (m, rest, is, at, few, all) =
    (r ∷ m, rest, is ∙ grown-more r m e, at, omega (arith, q, few, sources-cons r m, sources-cons r [], sources-nil), omega (arith, all))
read_more e r n l ls q (stopped k x, t) (m, rest, is, at) = (r ∷ m, rest, is ∙ grown-more r m e, at)

pub lines-read : (g : Given) (c : Carried) (n : ℕ) (e : Ed) (ls : List Line) → n ≤ length ls
    → LinesRead e n ls (read_lines g c n e (unread ls)).0 (read_lines g c n e (unread ls)).1
unfolding read_lines bind
lines-read g c zero e ls h = unfold LinesRead in ([], ls, grown-none e, refl, sources-nil, omega arith)
lines-read g c (suc n) e [] h = absurd (omega arith)
lines-read g c (suc n) e (l ∷ ls) h = by (read_line g c e (unread (l ∷ ls))) (one-read g c e l ls) (λ e'. lines-read g c n e' ls (omega arith))
  where
    by : (x : Ran (Unit {0}) × Tape) → OneRead e ls x.0 x.1
        → ((e' : Ed) → LinesRead e' n ls (read_lines g c n e' (unread ls)).0 (read_lines g c n e' (unread ls)).1)
        → let y = once_read (λ e'. read_lines g c n e') x.0 x.1 in LinesRead e (suc n) (l ∷ ls) y.0 y.1
    by (gave u e', t) (one_on r q) more = unfold once_read in (read_more e r n l ls q (read_lines g c n (seen r e) (unread ls)) (more (seen r e)))
    by (stopped k e', t) (one_stops m r q) more = unfold once_read LinesRead grown seen in (stop-read e r)
      where
        stop-read : (e : Ed) (r : Record) → (m : List Record) × (rest : List Line) × (seen r e ≡ grown m e) × (unread ls ≡ unread rest)
        stop-read (ed b a p) r = (r ∷ [], ls, unfold seen grown in refl, refl)

-- ---- to the first unread line

up-to-all : (rs : List Record) (ls : List Line) → (up_to_line (sources rs) (rs ++ map kept ls) ≡ rs) × (after_line (sources rs) (rs ++ map kept ls) ≡ map kept ls)
unfolding up_to_line after_line sources old_side old_of
up-to-all [] [] = (refl, refl)
up-to-all [] (l ∷ ls) = (refl, refl)
up-to-all (kept l ∷ rs) ls = (ap {B = List Record} (λ z. kept l ∷ z) (up-to-all rs ls).0, (up-to-all rs ls).1)
up-to-all (changed o n ∷ rs) ls = (ap {B = List Record} (λ z. changed o n ∷ z) (up-to-all rs ls).0, (up-to-all rs ls).1)
up-to-all (deleted l ∷ rs) ls = (ap {B = List Record} (λ z. deleted l ∷ z) (up-to-all rs ls).0, (up-to-all rs ls).1)
up-to-all (inserted l ∷ rs) ls = (ap {B = List Record} (λ z. inserted l ∷ z) (up-to-all rs ls).0, (up-to-all rs ls).1)

pub source-unread : (b a : List Record) (ls : List Line) → to_source (sources (reverse_aux b a)) b (a ++ map kept ls) ≡ (reverse_aux a b, map kept ls)
unfolding to_source on_to
source-unread b a ls =
    let rs : List Record = reverse_aux b a in
    let all : reverse_aux b (a ++ map kept ls) ≡ rs ++ map kept ls = reverse-append b a (map kept ls) in
    let none : sources rs - sources [] ≡ sources rs = omega (arith, sources-nil) in
    let turn : reverse_aux rs [] ≡ reverse_aux a b = reverse_twice b a [] ∙ ap (reverse_aux a) (append-nil b) in
    rw (all, none, (up-to-all rs ls).0, (up-to-all rs ls).1, turn)

-- ---- what is read, and what is unread

-- so many lines are read, and so many are not
pub read_count : {j : List ℕ} {st : State} (e : Ed) (ls : List Line) → Shows j st e (unread ls) → (sources (records e) ≡ st.furthest) × (st.furthest + length ls ≡ st.lines)
unfolding reach_of rest_lines furthest
read_count e ls h = (sym h.furthest, omega (arith, shown-reach e (unread ls) h, unread-few e (unread ls) h))

-- up to source line q: as far as there are lines, and EOF where it lies beyond them
to-line : {j : List ℕ} {st : State} (g : Given) (c : Carried) (q : ℕ) (e : Ed) (ls : List Line) → Shows j st e (unread ls)
    → let x = read_lines g c (min q st.lines - st.furthest) e (unread ls) in
    ((read_to g c (line q) e (unread ls) ≡ x) × (q ≤ st.lines)) ⊎ ((read_to g c (line q) e (unread ls) ≡ ending x) × (st.lines < q))
unfolding read_to
to-line {st = st} g c q e ls h = by (eq-zero-or-pos (q - st.lines)) (read_count e ls h)
  where
    by : (q - st.lines ≡ 0) ⊎ (0 < q - st.lines) → (sources (records e) ≡ st.furthest) × (st.furthest + length ls ≡ st.lines)
        → let x = read_lines g c (min q st.lines - st.furthest) e (unread ls) in
        ((read_lines g c (q - sources (records e)) e (unread ls) ≡ x) × (q ≤ st.lines)) ⊎ ((read_lines g c (q - sources (records e)) e (unread ls) ≡ ending x) × (st.lines < q))
    by (inl z) (is, all) =
        let same : q - sources (records e) ≡ min q st.lines - st.furthest = omega (arith, z, is) in
        inl (ap (λ (n : ℕ). read_lines g c n e (unread ls)) same, omega (arith, z))
    by (inr z) (is, all) =
        let few : min q st.lines - st.furthest ≡ length ls = omega (arith, z, all) in
        inr (all_lines g c ls e (q - sources (records e)) (omega (arith, z, is, all)) ∙ ap (λ (n : ℕ). ending (read_lines g c n e (unread ls))) (sym few), omega (arith, z))

-- ---- the way there and back

grown-grounded : (a m : List Record) (ls : List Line) (t : Tape) → GroundedAt a (unread ls) → GroundedAt (a ++ m) t
grown-grounded [] m ls t g = absurd g
grown-grounded (r ∷ a) m ls t g = g

module _ {j : List ℕ} {st : State} (b a : List Record) (p : ℕ) (ls : List Line) (h : Shows j st (ed b a p) (unread ls)) where
  -- the gap stands before the unread lines
  pub first_holds : {k : List ℕ} {s : State} → Walks (to_source st.furthest) j st k s → HoldsUnread k s (ed b a p) ls
  unfolding before_of after_of rest_lines passed_of
  first_holds {k} {s} walks =
      let all : sources (reverse_aux b a) ≡ st.furthest = unfold records in (read_count (ed b a p) ls h).0 in
      let is : to_source st.furthest b (a ++ map kept ls) ≡ (reverse_aux a b, map kept ls) =
      ap (λ (n : ℕ). to_source n b (a ++ map kept ls)) (sym all) ∙ source-unread b a ls in
      rw is at (walks.0 b (a ++ map kept ls) h.holds)

  module _ {k : List ℕ} {s : State} (m : List Record) (rest : List Line) (held : HoldsUnread k s (grown m (ed b a p)) rest) where
    -- what the way back asks
    pub back-asks : BackAsks st k s
    unfolding before_of after_of rest_lines passed_of grown
    back-asks = (j, b, a ++ m, map kept rest, a ++ map kept ls, h.holds, held)

    module _ {i : List ℕ} {r : State} (back : ComesBack k s st i r) where
      back-held : Holds i r b ((a ++ m) ++ map kept rest)
      unfolding before_of after_of rest_lines passed_of grown
      back-held = back j b (a ++ m) (map kept rest) (a ++ map kept ls) h.holds held

      pub back-lines : r.lines ≡ st.furthest + sources m + length rest
      back-lines =
          let all : sources (reverse_aux b a) ≡ st.furthest = unfold records in (read_count (ed b a p) ls h).0 in
          omega (arith, back-held.lines, all, sources-reverse b a, sources-append (a ++ m) (map kept rest), sources-append a m, sources-kept rest)

      pub back-past : s.past ≡ st.furthest + sources m
      unfolding passed_of grown
      back-past =
          let all : sources (reverse_aux b a) ≡ st.furthest = unfold records in (read_count (ed b a p) ls h).0 in
          omega (arith, held.past, all, sources-reverse b a, sources-reverse (a ++ m) b, sources-append a m)

      pub back-shows : (t : Tape) → rest_lines t ≡ rest → r.furthest ≡ reach_of r.lines t → r.p ≡ st.p → Shows i r (grown m (ed b a p)) t
      unfolding grown
      back-shows t is far q =
          shows-of b (a ++ m) p t (holds-lists refl (ap (λ (z : List Line). (a ++ m) ++ map kept z) (sym is)) back-held) far (q ∙ point) (grown-grounded a m ls t ground)
        where
          point : st.p ≡ p
          point = h.p

          ground : GroundedAt a (unread ls)
          ground = unfold after_of in h.grounded

-- ---- where the lines are read

-- none stops
pub record LinesWent (k : List ℕ) (s : State) (e : Ed) (n : ℕ) (ls : List Line) (x : Ran (Unit {0}) × Tape) : Type 0 where
  pub new : List Record
  pub rest : List Line
  pub is : x ≡ (gave tt (grown new e), unread rest)
  pub few : sources new ≡ n
  pub all : n + length rest ≡ length ls
  pub holds : HoldsUnread k s (grown new e) rest

pub reached-on : {k : List ℕ} {s : State} (e : Ed) (n : ℕ) (ls : List Line) (x : Ran (Unit {0}) × Tape) → LinesRead e n ls x.0 x.1 → Arrived k (Ok s) x → LinesWent k s e n ls x
unfolding LinesRead ArrivedAt rest_lines
reached-on e n ls (gave v y, t) (m, rest, is, at, few, all) h = record {
  new = m;
  rest = rest;
  is = ap {B = Ran (Unit {0}) × Tape} (λ (z : Ed). (gave tt z, t)) is ∙ ap {B = Ran (Unit {0}) × Tape} (λ (u : Tape). (gave tt (grown m e), u)) at;
  few = few;
  all = all;
  holds = rw (is, at) at h;
}
reached-on e n ls (stopped k y, t) l h = absurd h

-- one stops
pub record LinesHalted (k : List ℕ) (m : Stop) (s : State) (e : Ed) (x : Ran (Unit {0}) × Tape) : Type 0 where
  pub number : StopNumber
  pub new : List Record
  pub rest : List Line
  pub is : x ≡ (stopped number (grown new e), unread rest)
  pub same : numbered m ≡ stop_number number
  pub holds : HoldsUnread k s (grown new e) rest

pub reached-stop : {k : List ℕ} {m : Stop} {s : State} (e : Ed) (n : ℕ) (ls : List Line) (x : Ran (Unit {0}) × Tape) → LinesRead e n ls x.0 x.1 → Arrived k (stopping m s) x → LinesHalted k m s e x
unfolding LinesRead ArrivedAt rest_lines
reached-stop e n ls (gave v y, t) l h = absurd h
reached-stop e n ls (stopped i y, t) (new, rest, is, at) h = record {
  number = i;
  new = new;
  rest = rest;
  is = ap {B = Ran (Unit {0}) × Tape} (λ (z : Ed). (stopped i z, t)) is ∙ ap {B = Ran (Unit {0}) × Tape} (λ (u : Tape). (stopped i (grown new e), u)) at;
  same = h.0;
  holds = rw (is, at) at h.1;
}

ending-gave : (x : Ed) (t : Tape) → ending (gave tt x, t) ≡ (gave tt x, ended)
unfolding ending
ending-gave x t = refl

ending-stopped : (n : StopNumber) (x : Ed) (t : Tape) → ending (stopped n x, t) ≡ (stopped n x, t)
unfolding ending
ending-stopped n x t = refl

no_more : (n : ℕ) (ls rest : List Line) → n ≡ length ls → n + length rest ≡ length ls → rest ≡ []
no_more n ls [] q h = refl
no_more n ls (l ∷ rest) q h = absurd (omega (arith, q, h))

ended-rest : (rest : List Line) → rest ≡ [] → rest_lines ended ≡ rest
unfolding rest_lines
ended-rest rest q = sym q

-- THE LAW OF READING: to the first unread line, the lines up to source line q, and back
module _ {j : List ℕ} {st : State} (g : Given) (c : Carried) (q : ℕ) (b a : List Record) (p : ℕ) (ls : List Line) (h : Shows j st (ed b a p) (unread ls))
    (less : st.furthest < min q (st.lines + 1)) where
  abbrev read : Ran (Unit {0}) × Tape
  read = read_lines g c (min q st.lines - st.furthest) (ed b a p) (unread ls)

  abbrev whole : Ran (Unit {0}) × Tape
  whole = read_to g c (line q) (ed b a p) (unread ls)

  pub all_read : LinesRead (ed b a p) (min q st.lines - st.furthest) ls read.0 read.1
  all_read = lines-read g c (min q st.lines - st.furthest) (ed b a p) ls (omega (arith, (read_count (ed b a p) ls h).1))

  module _ {k i : List ℕ} {s r : State} (back : ComesBack k s st i r) (point : r.p ≡ st.p) where
    pub read-on : LinesWent k s (ed b a p) (min q st.lines - st.furthest) ls read → r.furthest ≡ min q (st.lines + 1) → Came i (Ok r) whole
    read-on o far = by (to-line g c q (ed b a p) ls h)
      where
        lines : r.lines ≡ st.furthest + sources o.new + length o.rest
        lines = back-lines b a p ls h o.new o.rest o.holds back

        in-it : q ≤ st.lines → r.furthest ≡ reach_of r.lines (unread o.rest)
        in-it low = unfold reach_of in (omega (arith, far, less, low, o.few, lines))

        beyond : st.lines < q → r.furthest ≡ reach_of r.lines ended
        beyond over = unfold reach_of in (omega (arith, far, less, over, o.few, o.all, (read_count (ed b a p) ls h).1, lines))

        by : ((whole ≡ read) × (q ≤ st.lines)) ⊎ ((whole ≡ ending read) × (st.lines < q)) → Came i (Ok r) whole
        by (inl (is, low)) = came-on (is ∙ o.is) (back-shows b a p ls h o.new o.rest o.holds back (unread o.rest) (unfold rest_lines in refl) (in-it low) point)
        by (inr (is, over)) =
            let none : o.rest ≡ [] = no_more (min q st.lines - st.furthest) ls o.rest (omega (arith, less, over, (read_count (ed b a p) ls h).1)) o.all in
            came-on (is ∙ ap ending o.is ∙ ending-gave (grown o.new (ed b a p)) (unread o.rest))
            (back-shows b a p ls h o.new o.rest o.holds back ended (ended-rest o.rest none) (beyond over) point)

    pub read-stops : (m : Stop) → LinesHalted k m s (ed b a p) read → r.furthest ≡ s.past → Came i (stopping m r) whole
    read-stops m o far =
        came-stop m (by (to-line g c q (ed b a p) ls h)) o.same
        (back-shows b a p ls h o.new o.rest o.holds back (unread o.rest) (unfold rest_lines in refl) so_far point)
      where
        so_far : r.furthest ≡ reach_of r.lines (unread o.rest)
        so_far = unfold reach_of in (omega (arith, far, back-past b a p ls h o.new o.rest o.holds back, back-lines b a p ls h o.new o.rest o.holds back))

        by : ((whole ≡ read) × (q ≤ st.lines)) ⊎ ((whole ≡ ending read) × (st.lines < q)) → whole ≡ (stopped o.number (grown o.new (ed b a p)), unread o.rest)
        by (inl w) = w.0 ∙ o.is
        by (inr w) = w.0 ∙ ap ending o.is ∙ ending-stopped o.number (grown o.new (ed b a p)) (unread o.rest)

-- ---- the same of any text that is shown

-- nothing is to be read
pub nothing_read : {j : List ℕ} {st : State} (g : Given) (c : Carried) (q : ℕ) (e : Ed) (t : Tape) → Shows j st e t → min q (st.lines + 1) ≤ st.furthest
    → Came j (Ok st) (runs g c (read_up_to (line q)) e t)
unfolding read_to rest_lines
nothing_read {j} {st} g c q e (unread ls) h far = came-on (runs-read g c (line q) e (unread ls) ∙ none) h
  where
    none : read_lines g c (q - sources (records e)) e (unread ls) ≡ (gave tt e, unread ls)
    none =
        let zero : q - sources (records e) ≡ 0 = omega (arith, far, (read_count e ls h).0, (read_count e ls h).1) in
        rw zero (unfold read_lines in refl)
nothing_read g c q e ended h far = came-on (runs-read g c (line q) e ended ∙ lines-ended g c (q - sources (records e)) e) h

-- what is done to read up to source line q
pub record ReadFrom (script w j j₁ j₂ : List ℕ) (st first : State) (q last : ℕ) (x : Moved) : Type 0 where
  pub less : st.furthest < min q (st.lines + 1)
  pub walks : Walks (to_source st.furthest) j st j₁ first
  pub same : length j₁ ≡ length j
  pub last_is : last ≡ min q st.lines
  pub reads : ReadsLines script w j₁ first last j₂ x

pub first-asks : {j j₁ : List ℕ} {st first : State} (q last : ℕ) → st.furthest < min q (st.lines + 1) → Walks (to_source st.furthest) j st j₁ first → last ≡ min q st.lines
    → (e : Ed) (t : Tape) → Shows j st e t → AtUnread j₁ first × (last ≤ first.lines)
unfolding reach_of
first-asks q last less walks is (ed b a p) (unread ls) h = ((passed_of (ed b a p), ls, first_holds b a p ls h walks), omega (arith, is, walks.1.lines))
first-asks q last less walks is (ed b a p) ended h = absurd (omega (arith, less, shown-reach (ed b a p) ended h))

module _ {script w j j₁ j₂ : List ℕ} {st first : State} {q last : ℕ} {x : Moved} (f : ReadFrom script w j j₁ j₂ st first q last x) where
  to-reached : (b a : List Record) (p : ℕ) (ls : List Line) (c : Carried) → Standing script w c → Shows j st (ed b a p) (unread ls)
      → Arrived j₂ x (read_lines (lent j) c (min q st.lines - st.furthest) (ed b a p) (unread ls))
  to-reached b a p ls c stands h =
      let held : HoldsUnread j₁ first (ed b a p) ls = first_holds b a p ls h f.walks in
      let past : first.past ≡ st.furthest = held.past ∙ past_of b a p ∙ (read_count (ed b a p) ls h).0 in
      rw (← f.last_is, ← past, ← lent_same j j₁ f.same) (f.reads (ed b a p) c ls stands held)
    where
      past_of : (b a : List Record) (p : ℕ) → sources (passed_of (ed b a p)) ≡ sources (records (ed b a p))
      past_of b a p = unfold passed_of records in (sources-reverse a b ∙ turn ∙ sym (sources-reverse b a))
        where
          turn : sources a + sources b ≡ sources b + sources a
          turn = omega arith

  none_left : (e : Ed) → Shows j st e ended → ⊥
  unfolding reach_of
  none_left e h = omega (arith, f.less, shown-reach e ended h)

  module _ {s : State} where
    pub on-asks : x ≡ Ok s → (c : Carried) (e : Ed) (t : Tape) → Standing script w c → Shows j st e t → BackAsks st j₂ s
    on-asks is c (ed b a p) (unread ls) stands h =
        let o = reached-on (ed b a p) (min q st.lines - st.furthest) ls _ (all_read (lent j) c q b a p ls h f.less) (rw is at (to-reached b a p ls c stands h)) in
        back-asks b a p ls h o.new o.rest o.holds
    on-asks is c e ended stands h = absurd (none_left e h)

    pub stop-asks : (m : Stop) → x ≡ stopping m s → (c : Carried) (e : Ed) (t : Tape) → Standing script w c → Shows j st e t → BackAsks st j₂ s
    stop-asks m is c (ed b a p) (unread ls) stands h =
        let o = reached-stop (ed b a p) (min q st.lines - st.furthest) ls _ (all_read (lent j) c q b a p ls h f.less) (rw is at (to-reached b a p ls c stands h)) in
        back-asks b a p ls h o.new o.rest o.holds
    stop-asks m is c e ended stands h = absurd (none_left e h)

    module _ {i : List ℕ} {r : State} (back : ComesBack j₂ s st i r) (point : r.p ≡ st.p) where
      pub came-back : x ≡ Ok s → r.furthest ≡ min q (st.lines + 1)
          → (e : Ed) (c : Carried) (t : Tape) → Standing script w c → Shows j st e t → Came i (Ok r) (runs (lent j) c (read_up_to (line q)) e t)
      came-back is far (ed b a p) c (unread ls) stands h =
          let o = reached-on (ed b a p) (min q st.lines - st.furthest) ls _ (all_read (lent j) c q b a p ls h f.less) (rw is at (to-reached b a p ls c stands h)) in
          rw (runs-read (lent j) c (line q) (ed b a p) (unread ls)) (read-on (lent j) c q b a p ls h f.less back point o far)
      came-back is far e c ended stands h = absurd (none_left e h)

      pub came-stopped : (m : Stop) → x ≡ stopping m s → r.furthest ≡ s.past
          → (e : Ed) (c : Carried) (t : Tape) → Standing script w c → Shows j st e t → Came i (stopping m r) (runs (lent j) c (read_up_to (line q)) e t)
      came-stopped m is far (ed b a p) c (unread ls) stands h =
          let o = reached-stop (ed b a p) (min q st.lines - st.furthest) ls _ (all_read (lent j) c q b a p ls h f.less) (rw is at (to-reached b a p ls c stands h)) in
          rw (runs-read (lent j) c (line q) (ed b a p) (unread ls)) (read-stops (lent j) c q b a p ls h f.less back point m o far)
      came-stopped m is far e c ended stands h = absurd (none_left e h)

-- where none stands, the plain function
pub plain-read : {j : List ℕ} {st s : State} (a : ℕ) (e : Ed) (c : Carried) (t : Tape) → NoGlobal c → s ≡ raised st a → Shows j st e t → Came j (Ok s) (runs (lent j) c (read_up_to (line a)) e t)
plain-read {j} a e c t none is h = rw (none_runs (lent j) c none (read_up_to (line a)) e, is) (reads-line (lent j) e t h a)

-- ---- EOF

eof-count : {j : List ℕ} {st : State} (g : Given) (c : Carried) (e : Ed) (t : Tape) → Shows j st e t → read_to g c (line (st.lines + 1)) e t ≡ read_to g c eof e t
unfolding read_to rest_lines
eof-count {st = st} g c e (unread ls) h =
    let all : st.lines + 1 - sources (records e) ≡ suc (length ls) = omega (arith, (read_count e ls h).0, (read_count e ls h).1) in
    ap (λ (n : ℕ). read_lines g c n e (unread ls)) all
eof-count {st = st} g c e ended h = lines-ended g c (st.lines + 1 - sources (records e)) e ∙ sym (lines-ended g c 1 e)

-- up to the line after the last is up to EOF
pub eof-line : {j : List ℕ} {st : State} (g : Given) (c : Carried) (e : Ed) (t : Tape) → Shows j st e t
    → runs g c (read_up_to (line (st.lines + 1))) e t ≡ runs g c (read_up_to eof) e t
eof-line {j} {st} g c e t h = runs-read g c (line (st.lines + 1)) e t ∙ eof-count g c e t h ∙ sym (runs-read g c eof e t)
