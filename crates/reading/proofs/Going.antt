-- Lines read one after the other, and where that comes to. Assumes nothing.
use mathlib.Core.Path.{◌≡◌, refl, sym, ap, ◌∙◌}
use Prim.Native.Nat.{ℕ, suc, ◌+◌, ◌-◌, ◌≤◌, ◌<◌}
use native.Mathlib.Omega.{arith}
use mathlib.Core.List.{List, [], ◌∷◌, ◌++◌, map}
use lib.ListN.{length}
use Rattle.definitions.specs.Bytes.{Line}
use Rattle.definitions.specs.Journal.{Record, kept, changed}
use Rattle.definitions.specs.Tape.{Tape, unread, rest_lines, bind}
use Rattle.definitions.specs.Given.{Given, Carried}
use Rattle.definitions.specs.Editor.{Ed, ed, sources, Stop as StopNumber, n25, n26}
use Rattle.definitions.specs.Reading.{Ran, gave, stopped, once_read, seen, read_line, read_lines}
use Rattle.theorems.specs.Passing.{line-comes-to}
use Rattle.editor.specs.Shows.{Holds, lent}
use Rattle.editor.specs.declared.State.{State}
use Rattle.std.specs.Prelude.{Ok}
use Rattle.editor.specs.Stops.{Moved, stopping}
use Rattle.editor.specs.declared.Stop.{Stop}
use Rattle.editor.proofs.Records.{some_bytes, sources-cons, sources-nil}
use Rattle.editor.proofs.Held.{held_more}
use Rattle.globals.specs.Standing.{Standing}
use Rattle.reading.specs.Lines.{passed_of, HoldsUnread, ArrivedAt, Arrived, ReadsLine}
use Rattle.reading.proofs.Line.{passed-seen}

-- ---- one line

-- the text with records that are read
unfoldable pub grown : List Record → Ed → Ed
grown m (ed b a p) = ed b (a ++ m) p

-- what reading one line comes to: a record of it, and the lines after it unread
pub data OneRead (e : Ed) (ls : List Line) : Ran (Unit {0}) → Tape → Type 0 where
  one_on : (r : Record) → sources (r ∷ []) ≡ 1 → OneRead e ls (gave tt (seen r e)) (unread ls)
  one_stops : (n : StopNumber) (r : Record) → sources (r ∷ []) ≡ 1 → OneRead e ls (stopped n (seen r e)) (unread ls)

one-source : (r : Record) → (n : ℕ) → sources (r ∷ []) ≡ n + sources [] → sources (r ∷ []) ≡ n
one-source r n q = omega (arith, q, sources-nil)

pub one-read : (g : Given) (c : Carried) (e : Ed) (l : Line) (ls : List Line)
    → OneRead e ls (read_line g c e (unread (l ∷ ls))).0 (read_line g c e (unread (l ∷ ls))).1
one-read g c e l ls =
    let k : sources (kept l ∷ []) ≡ 1 = one-source (kept l) 1 (sources-cons (kept l) []) in
    line-comes-to (λ r t. OneRead e ls r t) g c e l ls (one_on (kept l) k) (λ new q d room. one_on (changed l new) (one-source (changed l new) 1 (sources-cons (changed l new) [])))
    (one_stops n25 (kept l) k) (one_stops n26 (kept l) k)

seen-sources : (r : Record) (e : Ed) → sources (r ∷ []) ≡ 1 → sources (passed_of (seen r e)) ≡ suc (sources (passed_of e))
seen-sources r e q = ap sources (passed-seen r e) ∙ omega (arith, q, sources-cons r (passed_of e), sources-cons r [], sources-nil)

-- it goes on
pub record LineOn (k : List ℕ) (u : State) (e : Ed) (ls : List Line) (x : Ran (Unit {0}) × Tape) : Type 0 where
  pub text : Ed
  pub is : x ≡ (gave tt text, unread ls)
  pub holds : HoldsUnread k u text ls
  pub past : sources (passed_of text) ≡ suc (sources (passed_of e))

pub line_on : {k : List ℕ} {u : State} (e : Ed) (ls : List Line) (x : Ran (Unit {0}) × Tape) → OneRead e ls x.0 x.1 → Arrived k (Ok u) x → LineOn k u e ls x
unfolding ArrivedAt rest_lines
line_on e ls (gave v e', t) (one_on r q) h = record { text = seen r e; is = refl; holds = h; past = seen-sources r e q }
line_on e ls (stopped m e', t) (one_stops n r q) h = absurd h

-- ---- the loop

-- so far lines are read, the gap stands before the next, and what is left to read comes to the same as the whole
pub record Going (g : Given) (c : Carried) (last : ℕ) (j : List ℕ) (s : State) (x : Ran (Unit {0}) × Tape) : Type 0 where
  pub text : Ed
  pub rest : List Line
  pub holds : HoldsUnread j s text rest
  pub last_in : last ≤ s.lines
  pub way : read_lines g c (last - s.past) text (unread rest) ≡ x

pub going_start : {g : Given} {c : Carried} {last : ℕ} {j : List ℕ} {s : State} (e : Ed) (ls : List Line) → HoldsUnread j s e ls → last ≤ s.lines
    → Going g c last j s (read_lines g c (last - s.past) e (unread ls))
going_start e ls h l = record { text = e; rest = ls; holds = h; last_in = l; way = refl }

-- where lines are left a record is there
pub past-in : {j : List ℕ} {s : State} (e : Ed) (ls : List Line) → HoldsUnread j s e ls → s.past < s.lines → s.back < length j
past-in e [] h more = absurd (omega (arith, h.past, h.lines, sources-nil))
past-in e (l ∷ xs) h more = omega (arith, held_more h, some_bytes (kept l))

lines_more : (g : Given) (c : Carried) (n : ℕ) (e x : Ed) (t u : Tape) → read_line g c e t ≡ (gave tt x, u) → read_lines g c (suc n) e t ≡ read_lines g c n x u
unfolding read_lines bind once_read
lines_more g c n e x t u q = rw q

lines-stop : (g : Given) (c : Carried) (n : ℕ) (e : Ed) (t : Tape) (y : Ran (Unit {0}) × Tape) → read_line g c e t ≡ y → (k : List ℕ) (m : Stop) (u : State) → Arrived k (stopping m u) y
    → read_lines g c (suc n) e t ≡ y
unfolding read_lines bind once_read ArrivedAt
lines-stop g c n e t (gave v x, u') q k m u h = absurd h
lines-stop g c n e t (stopped i x, u') q k m u h = rw q

module _ {g : Given} {c : Carried} {last : ℕ} {j : List ℕ} {s : State} {x : Ran (Unit {0}) × Tape} (here : Going g c last j s x) where
  pub going-in : s.past < last → s.back < length j
  going-in more = past-in here.text here.rest here.holds (omega (arith, here.last_in, more))

  -- the lines are read
  pub going-ends : last ≤ s.past → Arrived j (Ok s) x
  unfolding ArrivedAt rest_lines read_lines
  going-ends end =
      let none : last - s.past ≡ 0 = omega (arith, end) in
      rw (← here.way, none) here.holds

-- the next line is read
module _ {last : ℕ} {j : List ℕ} {s : State} {x : Ran (Unit {0}) × Tape} (g : Given) (c : Carried) (e : Ed) (l : Line) (ls : List Line) (h : HoldsUnread j s e (l ∷ ls))
    (way : read_lines g c (last - s.past) e (unread (l ∷ ls)) ≡ x) (more : s.past < last) where
  one : last - s.past ≡ suc (last - suc s.past)
  one = omega (arith, more)

  whole : read_lines g c (suc (last - suc s.past)) e (unread (l ∷ ls)) ≡ x
  whole = rw (← one) way

  next-on : (k : List ℕ) (u : State) → last ≤ s.lines → Arrived k (Ok u) (read_line g c e (unread (l ∷ ls))) → Going g c last k u x × (u.past ≡ suc s.past)
  next-on k u low came = by (line_on e ls (read_line g c e (unread (l ∷ ls))) (one-read g c e l ls) came)
    where
      at_next : (past : u.past ≡ suc s.past) → LineOn k u e ls (read_line g c e (unread (l ∷ ls))) → Going g c last k u x
      at_next past o = record {
        text = o.text;
        rest = ls;
        holds = o.holds;
        last_in = omega (arith, low, past, h.lines, h.past, o.holds.lines, o.holds.past, sources-cons (kept l) (map kept ls));
        way = rw past (sym (lines_more g c (last - suc s.past) e o.text (unread (l ∷ ls)) (unread ls) o.is) ∙ whole);
      }

      by : LineOn k u e ls (read_line g c e (unread (l ∷ ls))) → Going g c last k u x × (u.past ≡ suc s.past)
      by o =
          let past : u.past ≡ suc s.past = o.holds.past ∙ o.past ∙ ap (λ (i : ℕ). suc i) (sym h.past) in
          (at_next past o, past)

  next-stops : (k : List ℕ) (m : Stop) (u : State) → Arrived k (stopping m u) (read_line g c e (unread (l ∷ ls))) → Arrived k (stopping m u) x
  next-stops k m u came = rw (sym (lines-stop g c (last - suc s.past) e (unread (l ∷ ls)) (read_line g c e (unread (l ∷ ls))) refl k m u came) ∙ whole) at came

given-same : (g g' : Given) (c : Carried) (e : Ed) (t : Tape) (k : List ℕ) (r : Moved) → g' ≡ g → Arrived k r (read_line g c e t) → Arrived k r (read_line g' c e t)
given-same g g' c e t k r q h = rw q h

module _ {g : Given} {c : Carried} {last : ℕ} {j : List ℕ} {s : State} {x : Ran (Unit {0}) × Tape} (script w k : List ℕ) (stands : Standing script w c) (is : g ≡ lent j) (more : s.past < last)
    (here : Going g c last j s x) where
  pub going_on : (r : Moved) (u : State) → r ≡ Ok u → ReadsLine script w j s k r → Going g c last k u x × (u.past ≡ suc s.past)
  going_on r u q reads = by here.rest here.holds here.way
    where
      by : (ls : List Line) → HoldsUnread j s here.text ls → read_lines g c (last - s.past) here.text (unread ls) ≡ x → Going g c last k u x × (u.past ≡ suc s.past)
      by [] h way = absurd (omega (arith, here.last_in, more, h.past, h.lines, sources-nil))
      by (l ∷ ls) h way =
          next-on g c here.text l ls h way more k u here.last_in
          (given-same (lent j) g c here.text (unread (l ∷ ls)) k (Ok u) is (rw q at (reads here.text c l ls stands h)))

  pub going-stops : (r : Moved) (m : Stop) (u : State) → r ≡ stopping m u → ReadsLine script w j s k r → Arrived k r x
  going-stops r m u q reads = rw q (by here.rest here.holds here.way)
    where
      by : (ls : List Line) → HoldsUnread j s here.text ls → read_lines g c (last - s.past) here.text (unread ls) ≡ x → Arrived k (stopping m u) x
      by [] h way = absurd (omega (arith, here.last_in, more, h.past, h.lines, sources-nil))
      by (l ∷ ls) h way =
          next-stops g c here.text l ls h way more k m u
          (given-same (lent j) g c here.text (unread (l ∷ ls)) k (stopping m u) is (rw q at (reads here.text c l ls stands h)))

-- some text of the records that the buffer holds
pub some-text : {j : List ℕ} {st : State} (b : List Record) (ls : List Line) → Holds j st b (map kept ls) → HoldsUnread j st (ed b [] 0) ls
unfolding passed_of
some-text b ls h = h
