-- How the journal buffer and the numbers that go with it show the text of a run, and what the functions on them promise. Assumes nothing.
use Rattle.std.specs.Prelude.{◌≡◌, true, false, cond, ℕ, suc, ◌+◌, ◌-◌, ◌≤◌, ◌<◌, min, max, length, take, drop, leb, eqb, Ok, Err}
use mathlib.Core.List.{List, [], ◌∷◌, ◌++◌, map, reverse_aux}
use Rattle.definitions.specs.Bytes.{Line}
use Rattle.definitions.specs.Journal.{Record, kept, changed, deleted, erase, up_to_line, after_line}
use Rattle.definitions.specs.Tape.{Tape, unread, ended, rest_lines}
use Rattle.definitions.specs.Given.{Given, given, Room, Carried}
use Rattle.definitions.specs.Editor.{Ed, ed, before_of, after_of, sources, furthest, current, is_live, stop_number, land, put_before, Target, here, line, eof}
use Rattle.definitions.specs.Reading.{Ran, gave, stopped}
use Rattle.definitions.specs.StepProgram.{Program, runs, state, Did, Out, on, edited, halt, perform}
use Rattle.definitions.specs.Edit.{Op, step}
use Rattle.gap.specs.Gap.{zeros}
use Rattle.editor.specs.declared.State.{State}
use Rattle.editor.specs.Stops.{Moved, numbered}
use Rattle.editor.specs.Records.{enc, enc_all, enc_before, Good, Goods, old_bytes}

-- ---- a buffer that holds records

-- The buffer has the records `before` (nearest first) at the front and the records `rest` at the back, and zeros between.
-- `rest` are the records from the current one on, read or not.
pub record Holds (j : List ℕ) (st : State) (before rest : List Record) : Type 0 where
  pub bytes : j ≡ enc_before before ++ (zeros (st.back - st.front) ++ enc_all rest)
  pub front : length (enc_before before) ≡ st.front
  pub order : st.front ≤ st.back
  pub past_good : Goods before
  pub good : Goods rest
  pub past : st.past ≡ sources before
  pub lines : st.lines ≡ sources before + sources rest
  pub source : st.source ≡ old_bytes before
  pub size : st.size ≡ old_bytes before + old_bytes rest
  pub few : st.lines ≤ 65535

-- As `Holds` of a changed record before `before`, from f on, where that record has the mark of a deleted one.
pub record HoldsCut (j : List ℕ) (st : State) (f : ℕ) (old new : List ℕ) (before rest : List Record) : Type 0 where
  pub bytes : j ≡ (enc_before before ++ (45 ∷ 45 ∷ ((old ++ (0 ∷ new)) ++ (10 ∷ [])))) ++ (zeros (st.back - st.front) ++ enc_all rest)
  pub start : length (enc_before before) ≡ f
  pub front : f + (4 + (length old + length new)) ≡ st.front
  pub order : st.front ≤ st.back
  pub record_good : Good (changed old new)
  pub past_good : Goods before
  pub good : Goods rest
  pub past : st.past ≡ 1 + sources before
  pub lines : st.lines ≡ 1 + sources before + sources rest
  pub source : st.source ≡ 1 + length old + old_bytes before
  pub size : st.size ≡ 1 + length old + old_bytes before + old_bytes rest
  pub few : st.lines ≤ 65535

-- the text of the line of `r`, whose record starts at b, is the n bytes from `from` on, and the record's line feed follows it
pub record TextAt (j : List ℕ) (b from n : ℕ) (r : Record) : Type 0 where
  pub text : take n (drop from j) ≡ current r
  pub after : b + 2 ≤ from
  pub ends : from + n + 1 ≡ b + length (enc r)
  pub within : from + n < length j

-- the numbers that the buffer's bytes go with
pub record Placed (st s : State) : Type 0 where
  pub front : s.front ≡ st.front
  pub back : s.back ≡ st.back
  pub past : s.past ≡ st.past
  pub lines : s.lines ≡ st.lines
  pub source : s.source ≡ st.source
  pub size : s.size ≡ st.size

-- the numbers that a move of the gap leaves
pub record Stays (st s : State) : Type 0 where
  pub furthest : s.furthest ≡ st.furthest
  pub lines : s.lines ≡ st.lines
  pub p : s.p ≡ st.p

-- ---- a buffer that shows a text

abbrev pub point_of : Ed → ℕ
point_of (ed before after p) = p

-- the records from the current one on, read or not
abbrev pub rest_of : Ed → Tape → List Record
rest_of e t = after_of e ++ map kept (rest_lines t)

-- the current record is live, and EOF is current only where it is read
abbrev pub GroundedAt : List Record → Tape → Type 0
GroundedAt [] (unread ls) = ⊥
GroundedAt [] ended = Unit {0}
GroundedAt (r ∷ after) t = is_live r ≡ true

-- the buffer and its numbers show the text `e`, the lines of `t` being unread
pub record Shows (j : List ℕ) (st : State) (e : Ed) (t : Tape) : Type 0 where
  pub holds : Holds j st (before_of e) (rest_of e t)
  pub furthest : st.furthest ≡ furthest e t
  pub p : st.p ≡ point_of e
  pub grounded : GroundedAt (after_of e) t

-- they show some text
abbrev pub ShowsText : List ℕ → State → Type 0
ShowsText j st = (e : Ed) × (t : Tape) × Shows j st e t

abbrev pub Opens : List ℕ → State → Ed × Tape → Type 0
Opens j st x = Shows j st x.0 x.1

-- ---- a part of a step, and a whole one

-- what a run is given whose journal buffer is j
unfoldable pub lent : List ℕ → Given
lent j = given (Room.bytes (length j))

-- what a function answers that does a part of a step, and what that part comes to: a stop too leaves the buffer showing the text as it then is
unfoldable pub CameTo : {A : Type 0} → List ℕ → Moved → Ran A → Tape → Type 0
CameTo j (Ok s) (gave a e) t = Shows j s e t
CameTo j (Ok s) (stopped n e) t = ⊥
CameTo j (Err x) (gave a e) t = ⊥
CameTo j (Err x) (stopped n e) t = (numbered x.stop ≡ stop_number n) × Shows j x.st e t

abbrev pub Came : {A : Type 0} → List ℕ → Moved → Ran A × Tape → Type 0
Came j r x = CameTo j r x.0 x.1

-- what a command's function answers, and what the command comes to
unfoldable pub Answers : List ℕ → Moved → Out → Tape → Type 0
Answers j (Ok s) (on true (state e c)) t = Shows j s e t
Answers j (Ok s) (on false (state e c)) t = ⊥
Answers j (Ok s) (edited (state e c)) t = Shows j s e t
Answers j (Ok s) (halt n (state e c)) t = ⊥
Answers j (Err x) (on b (state e c)) t = ⊥
Answers j (Err x) (edited (state e c)) t = ⊥
Answers j (Err x) (halt n (state e c)) t = (numbered x.stop ≡ n) × Shows j x.st e t

abbrev pub Answered : List ℕ → Moved → Out × Tape → Type 0
Answered j r x = Answers j r x.0 x.1

-- Where the globals c stand, with the buffer j and its numbers st before, and the buffer k after, the function that answered r did the part m of a step. A
-- function that reads nothing new promises it for every c; one that may read, where none stands (`no_globals`).
abbrev pub DoesPart : {A : Type 0} → Carried → List ℕ → State → Program A → List ℕ → Moved → Type 0
DoesPart c j st m k r = (e : Ed) (t : Tape) → Shows j st e t → Came k r (runs (lent j) c m e t)

-- the same of a whole command
abbrev pub Performs : Carried → List ℕ → State → Op → List ℕ → Moved → Type 0
Performs c j st op k r = (e : Ed) (t : Tape) → Shows j st e t → Answered k r (step (lent j) op (state e c) t)

-- the same of what is left of one
abbrev pub Completes : Carried → List ℕ → State → Program Did → List ℕ → Moved → Type 0
Completes c j st m k r = (e : Ed) (t : Tape) → Shows j st e t → Answered k r (perform (lent j) m (state e c) t)

-- ---- moves of the gap

-- over the current record
abbrev pub PassesOver : List ℕ → State → List ℕ → State → Type 0
PassesOver j st k r =
    ((b : List Record) (x : Record) (a : List Record) → Holds j st b (x ∷ a) → Holds k r (x ∷ b) a) × Stays st r × (st.back < r.back)

-- back over the nearest record before it
abbrev pub PassesBack : List ℕ → State → List ℕ → State → Type 0
PassesBack j st k r =
    ((x : Record) (b : List Record) (a : List Record) → Holds j st (x ∷ b) a → Holds k r b (x ∷ a)) × Stays st r × (r.front < st.front)

-- over deleted records, to the line that is landed on: "a line that becomes current gets p = 0"
abbrev pub Lands : List ℕ → State → List ℕ → State → Type 0
Lands j st k r =
    ((b : List Record) (a : List Record) → Holds j st b a → Holds k r (before_of (land b a)) (after_of (land b a)))
    × (r.furthest ≡ st.furthest) × (r.lines ≡ st.lines) × (r.p ≡ 0)

-- from the records `before` and `rest` round it to those that `way` gives
abbrev pub Walks : (List Record → List Record → List Record × List Record) → List ℕ → State → List ℕ → State → Type 0
Walks way j st k r =
    ((b : List Record) (a : List Record) → Holds j st b a → Holds k r (way b a).0 (way b a).1) × Stays st r

-- back until at most k source lines stand before it
unfoldable pub back_to : ℕ → List Record → List Record → List Record × List Record
back_to k [] rest = ([], rest)
back_to k (r ∷ before) rest = elim (leb (sources (r ∷ before)) k) [ true ↦ (r ∷ before, rest) | false ↦ back_to k before (r ∷ rest) ]

-- on until the record after k source lines is current, or EOF
unfoldable pub on_to : ℕ → List Record → List Record → List Record × List Record
on_to k before rest = (reverse_aux (up_to_line (k - sources before) rest) before, after_line (k - sources before) rest)

-- back or on to there
unfoldable pub to_source : ℕ → List Record → List Record → List Record × List Record
to_source k before rest = on_to k [] (reverse_aux before rest)

-- The buffer i with the numbers `there`, and the buffer j with the numbers st, hold the same records, the gap standing elsewhere.
pub record Away (i : List ℕ) (there : State) (j : List ℕ) (st : State) : Type 0 where
  pub before : List Record
  pub rest : List Record
  pub front : List Record
  pub back : List Record
  pub was : Holds i there before rest
  pub now : Holds j st front back
  pub same : reverse_aux front back ≡ reverse_aux before rest
  pub long : length i ≡ length j

-- ---- changes of records

-- the lines `ls` go in before the current record
abbrev pub Puts : List Line → List ℕ → State → List ℕ → State → Type 0
Puts ls j st k r = ((b : List Record) (a : List Record) → Holds j st b a → Holds k r (put_before ls b) a) × Stays st r

-- the records `rs`, in order, passed with their lines deleted
unfoldable pub strike_over : List Record → List Record → List Record
strike_over [] before = before
strike_over (r ∷ rs) before = strike_over rs (erase r ++ before)

-- the line of the record from f up to the gap is deleted
abbrev pub Strikes : ℕ → List ℕ → State → List ℕ → State → Type 0
Strikes f j st k r =
    ((x : Record) (b : List Record) (a : List Record) → Holds j st (x ∷ b) a → length (enc_before b) ≡ f → Holds k r (erase x ++ b) a) × Stays st r

-- the same once the record has the mark of a deleted one
abbrev pub Cuts : ℕ → List ℕ → State → List ℕ → State → Type 0
Cuts f j st k r =
    ((o : Line) (n : Line) (b : List Record) (a : List Record) → HoldsCut j st f o n b a → Holds k r (deleted o ∷ b) a) × Stays st r

-- ---- numbers that are set

-- the furthest line read is raised to source line a, or to EOF where there is no such line
abbrev pub raised : State → ℕ → State
raised st a = record {
  front = st.front;
  back = st.back;
  past = st.past;
  furthest = max st.furthest (min a (st.lines + 1));
  lines = st.lines;
  source = st.source;
  size = st.size;
  p = st.p;
}

-- p is set
abbrev pub at_point : State → ℕ → State
at_point st q = record {
  front = st.front;
  back = st.back;
  past = st.past;
  furthest = st.furthest;
  lines = st.lines;
  source = st.source;
  size = st.size;
  p = q;
}

-- the source line to read where the first record of `rest` is current: its own; the one before where it is inserted; EOF where there is none
unfoldable pub line_at : List Record → List Record → ℕ
line_at before [] = suc (sources before)
line_at before (r ∷ rest) = sources before + sources (r ∷ [])

-- ---- M's line as a number

-- 0 is `.`, 65,536 is `*`, any other number is that of a source line
unfoldable pub target_numbered : ℕ → Target
target_numbered n = cond (eqb n 0) here (cond (eqb n 65536) eof (line n))
