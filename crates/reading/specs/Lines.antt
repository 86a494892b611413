-- Lines read through the standing globals, the gap standing before the first unread line. Assumes nothing.
use Rattle.std.specs.Prelude.{◌≡◌, true, ℕ, ◌+◌, ◌-◌, length, drop, Ok, Err}
use mathlib.Core.List.{List, ◌∷◌, ◌++◌, map, reverse_aux}
use Rattle.definitions.specs.Bytes.{Line, is_line}
use Rattle.definitions.specs.Journal.{Record, kept, changed}
use Rattle.definitions.specs.Tape.{Tape, unread, rest_lines}
use Rattle.definitions.specs.Given.{Carried}
use Rattle.definitions.specs.Editor.{Ed, ed, stop_number, Got}
use Rattle.definitions.specs.Reading.{Ran, gave, stopped, read_as, read_line, read_lines}
use Rattle.definitions.specs.Globals.{left_by}
use Rattle.editor.specs.Records.{enc}
use Rattle.editor.specs.Shows.{Holds, lent}
use Rattle.editor.specs.declared.State.{State}
use Rattle.editor.specs.Stops.{Moved, numbered}
use Rattle.globals.specs.Standing.{Standing}
use Rattle.globals.specs.Passing.{Passed, LeftAs}

-- ---- where the gap stands

-- the records as far as read, the last one first
unfoldable pub passed_of : Ed → List Record
passed_of (ed before after p) = reverse_aux after before

-- the unread lines stand behind the gap, kept
abbrev pub HoldsUnread : List ℕ → State → Ed → List Line → Type 0
HoldsUnread j st e ls = Holds j st (passed_of e) (map kept ls)

-- some text is held so
abbrev pub AtUnread : List ℕ → State → Type 0
AtUnread j st = (b : List Record) × (ls : List Line) × Holds j st b (map kept ls)

-- what reading there comes to: a stop too leaves the gap before the first line that is then unread
unfoldable pub ArrivedAt : List ℕ → Moved → Ran (Unit {0}) → Tape → Type 0
ArrivedAt k (Ok s) (gave u e) t = HoldsUnread k s e (rest_lines t)
ArrivedAt k (Ok s) (stopped n e) t = ⊥
ArrivedAt k (Err x) (gave u e) t = ⊥
ArrivedAt k (Err x) (stopped n e) t = (numbered x.stop ≡ stop_number n) × HoldsUnread k x.st e (rest_lines t)

abbrev pub Arrived : List ℕ → Moved → Ran (Unit {0}) × Tape → Type 0
Arrived k r x = ArrivedAt k r x.0 x.1

-- ---- one line

-- a kept record stands at `at`
abbrev pub KeptAt : List ℕ → ℕ → Type 0
KeptAt j at = (l : Line) × (z : List ℕ) × (is_line l ≡ true) × (drop at j ≡ enc (kept l) ++ z)

-- its text, as the standing globals leave it, is at the start of `line`
abbrev pub PassesText : List ℕ → List ℕ → List ℕ → ℕ → Passed → List ℕ → Type 0
PassesText s w j at r line =
    (l : Line) (z : List ℕ) (c : Carried) → is_line l ≡ true → drop at j ≡ enc (kept l) ++ z → Standing s w c → LeftAs r line (left_by c l)

-- the kept record from f up to the gap
pub record JustPassed (j : List ℕ) (st : State) (f : ℕ) (l : Line) (b a : List Record) : Type 0 where
  pub holds : Holds j st (kept l ∷ b) a
  pub start : f + (length l + 3) ≡ st.front

abbrev pub SomePassed : List ℕ → State → ℕ → Type 0
SomePassed j st f = (l : Line) × (b : List Record) × (a : List Record) × JustPassed j st f l b a

-- it becomes a changed one
abbrev pub Changes : ℕ → Line → List ℕ → State → List ℕ → State → Type 0
Changes f new j st k r = (l : Line) (b a : List Record) → JustPassed j st f l b a → Holds k r (changed l new ∷ b) a

-- its line is read as the globals leave it
abbrev pub TakesText : ℕ → Line → List ℕ → State → List ℕ → Moved → Type 0
TakesText f new j st k r =
    (e : Ed) (l : Line) (ls : List Line) → JustPassed j st f l (passed_of e) (map kept ls) → Arrived k r (read_as (lent j) l e (Got.got new) (unread ls))

-- the next line is read
abbrev pub ReadsLine : List ℕ → List ℕ → List ℕ → State → List ℕ → Moved → Type 0
ReadsLine s w j st k r =
    (e : Ed) (c : Carried) (l : Line) (ls : List Line) → Standing s w c → HoldsUnread j st e (l ∷ ls) → Arrived k r (read_line (lent j) c e (unread (l ∷ ls)))

-- ---- lines

-- the lines up to source line `last` are read
abbrev pub ReadsLines : List ℕ → List ℕ → List ℕ → State → ℕ → List ℕ → Moved → Type 0
ReadsLines s w j st last k r =
    (e : Ed) (c : Carried) (ls : List Line) → Standing s w c → HoldsUnread j st e ls → Arrived k r (read_lines (lent j) c (last - st.past) e (unread ls))

-- ---- the way back

-- the gap stands behind some records m that came after those before it with the numbers `there`
abbrev pub BackAsks : State → List ℕ → State → Type 0
BackAsks there j st =
    (i : List ℕ) × (b : List Record) × (m : List Record) × (a : List Record) × (x : List Record) × Holds i there b x × Holds j st (reverse_aux m b) a

-- the gap goes back over the records m, to where it stood with the numbers `there`
abbrev pub ComesBack : List ℕ → State → State → List ℕ → State → Type 0
ComesBack j st there k r =
    (i : List ℕ) (b m a x : List Record) → Holds i there b x → Holds j st (reverse_aux m b) a → Holds k r b (m ++ a)
