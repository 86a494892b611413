-- The current line's text, and the table that it is read from until its first change. Assumes nothing.
use Rattle.std.specs.Prelude.{◌≡◌, true, List, [], ◌∷◌, ◌++◌, ℕ, ◌≤◌, length, drop}
use Rattle.definitions.specs.Bytes.{Line, lines_of}
use Rattle.definitions.specs.Table.{is_table}
use Rattle.definitions.specs.Journal.{old_side}
use Rattle.definitions.specs.Tape.{Tape}
use Rattle.definitions.specs.Given.{Carried}
use Rattle.definitions.specs.Editor.{Ed, ed, journal, current}
use Rattle.definitions.specs.StepProgram.{state, text_of, Out, on, edited, halt}
use Rattle.definitions.specs.Edit.{Op, step}
use Rattle.editor.specs.declared.State.{State}
use Rattle.editor.specs.Stops.{Moved}
use Rattle.editor.specs.Shows.{Shows, lent, Answered}

-- the current line's text; none where EOF is current
abbrev pub current_line : Ed → Line
current_line (ed before [] p) = []
current_line (ed before (r ∷ after) p) = current r

-- p is within the current line
abbrev pub PointIn : Ed → Type 0
PointIn (ed before [] p) = Unit {0}
PointIn (ed before (r ∷ after) p) = p ≤ length (current r)

-- the same of what a step comes to, where the run goes on
abbrev pub PointOut : Out → Type 0
PointOut (on t s) = PointIn (text_of s)
PointOut (edited s) = PointIn (text_of s)
PointOut (halt n s) = Unit {0}

-- the journal is one of this table
pub record TableOf (table : List ℕ) (e : Ed) (t : Tape) : Type 0 where
  pub is : is_table table ≡ true
  pub old : old_side (journal e t) ≡ lines_of table

-- the same of what a step comes to
abbrev pub TableOut : List ℕ → Out → Tape → Type 0
TableOut table (on b s) t = TableOf table (text_of s) t
TableOut table (edited s) t = TableOf table (text_of s) t
TableOut table (halt n s) t = TableOf table (text_of s) t

abbrev pub TableOutcome : List ℕ → Out × Tape → Type 0
TableOutcome table x = TableOut table x.0 x.1

-- buffer and table show the text `e`, the lines of `t` being unread, and p is within the current line
pub record Ready (table j : List ℕ) (st : State) (e : Ed) (t : Tape) : Type 0 where
  pub shows : Shows j st e t
  pub point : PointIn e
  pub old : TableOf table e t

-- ---- functions that read the table too

-- the buffer shows the text `e`, the lines of `t` being unread, and its journal is one of this table
pub record ShowsOf (table j : List ℕ) (st : State) (e : Ed) (t : Tape) : Type 0 where
  pub shows : Shows j st e t
  pub old : TableOf table e t

-- it shows some text
abbrev pub ShownOf : List ℕ → List ℕ → State → Type 0
ShownOf table j st = (e : Ed) × (t : Tape) × ShowsOf table j st e t

-- the current line's text stands at the start of k, which was d, in n bytes
abbrev pub CopiesLine : List ℕ → List ℕ → State → List ℕ → List ℕ → ℕ → Type 0
CopiesLine table j st d k n = (e : Ed) (t : Tape) → ShowsOf table j st e t → (n ≡ length (current_line e)) × (k ≡ current_line e ++ drop n d)

-- with the buffer j and its numbers st before, and the buffer k after, the function that answered r did the command
abbrev pub PerformsOf : List ℕ → List ℕ → State → Op → List ℕ → Moved → Type 0
PerformsOf table j st op k r = (e : Ed) (c : Carried) (t : Tape) → ShowsOf table j st e t → Answered k r (step (lent j) op (state e c) t)

-- it shows some text, and p is within the current line
abbrev pub IsReady : List ℕ → List ℕ → State → Type 0
IsReady table j st = (e : Ed) × (t : Tape) × Ready table j st e t
