-- A step that is wanted, and what is answered. Assumes nothing.
use Rattle.std.specs.Prelude.{◌≡◌, Bool, true, false, List, ℕ, ◌≤◌, Result}
use Rattle.definitions.specs.Table.{is_script}
use Rattle.definitions.specs.Tape.{Tape}
use Rattle.definitions.specs.Search.{Search}
use Rattle.definitions.specs.Given.{Carried}
use Rattle.definitions.specs.Editor.{Ed}
use Rattle.definitions.specs.StepProgram.{state, Out, on, edited, halt}
use Rattle.definitions.specs.Edit.{Op, step}
use Rattle.definitions.specs.Control.{Seek, forward, backward, deleting, Ctl, want, look_op, pull}
use Rattle.theorems.specs.GoodItems.{good_op}
use Rattle.theorems.specs.Runs.{CtlOf}
use Rattle.items.specs.Simple.{CommandAt}
use Rattle.control.specs.declared.Ask.{Ask}
use Rattle.control.specs.declared.Ask.TheVariants.{Round, Holds, HoldsNot, AtEof, Begin, BeginBack, Find, FindBack, FindDelete, Command}
use Rattle.control.specs.declared.Wanted.{Wanted}
use Rattle.control.specs.Shown.{SearchOf, Asks}
use Rattle.editor.specs.declared.State.{State}
use Rattle.editor.specs.declared.Stopped.{Stopped}
use Rattle.editor.specs.Shows.{lent}
use Rattle.editor.specs.Current.{Ready, IsReady}
use Rattle.globals.specs.Standing.{StandingBelow, Standing}
use Rattle.seeks.specs.declared.Way.{Way}
use Rattle.seeks.specs.declared.Way.TheVariants.{Forward, Backward, Deleting}
use Rattle.seeks.specs.Looks.{Looked, Found, LooksAs, carried_of, Steps, steps_of, Seeks}

-- ---- what is asked

-- the test of IF or WH (v is true), or of UL or UT
unfoldable pub ask_test : Bool → Ask
ask_test true = Holds
ask_test false = HoldsNot

-- the test of a line: F, BF, DF
unfoldable pub ask_look : Way → Ask
ask_look Forward = Find
ask_look Backward = FindBack
ask_look Deleting = FindDelete

-- ---- one step, known by what is asked

-- something is asked of the editor, and buffer and table show a text
abbrev pub Asking : (Op → Type 0) → List ℕ → List ℕ → State → Type 0
Asking P table j st = ((op : Op) × P op) × IsReady table j st

-- what a function answers that made the step which is asked, the buffer being k then, where script and work area hold what is carried
abbrev pub LooksAsked : List ℕ → List ℕ → (Op → Type 0) → List ℕ → List ℕ → State → List ℕ → Result Looked Stopped → Type 0
LooksAsked s w P table j st k r =
    (op : Op) (e : Ed) (c : Carried) (t : Tape) → P op → Standing s w c → Ready table j st e t → LooksAs k r (step (lent j) op (state e c) t)

-- the step x asks it, of items below some place
abbrev pub AsksSome : List ℕ → List ℕ → Wanted → Op → Type 0
AsksSome s w x op = (end : ℕ) × Asks s w end x op

-- ---- what is carried: the globals that stand, of items below `end`, and the word set (document 02, wishes 2 and 8)

-- something is
abbrev pub SomeBelow : List ℕ → List ℕ → ℕ → Type 0
SomeBelow s w end = (c : Carried) × StandingBelow s w end c

-- the words w hold what is carried after a step
abbrev pub Carries : List ℕ → List ℕ → ℕ → Out → Type 0
Carries s w end out = StandingBelow s w end (carried_of out)

-- ---- a simple command

-- the words from k on, none of them at `end` or above it, hold one
pub record CommandBelow (s w : List ℕ) (end k : ℕ) (op : Op) : Type 0 where
  pub command : CommandAt s w k op
  pub below : command.end ≤ end
  pub short : end ≤ 65536

-- there is one, and globals stand, or none; buffer and table show a text
abbrev pub Commanding : List ℕ → List ℕ → ℕ → List ℕ → List ℕ → State → Type 0
Commanding s w k table j st = ((end : ℕ) × (op : Op) × CommandBelow s w end k op × SomeBelow s w end) × IsReady table j st

-- what a function answers that performed it, the words being w' then and the buffer i
abbrev pub Commanded : List ℕ → List ℕ → ℕ → List ℕ → List ℕ → State → List ℕ → List ℕ → Result Looked Stopped → Type 0
Commanded s w k table j st w' i r =
    (end : ℕ) (op : Op) (e : Ed) (c : Carried) (t : Tape) → CommandBelow s w end k op → StandingBelow s w end c → Ready table j st e t
    → LooksAs i r (step (lent j) op (state e c) t) × Carries s w' end (step (lent j) op (state e c) t).0

-- ---- a step that the run wants

-- the simple commands that the run can come to are good
abbrev pub GoodCtl : Ctl → Type 0
GoodCtl c = CtlOf (λ op. good_op op ≡ true) c

-- the script's run, of items below `end`, stands at `from` and wants the step x, which asks `op` and goes on at c₁ or at c₀
pub record Wants (s w : List ℕ) (end : ℕ) (x : Wanted) (from : Ctl) (op : Op) (c₁ c₀ : Ctl) : Type 0 where
  pub form : is_script s ≡ true
  pub good : GoodCtl from
  pub short : end ≤ 65536
  pub next : pull from ≡ want x.place op c₁ c₀
  pub asks : Asks s w end x op

-- some run wants the step x, globals standing or none
abbrev pub SomeWants : List ℕ → List ℕ → Wanted → Type 0
SomeWants s w x = (end : ℕ) × (from : Ctl) × (op : Op) × (c₁ : Ctl) × (c₀ : Ctl) × Wants s w end x from op c₁ c₀ × SomeBelow s w end

-- and buffer and table show a text
abbrev pub Wanting : List ℕ → List ℕ → Wanted → List ℕ → List ℕ → State → Type 0
Wanting s w x table j st = SomeWants s w x × IsReady table j st

-- ---- what is answered

-- what a search comes to in the run: where none of its lines matches, the budget is spent
unfoldable pub or_spent : Out → Out
or_spent (on true z) = on true z
or_spent (on false z) = halt 29 z
or_spent (edited z) = edited z
or_spent (halt n z) = halt n z

-- the same of a search's steps
abbrev pub steps_or_spent : Steps → Steps
steps_or_spent y = ((or_spent y.0.0, y.0.1), y.1)

-- what a function answers that made the step x, the words being w' then and the buffer k
module _ (s w : List ℕ) (x : Wanted) (table j : List ℕ) (st : State) (left : ℕ) (w' k : List ℕ) (r : Found) where
  -- one step
  abbrev pub MadeOnce : Type 0
  MadeOnce = (end : ℕ) (from : Ctl) (op : Op) (c₁ c₀ : Ctl) (e : Ed) (c : Carried) (t : Tape) → Wants s w end x from op c₁ c₀ → StandingBelow s w end c → Ready table j st e t
      → LooksAs k r.looked (step (lent j) op (state e c) t) × (r.made ≡ 1) × Carries s w' end (step (lent j) op (state e c) t).0

  -- the test of a line in the search f, and all the tests that follow it, at most `left`: no word is written
  abbrev pub MadeSearch : Seek → Type 0
  MadeSearch f = (w' ≡ w) × ((se : Search) (e : Ed) (c : Carried) (t : Tape) → SearchOf s w x.item se → Standing s w c → Ready table j st e t
      → Seeks k r (steps_or_spent (steps_of (lent j) (look_op f se) x.lines left (state e c) t)))

  -- by what is asked
  unfoldable pub Made : Ask → Type 0
  Made Round = MadeOnce
  Made Holds = MadeOnce
  Made HoldsNot = MadeOnce
  Made AtEof = MadeOnce
  Made Begin = MadeOnce
  Made BeginBack = MadeOnce
  Made Find = MadeSearch forward
  Made FindBack = MadeSearch backward
  Made FindDelete = MadeSearch deleting
  Made Command = MadeOnce

  abbrev pub AnswersStep : Type 0
  AnswersStep = Made x.what
