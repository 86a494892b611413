-- The decoded items of a script, and how their run ends. Assumes nothing.
use Rattle.std.specs.Prelude.{◌≡◌, true, List, [], ℕ, ◌≤◌, length}
use Rattle.definitions.specs.Bytes.{lines_of}
use Rattle.definitions.specs.Table.{is_table, is_script}
use Rattle.definitions.specs.Tape.{Tape, unread}
use Rattle.definitions.specs.Given.{no_globals}
use Rattle.definitions.specs.Editor.{Ed}
use Rattle.definitions.specs.StepProgram.{state}
use Rattle.definitions.specs.Edit.{step}
use Rattle.definitions.specs.Control.{Item, running}
use Rattle.definitions.specs.Script.{items as items_of}
use Rattle.definitions.specs.Run.{End, end, run, run_items, Answer as Answered, answer, refusal, in_run_order, arranged, opening_length, ran_script}
use Rattle.theorems.specs.GoodItems.{good_op}
use Rattle.theorems.specs.Runs.{ItemsOf}
use Rattle.control.specs.Items.{Startable}
use Rattle.globals.specs.Standing.{StandingBelow, Standing}
use Rattle.editor.specs.Shows.{Shows, lent}
use Rattle.editor.specs.Current.{Ready}
use Rattle.editor.specs.declared.State.{State}
use Rattle.tail.specs.Rest.{HoldsAll}
use Rattle.run.specs.declared.decoded.Ended.{Ended}
use Rattle.run.specs.declared.Answer.{Answer}
use Rattle.run.specs.Answers.{Gives}

-- the script's items lie in the words below `end`, ready to run
pub record Runnable (s w : List ℕ) (end : ℕ) (items : List Item) : Type 0 where
  pub form : is_script s ≡ true
  pub start : Startable s w end items
  pub good : ItemsOf (λ op. good_op op ≡ true) items

-- ---- the items

-- the end r, and what the run comes to: number, steps, place, a text that the buffer shows, and what is carried, in the words
unfoldable pub Ends : List ℕ → List ℕ → List ℕ → Ended → End → Tape → Type 0
Ends script w j r (end number steps place (state e c)) t =
    (r.number ≡ number) × (r.steps ≡ steps) × (r.place ≡ place) × Shows j r.st e t × Standing script w c

-- the same of an end together with what is then unread
abbrev pub EndsAs : List ℕ → List ℕ → List ℕ → Ended → End × Tape → Type 0
EndsAs script w j r x = Ends script w j r x.0 x.1

-- what a function answers that ran the items below `last`, at most `budget` steps, no global standing before; the words are v and the buffer is k then
abbrev pub RunsItems : List ℕ → List ℕ → ℕ → ℕ → List ℕ → List ℕ → State → List ℕ → List ℕ → Ended → Type 0
RunsItems script w last budget table j st v k r =
    (items : List Item) (e : Ed) (t : Tape) → Runnable script w last items → Ready table j st e t
    → EndsAs script v k r (run (step (lent j)) budget 0 (running items []) (state e no_globals) t)

-- the same from the table's opening journal on
abbrev pub RunsTable : List ℕ → List ℕ → ℕ → ℕ → List ℕ → List ℕ → List ℕ → List ℕ → Ended → Type 0
RunsTable script w last budget table buffer v k r =
    (is : List Item) → Runnable script w last is → EndsAs script v k r (run_items (step (lent buffer)) budget is (unread (lines_of table)))

-- there are such items, and the budget is document 01's: "Budgets are 0 to 4,294,967,295"
abbrev pub CanRun : List ℕ → List ℕ → ℕ → ℕ → Type 0
CanRun script w last budget = ((items : List Item) × Runnable script w last items) × (budget ≤ 4294967295)

-- as where a run begins: no global stands in the words, of items below `last`, and letters and digits count for W
abbrev pub NoneStands : List ℕ → List ℕ → ℕ → Type 0
NoneStands script w last = StandingBelow script w last no_globals

-- ---- the unread lines of a done run (document 02, wish 2; W2.11, W2.12)

-- the end r, and the run's answer: number, steps, place, and the records that the buffer holds, in the run's order; f is the furthest line read
unfoldable pub EndsIn : List ℕ → ℕ → Ended → Answered → Type 0
EndsIn j f r (answer number steps furthest place rs) =
    (r.number ≡ number) × (r.steps ≡ steps) × (f ≡ furthest) × (r.place ≡ place) × HoldsAll j r.st rs × (number ≡ 0 → place ≡ 0)
EndsIn j f r (refusal number place) = ⊥

-- some run ends so
abbrev pub SomeEnd : List ℕ → List ℕ → List ℕ → Ended → Type 0
SomeEnd script w j r = (x : End) × (t : Tape) × Ends script w j r x t

-- what a function answers that passed the unread lines of the run that ended so, where it is done; the buffer is k then
abbrev pub PassesUnread : List ℕ → List ℕ → List ℕ → Ended → List ℕ → Ended → Type 0
PassesUnread script w j r k z =
    (x : End) (t : Tape) → Ends script w j r x t → EndsIn k r.st.furthest z (in_run_order (lent j) (length script) x t)

-- what a function answers that closed the journal, and the bytes of its buffer then: the records are arranged (document 02, wish 6)
abbrev pub GivesClosed : List ℕ → ℕ → Ended → Answer → List ℕ → Type 0
GivesClosed j f r z bytes = (buffer : List ℕ) (a : Answered) → length buffer ≡ length j → EndsIn j f r a → Gives buffer (arranged a) z bytes

-- ---- the whole run

-- the table has its form, and its opening journal fits the buffer
abbrev pub Opening : List ℕ → List ℕ → Type 0
Opening table buffer = (is_table table ≡ true) × (opening_length (lines_of table) ≤ length buffer)

-- what a function answers that ran the items below `last` on any bytes as the table, and the bytes of the journal buffer afterwards: 7 and 9 come
-- first, and neither where `Opening` holds
abbrev pub GivesRun : List ℕ → List ℕ → ℕ → ℕ → List ℕ → List ℕ → Answer → List ℕ → Type 0
GivesRun script w last budget table buffer r bytes =
    (is : List Item) → Runnable script w last is → Gives buffer (ran_script table (length script) budget (length buffer) (items_of is)) r bytes
