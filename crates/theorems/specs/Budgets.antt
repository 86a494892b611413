-- Larger budgets never disagree (document 02, wish 5), as one statement over whole outcomes: number, steps, furthest line, the journal's length, place, and every byte
-- of the journal buffer. The unread lines of a done run (wish 2) are in it, as they are in the outcome.
use Rattle.std.specs.Prelude.{◌≡◌, List, [], ℕ, zero, suc, ◌+◌, ◌≤◌, ◌<◌, length}
use Rattle.std.proofs.Math.Option.{Option, none, some}
use Rattle.definitions.specs.Bytes.{Line, lines_of}
use Rattle.definitions.specs.Tape.{Tape, unread, Reads}
use Rattle.definitions.specs.Given.{Given, given, bytes, no_globals}
use Rattle.definitions.specs.Reading.{opening}
use Rattle.definitions.specs.StepProgram.{RunState, state, Out, on, edited, halt}
use Rattle.definitions.specs.Edit.{Op, step}
use Rattle.definitions.specs.Control.{Ctl, running, Pull, finished, want, lost, pull}
use Rattle.definitions.specs.Script.{Script, items, refused_at, read_script}
use Rattle.definitions.specs.Run.{choose, run, Answer, answer_of, Outcome, outcome, outcome_from, outcome_of}

-- ---- the terms

unfoldable pub outcome_number : Outcome → ℕ
outcome_number (outcome number steps furthest long place journal) = number

unfoldable pub outcome_steps : Outcome → ℕ
outcome_steps (outcome number steps furthest long place journal) = steps

unfoldable pub outcome_furthest : Outcome → ℕ
outcome_furthest (outcome number steps furthest long place journal) = furthest

unfoldable pub outcome_place : Outcome → ℕ
outcome_place (outcome number steps furthest long place journal) = place

-- "a run stopped with 29"
abbrev pub IsSpent : Outcome → Type 0
IsSpent o = outcome_number o ≡ 29

-- "a run that ends otherwise": done, stopped with any other number, or refused (W5.1)
abbrev pub EndsOtherwise : Outcome → Type 0
EndsOtherwise o = IsSpent o → ⊥

-- Where a run stands between two steps: what is left of the script, the text with what is carried, and the unread lines
pub data Point : Type 0 where
  point : Ctl → RunState → Tape → Point

-- after one more step; none where the step has ended the run
unfoldable pub onwards : (Ctl → RunState → Tape → Option Point) → Ctl → Ctl → Out × Tape → Option Point
onwards go c₁ c₀ (on b s, t) = go (choose b c₁ c₀) s t
onwards go c₁ c₀ (edited s, t) = go c₁ s t
onwards go c₁ c₀ (halt n s, t) = none

unfoldable pub once_made : (Op → RunState → Reads Out) → (Ctl → RunState → Tape → Option Point) → RunState → Tape → Pull → Option Point
once_made take_step go s t finished = none
once_made take_step go s t (want at op c₁ c₀) = onwards go c₁ c₀ (take_step op s t)
once_made take_step go s t lost = none

-- Where a run stands after so many steps, none where it has ended before. It knows no budget: these are the steps of every run that is allowed them.
unfoldable pub after_steps : (Op → RunState → Reads Out) → ℕ → Ctl → RunState → Tape → Option Point
after_steps take_step zero c s t = some (point c s t)
after_steps take_step (suc n) c s t = once_made take_step (λ c' s' t'. after_steps take_step n c' s' t') s t (pull c)

-- the same from the opening on, for a journal buffer of `size` bytes
unfoldable pub script_after : List Line → ℕ → ℕ → Script → Option Point
script_after ls size n (items is) = let o = opening (unread ls) in after_steps (step (given (bytes size))) n (running is []) (state o.0 no_globals) o.1
script_after ls size n (refused_at m at) = none

-- a point at which another step is wanted; its place says which (W5.2)
pub record Pause : Type 0 where
  pub left : Ctl
  pub text : RunState
  pub lines : Tape
  pub place : ℕ
  pub op : Op
  pub if_true : Ctl
  pub if_false : Ctl
  pub wanted : pull left ≡ want place op if_true if_false

abbrev pub point_of : Pause → Point
point_of p = point p.left p.text p.lines

-- the answer of a run that is given g, stands so after `steps` steps, and goes on with at most `more`; the script has `scriptLength` bytes
unfoldable pub answer_from : Given → ℕ → ℕ → ℕ → Pause → Answer
answer_from g scriptLength more steps p = let r = run (step g) more steps p.left p.text p.lines in answer_of g scriptLength r.0 r.1

module _ (table script : List ℕ) (work : ℕ) (buffer : List ℕ) where
  -- what the run comes to under a budget; "nothing but the budget changed"
  abbrev pub under : ℕ → Outcome
  under budget = outcome_of table script budget work buffer

  -- A run stopped with 29 stands where as many steps as its budget lead, and wants the step at its place. Under every budget from this one on the run is the one that
  -- goes on from there, with as many steps more as it is given: 0 for this budget itself.
  pub record GoesOn (budget : ℕ) : Type 0 where
    pub from : Pause
    pub reached : script_after (lines_of table) (length buffer) budget (read_script script) ≡ some (point_of from)
    pub place : outcome_place (under budget) ≡ from.place
    pub with_more : (more : ℕ) → under (budget + more) ≡ outcome_from buffer (answer_from (given (bytes (length buffer))) (length script) more budget from)

  -- ---- the statement

  pub record WishFive (budget : ℕ) : Type 0 where
    -- "a run that ends otherwise under one budget must end the same, with the same place, steps, furthest line and journal, under every larger one"
    pub same : EndsOtherwise (under budget) → (larger : ℕ) → budget ≤ larger → under larger ≡ under budget
    -- "A run stopped with 29 has made exactly as many steps as its budget."; no run makes more
    pub spent : IsSpent (under budget) → outcome_steps (under budget) ≡ budget
    pub most : outcome_steps (under budget) ≤ budget
    -- The steps that were made are budget enough, also where the unread lines are passed through the globals after the script's end: this takes no step, and a 25 or 26
    -- there is the same (W5.3, R28).
    pub enough : EndsOtherwise (under budget) → (other : ℕ) → outcome_steps (under budget) ≤ other → under other ≡ under budget
    -- a budget of fewer steps is not
    pub short : (other : ℕ) → other < outcome_steps (under budget) → IsSpent (under other)
    -- "The depot raises the budget when a run ends with 29": the run goes on from where it stood,
    pub goes_on : IsSpent (under budget) → GoesOn budget
    -- makes at least the step that it wanted there, and has read no less
    pub further : IsSpent (under budget) → (larger : ℕ) → budget < larger
        → (outcome_steps (under budget) < outcome_steps (under larger)) × (outcome_furthest (under budget) ≤ outcome_furthest (under larger))

-- WISH 5: of every table, script, work area, journal buffer and budget
abbrev pub LargerBudgets : Type 0
LargerBudgets = (table script : List ℕ) (work : ℕ) (buffer : List ℕ) (budget : ℕ) → WishFive table script work buffer budget
