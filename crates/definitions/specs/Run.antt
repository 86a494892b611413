-- The run: steps, budget, the order of refusals, the answer and the journal buffer afterwards (document 01, "Commands": steps; "Who causes
-- which number"; document 02, wish 2: the unread lines of a done run; wish 6: the arranging at its end).
use Rattle.std.specs.Prelude.{Bool, true, false, cond, List, [], ◌++◌, map, ℕ, zero, suc, ◌+◌, ◌-◌, ◌*◌, length, replicate, leb}
use Rattle.definitions.specs.Bytes.{Line, lines_of}
use Rattle.definitions.specs.Table.{is_table, is_script}
use Rattle.definitions.specs.Journal.{Record, kept, journal_bytes, journal_length}
use Rattle.definitions.specs.Arranging.{arrange}
use Rattle.definitions.specs.Tape.{Tape, unread, Reads, ret, bind}
use Rattle.definitions.specs.Given.{bytes, Given, given, no_globals}
use Rattle.definitions.specs.Editor.{Ed, records, journal, furthest, stop_number, eof}
use Rattle.definitions.specs.Reading.{Ran, gave, stopped, read_to, opening}
use Rattle.definitions.specs.StepProgram.{RunState, state, text_of, Out, on, edited, halt}
use Rattle.definitions.specs.Edit.{Op, step}
use Rattle.definitions.specs.Control.{Item, Ctl, running, Pull, finished, want, lost, pull}
use Rattle.definitions.specs.Script.{Script, items, refused_at, read_script}

-- how a run ends: number, steps, place, and the last state
pub data End : Type 0 where
  end : ℕ → ℕ → ℕ → RunState → End

unfoldable pub choose : Bool → Ctl → Ctl → Ctl
choose true c₁ c₀ = c₁
choose false c₁ c₀ = c₀

-- "Done .. have place 0"
unfoldable pub end_place : ℕ → ℕ → ℕ
end_place zero at = 0
end_place (suc n) at = at

-- the budget is spent: "The run stops when its next step would exceed the budget" (29), at the place of that step (R27); done where none is wanted
-- (R28); `lost` never comes
unfoldable pub spent : ℕ → RunState → Pull → End
spent steps s finished = end 0 steps 0 s
spent steps s (want at op c₁ c₀) = end 29 steps at s
spent steps s lost = end 0 steps 0 s

-- after a step; `go` is the run with what is left of the budget
unfoldable pub stepped : (Ctl → RunState → Reads End) → ℕ → ℕ → Ctl → Ctl → Out → Reads End
stepped go steps at c₁ c₀ (on b s) = go (choose b c₁ c₀) s
stepped go steps at c₁ c₀ (edited s) = go c₁ s
stepped go steps at c₁ c₀ (halt n s) = ret (end n steps (end_place n at) s)

-- the next step, if there is one; `lost` never comes
unfoldable pub stepping : (Op → RunState → Reads Out) → (Ctl → RunState → Reads End) → ℕ → RunState → Pull → Reads End
stepping take_step go steps s finished = ret (end 0 steps 0 s)
stepping take_step go steps s (want at op c₁ c₀) = bind (take_step op s) (stepped go (suc steps) at c₁ c₀)
stepping take_step go steps s lost = ret (end 0 steps 0 s)

-- the run with so much of the budget left, `steps` being made; `take_step` is what one step does
unfoldable pub run : (Op → RunState → Reads Out) → ℕ → ℕ → Ctl → RunState → Reads End
run take_step zero steps c s = ret (spent steps s (pull c))
run take_step (suc budget) steps c s = stepping take_step (λ c' s'. run take_step budget (suc steps) c' s') steps s (pull c)

unfoldable pub run_items : (Op → RunState → Reads Out) → ℕ → List Item → Reads End
run_items take_step budget is = bind opening (λ e. run take_step budget 0 (running is []) (state e no_globals))

-- ---- the answer

-- done or stopped: number, steps, furthest, place and the records; refused: number and place
pub data Answer : Type 0 where
  answer : ℕ → ℕ → ℕ → ℕ → List Record → Answer
  refusal : ℕ → ℕ → Answer

-- the script is done, and the lines that it left unread are passed through the standing globals, "without counting as read" (W2.11): all of them, or none
-- where they stop "among them after the script's end, with the script's length as place" (W2.12)
unfoldable pub rest_passed : ℕ → ℕ → Ed → Tape → Ran (Unit {0}) → Answer
rest_passed steps place e t (gave u all) = answer 0 steps (furthest e t) 0 (records all)
rest_passed steps place e t (stopped n e') = answer (stop_number n) steps (furthest e t) place (journal e t)

-- the answer of a run that is given g and ends so, the script having `place` bytes, its records in the order that the run left: "When the script ends or
-- stops, the records stand as they are"; "A stopped run leaves its unread lines kept"
unfoldable pub in_run_order : Given → ℕ → End → Tape → Answer
in_run_order g place (end zero steps at (state e c)) t = rest_passed steps place e t (read_to g c eof e t).0
in_run_order g place (end (suc n) steps at s) t = answer (suc n) steps (furthest (text_of s) t) at (journal (text_of s) t)

-- an answer with its records arranged; a refused run has none
unfoldable pub arranged : Answer → Answer
arranged (answer n steps f at rs) = answer n steps f at (arrange rs)
arranged (refusal n at) = refusal n at

-- what the run answers: "The arranging is done at the run's end, stopped or not" (W6.2), after the pass over the unread lines (W6.3)
unfoldable pub answer_of : Given → ℕ → End → Tape → Answer
answer_of g place x t = arranged (in_run_order g place x t)

unfoldable pub ran_items : Given → ℕ → ℕ → List Item → List Line → Answer
ran_items g place budget is ls = let r = run_items (step g) budget is (unread ls) in answer_of g place r.0 r.1

-- "9 journal buffer shorter than the opening journal", which keeps every source line
unfoldable pub opening_length : List Line → ℕ
opening_length ls = journal_length (map kept ls)

-- the least length of the work area: "twice the script's bytes plus 64" 32-bit numbers (R45)
unfoldable pub work_length : List ℕ → ℕ
work_length script = 2 * length script + 64

unfoldable pub ran_table : List ℕ → ℕ → ℕ → ℕ → List Item → Answer
ran_table table place budget size is =
    cond (leb (opening_length (lines_of table)) size) (ran_items (given (bytes size)) place budget is (lines_of table)) (refusal 9 0)

unfoldable pub ran_script : List ℕ → ℕ → ℕ → ℕ → Script → Answer
ran_script table place budget size (items is) = cond (is_table table) (ran_table table place budget size is) (refusal 7 0)
ran_script table place budget size (refused_at n at) = refusal n at

-- "Order: 1, 8, then 2 to 6 by place in reading order (ties to the lower), 7, 9" (R45); document 02's 33 stands with 2 to 6 (W0.1)
unfoldable pub run_answer : List ℕ → List ℕ → ℕ → ℕ → ℕ → Answer
run_answer table script budget work size =
    cond (is_script script)
    (cond (leb (work_length script) work) (ran_script table (length script) budget size (read_script script)) (refusal 8 0))
    (refusal 1 0)

-- ---- the answer's five values and the journal buffer afterwards

unfoldable pub answer_number : Answer → ℕ
answer_number (answer n steps f at j) = n
answer_number (refusal n at) = n

-- "Refused: .. steps, furthest and length are 0"
unfoldable pub answer_steps : Answer → ℕ
answer_steps (answer n steps f at j) = steps
answer_steps (refusal n at) = 0

unfoldable pub answer_furthest : Answer → ℕ
answer_furthest (answer n steps f at j) = f
answer_furthest (refusal n at) = 0

unfoldable pub answer_place : Answer → ℕ
answer_place (answer n steps f at j) = at
answer_place (refusal n at) = at

unfoldable pub answer_records : Answer → List Record
answer_records (answer n steps f at j) = j
answer_records (refusal n at) = []

unfoldable pub answer_length : Answer → ℕ
answer_length (answer n steps f at j) = journal_length j
answer_length (refusal n at) = 0

-- "Refused: the journal buffer is untouched"; "After a run that is not refused, the journal buffer's bytes past the journal are 0"
unfoldable pub buffer_after : List ℕ → Answer → List ℕ
buffer_after buffer (answer n steps f at j) = journal_bytes j ++ replicate (length buffer - journal_length j) 0
buffer_after buffer (refusal n at) = buffer

-- number, steps, furthest, length, place, and the journal buffer's bytes
pub data Outcome : Type 0 where
  outcome : ℕ → ℕ → ℕ → ℕ → ℕ → List ℕ → Outcome

unfoldable pub outcome_from : List ℕ → Answer → Outcome
outcome_from buffer a = outcome (answer_number a) (answer_steps a) (answer_furthest a) (answer_length a) (answer_place a) (buffer_after buffer a)

-- what a run comes to: table, script, budget, the work area's length, the journal buffer
unfoldable pub outcome_of : List ℕ → List ℕ → ℕ → ℕ → List ℕ → Outcome
outcome_of table script budget work buffer = outcome_from buffer (run_answer table script budget work (length buffer))
