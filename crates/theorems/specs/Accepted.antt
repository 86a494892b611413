-- An accepted run is the run of the script's items over the table's lines: refusals are left aside here, once.
use Rattle.std.specs.Prelude.{◌≡◌, Bool, true, false, cond, List, ℕ, zero, suc, ◌≤◌, length, leb}
use Rattle.std.proofs.Math.Path.{refl}
use Rattle.std.proofs.Common.{ap, ◌∙◌, leb-true, le-leb}
use Rattle.definitions.specs.Bytes.{Line, lines_of}
use Rattle.definitions.specs.Table.{is_table, is_script}
use Rattle.definitions.specs.Tape.{Tape}
use Rattle.definitions.specs.Given.{Given, given, bytes}
use Rattle.definitions.specs.Editor.{Ed, eof}
use Rattle.definitions.specs.Reading.{Ran, gave, stopped, read_to}
use Rattle.definitions.specs.StepProgram.{state}
use Rattle.definitions.specs.Control.{Item}
use Rattle.definitions.specs.Script.{Script, items, refused_at, read_script}
use Rattle.definitions.specs.Run.{End, end, Answer, refusal, rest_passed, in_run_order, arranged, answer_of, ran_items, opening_length, work_length, ran_table, ran_script, run_answer}
use Rattle.theorems.specs.Demand3.{IsTableAccepted, IsAccepted}

-- what is not refused is no refusal
cond-accepted : (t : Bool) (a : Answer) (n at : ℕ) → IsAccepted (cond t a (refusal n at)) → cond t a (refusal n at) ≡ a
unfolding IsAccepted
cond-accepted true a n at h = refl
cond-accepted false a n at h = absurd h

cond-passed : (t : Bool) (a : Answer) (n at : ℕ) → IsAccepted (cond t a (refusal n at)) → t ≡ true
unfolding IsAccepted
cond-passed true a n at h = refl
cond-passed false a n at h = absurd h

ran-table : (table script : List ℕ) (budget size : ℕ) (is : List Item) → IsAccepted (ran_table table (length script) budget size is) → ran_table table (length script) budget size is ≡ ran_items (given (bytes size)) (length script) budget is (lines_of table)
unfolding ran_table
ran-table table script budget size is h = cond-accepted (leb (opening_length (lines_of table)) size) (ran_items (given (bytes size)) (length script) budget is (lines_of table)) 9 0 h

ran-script : (table script : List ℕ) (budget size : ℕ) (is : List Item) → IsAccepted (ran_script table (length script) budget size (items is))
    → ran_script table (length script) budget size (items is) ≡ ran_items (given (bytes size)) (length script) budget is (lines_of table)
unfolding ran_script
ran-script table script budget size is h =
    let e : cond (is_table table) (ran_table table (length script) budget size is) (refusal 7 0) ≡ ran_table table (length script) budget size is = cond-accepted (is_table table) (ran_table table (length script) budget size is) 7 0 h in
    e ∙ ran-table table script budget size is (rw e at h)

ran-answer : (table script : List ℕ) (budget work size : ℕ) → IsAccepted (run_answer table script budget work size)
    → run_answer table script budget work size ≡ ran_script table (length script) budget size (read_script script)
unfolding run_answer
ran-answer table script budget work size h =
    let a : Answer = ran_script table (length script) budget size (read_script script) in
    let b : Answer = cond (leb (work_length script) work) a (refusal 8 0) in
    let e : cond (is_script script) b (refusal 1 0) ≡ b = cond-accepted (is_script script) b 1 0 h in
    e ∙ cond-accepted (leb (work_length script) work) a 8 0 (rw e at h)

-- the answer of an accepted run is that of the script's items
pub ran-accepted : (table script : List ℕ) (budget work size : ℕ) (is : List Item) → read_script script ≡ items is
    → IsAccepted (run_answer table script budget work size) → run_answer table script budget work size ≡ ran_items (given (bytes size)) (length script) budget is (lines_of table)
ran-accepted table script budget work size is e h =
    let q : run_answer table script budget work size ≡ ran_script table (length script) budget size (items is) = ran-answer table script budget work size h ∙ ap (ran_script table (length script) budget size) e in
    q ∙ ran-script table script budget size is (rw q at h)

-- the script of an accepted run has items
pub no-refusal : (table script : List ℕ) (budget work size n at : ℕ) → read_script script ≡ refused_at n at → IsAccepted (run_answer table script budget work size) → ⊥
unfolding ran_script IsAccepted
no-refusal table script budget work size n at e h = rw (ran-answer table script budget work size h, e) at h

-- the script's items are read; then come the table's test and the buffer's
of-script : (table script : List ℕ) (budget work size : ℕ) (is : List Item) → read_script script ≡ items is
    → IsAccepted (run_answer table script budget work size) → IsAccepted (cond (is_table table) (ran_table table (length script) budget size is) (refusal 7 0))
unfolding ran_script
of-script table script budget work size is e h = rw (ran-answer table script budget work size h ∙ ap (ran_script table (length script) budget size) e) at h

-- its table is one
pub is-table : (table script : List ℕ) (budget work size : ℕ) (is : List Item) → read_script script ≡ items is
    → IsAccepted (run_answer table script budget work size) → is_table table ≡ true
is-table table script budget work size is e h = cond-passed (is_table table) (ran_table table (length script) budget size is) 7 0 (of-script table script budget work size is e h)

-- its journal buffer has room for the opening journal
pub has_room : (table script : List ℕ) (budget work size : ℕ) (is : List Item) → read_script script ≡ items is
    → IsAccepted (run_answer table script budget work size) → opening_length (lines_of table) ≤ size
unfolding ran_table
has_room table script budget work size is e h =
    let h₁ : IsAccepted (cond (is_table table) (ran_table table (length script) budget size is) (refusal 7 0)) = of-script table script budget work size is e h in
    let h₂ : IsAccepted (ran_table table (length script) budget size is) = rw (cond-accepted (is_table table) (ran_table table (length script) budget size is) 7 0 h₁) at h₁ in
    leb-true (opening_length (lines_of table)) size (cond-passed (leb (opening_length (lines_of table)) size) (ran_items (given (bytes size)) (length script) budget is (lines_of table)) 9 0 h₂)

-- the work area is long enough
has-work : (table script : List ℕ) (budget work size : ℕ) → IsAccepted (run_answer table script budget work size) → (is_script script ≡ true) × (work_length script ≤ work)
unfolding run_answer
has-work table script budget work size h =
    let a : Answer = ran_script table (length script) budget size (read_script script) in
    let b : Answer = cond (leb (work_length script) work) a (refusal 8 0) in
    let e : cond (is_script script) b (refusal 1 0) ≡ b = cond-accepted (is_script script) b 1 0 h in
    (cond-passed (is_script script) b 1 0 h, leb-true (work_length script) work (cond-passed (leb (work_length script) work) a 8 0 (rw e at h)))

-- ---- what is asked of a run beside its script

-- an accepted table, a work area (8) and a journal buffer (9) that are long enough
pub record Asked (table script : List ℕ) (work size : ℕ) : Type 0 where
  pub accepted : IsTableAccepted table
  pub area : work_length script ≤ work
  pub room : opening_length (lines_of table) ≤ size

-- an accepted run's table is accepted, and it has room enough
pub accepted-asks : (table script : List ℕ) (budget work size : ℕ) → IsAccepted (run_answer table script budget work size) → Asked table script work size
accepted-asks table script budget work size h = by (read_script script) refl
  where
    by : (r : Script) → read_script script ≡ r → Asked table script work size
    by (refused_at n at) e = absurd (no-refusal table script budget work size n at e h)
    by (items is) e = record {
      accepted = is-table table script budget work size is e h;
      area = (has-work table script budget work size h).1;
      room = has_room table script budget work size is e h;
    }

rest-accepted : (steps place : ℕ) (e : Ed) (t : Tape) (r : Ran (Unit {0})) → IsAccepted (arranged (rest_passed steps place e t r))
unfolding IsAccepted rest_passed arranged
rest-accepted steps place e t (gave u all) = tt
rest-accepted steps place e t (stopped n e') = tt

answer-accepted : (g : Given) (place : ℕ) (x : End) (t : Tape) → IsAccepted (answer_of g place x t)
unfolding answer_of in_run_order
answer-accepted g place (end zero steps at (state e c)) t = rest-accepted steps place e t (read_to g c eof e t).0
answer-accepted g place (end (suc n) steps at s) t = unfold IsAccepted arranged in tt

asked-script : (table script : List ℕ) (budget work size : ℕ) (is : List Item) → is_script script ≡ true → read_script script ≡ items is → Asked table script work size
    → IsAccepted (run_answer table script budget work size)
unfolding run_answer ran_script ran_table ran_items
asked-script table script budget work size is form e a =
    rw (form, le-leb (work_length script) work a.area, e, a.accepted, le-leb (opening_length (lines_of table)) size a.room) (answer-accepted _ _ _ _)

-- nothing more is asked: a script that one run takes is taken with every accepted table
pub asked-accepted : (table script : List ℕ) (budget work size : ℕ) → IsAccepted (run_answer table script budget work size)
    → (table₂ : List ℕ) (budget₂ work₂ size₂ : ℕ) → Asked table₂ script work₂ size₂ → IsAccepted (run_answer table₂ script budget₂ work₂ size₂)
asked-accepted table script budget work size h table₂ budget₂ work₂ size₂ a = by (read_script script) refl
  where
    by : (r : Script) → read_script script ≡ r → IsAccepted (run_answer table₂ script budget₂ work₂ size₂)
    by (refused_at n at) e = absurd (no-refusal table script budget work size n at e h)
    by (items is) e = asked-script table₂ script budget₂ work₂ size₂ is (has-work table script budget work size h).0 e a

-- ---- the budget

-- Whether a run is refused, with which number and where, and which items it takes: all this is the same under every budget.
pub data Judged (g : Given) (place : ℕ) (ls : List Line) (r : Script) (under : ℕ → Answer) : Type 0 where
  refuses : (n at : ℕ) → ((budget : ℕ) → under budget ≡ refusal n at) → Judged g place ls r under
  takes : (is : List Item) → r ≡ items is → ((budget : ℕ) → under budget ≡ ran_items g place budget is ls) → Judged g place ls r under

module _ (table script : List ℕ) (work size : ℕ) where
  abbrev JudgedHere : Script → (ℕ → Answer) → Type 0
  JudgedHere r under = Judged (given (bytes size)) (length script) (lines_of table) r under

  cond-judged : (r : Script) (t : Bool) (under : ℕ → Answer) (n : ℕ) → JudgedHere r under → JudgedHere r (λ budget. cond t (under budget) (refusal n 0))
  cond-judged r true under n h = h
  cond-judged r false under n h = refuses n 0 (λ budget. refl)

  script-judged : (r : Script) → JudgedHere r (λ budget. ran_script table (length script) budget size r)
  unfolding ran_script ran_table
  script-judged (refused_at n at) = refuses n at (λ budget. refl)
  script-judged (items is) =
      cond-judged (items is) (is_table table) _ 7
      (cond-judged (items is) (leb (opening_length (lines_of table)) size) (λ budget. ran_items (given (bytes size)) (length script) budget is (lines_of table)) 9 (takes is refl (λ budget. refl)))

  -- THE LAW
  pub judged : JudgedHere (read_script script) (λ budget. run_answer table script budget work size)
  unfolding run_answer
  judged =
      cond-judged (read_script script) (is_script script) _ 1
      (cond-judged (read_script script) (leb (work_length script) work) (λ budget. ran_script table (length script) budget size (read_script script)) 8 (script-judged (read_script script)))
