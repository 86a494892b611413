-- The number of an answer tells how the run ended (document 01, "Who causes which number"): 0 done, 20 to 31 stopped, 1 to 9, 33 and 34 refused.
use Rattle.std.specs.Prelude.{◌≡◌, refl, Bool, true, false, cond, ◌⊎◌, List, ℕ, zero, suc, ◌≤◌, length, leb}
use Rattle.std.proofs.Common.{inl, inr, arith}
use Rattle.definitions.specs.Bytes.{Line, lines_of}
use Rattle.definitions.specs.Table.{is_table, is_script}
use Rattle.definitions.specs.Tape.{Tape, unread, bind}
use Rattle.definitions.specs.Given.{Given, given, bytes, Global, Carried, carried, words_of}
use Rattle.definitions.specs.Editor.{Ed, Stop, n20, n21, n22, n23, n24, n25, n26, n27, n28, n30, n31, stop_number, eof, edits}
use Rattle.definitions.specs.Reading.{Ran, gave, stopped, read_to}
use Rattle.definitions.specs.StepProgram.{runs, RunState, state, words_in, Did, answers, changes, quits, adds, cancels, names, Out, on, edited, halt, one_more, finish, perform}
use Rattle.definitions.specs.Edit.{Op, program, step}
use Rattle.definitions.specs.Control.{Item}
use Rattle.definitions.specs.Script.{Script, items, refused_at, read_script}
use Rattle.definitions.specs.Run.{End, end, run_items, Answer, answer, refusal, rest_passed, in_run_order, arranged, answer_of, ran_items, opening_length, work_length, ran_table, ran_script, run_answer, answer_number}
use Rattle.theorems.specs.ComesTo.{within-comes, one-comes}
use Rattle.theorems.specs.Reading.{At}
use Rattle.theorems.specs.Runs.{StepOr, EndOf, inner-all, items-all, run_items-ends}
use Rattle.theorems.proofs.ReadScript.{refusal-numbers}
use Rattle.theorems.specs.Demand3.{IsAccepted}
use Rattle.theorems.specs.Numbers.{StepNumber, StepNumbered, EndNumber, RefusalNumber, Numbered}

-- ---- a step

pub stop-number : (n : Stop) → StepNumber (stop_number n)
unfolding stop_number
stop-number n20 = inr (omega arith, omega arith, λ q. omega (arith, q))
stop-number n21 = inr (omega arith, omega arith, λ q. omega (arith, q))
stop-number n22 = inr (omega arith, omega arith, λ q. omega (arith, q))
stop-number n23 = inr (omega arith, omega arith, λ q. omega (arith, q))
stop-number n24 = inr (omega arith, omega arith, λ q. omega (arith, q))
stop-number n25 = inr (omega arith, omega arith, λ q. omega (arith, q))
stop-number n26 = inr (omega arith, omega arith, λ q. omega (arith, q))
stop-number n27 = inr (omega arith, omega arith, λ q. omega (arith, q))
stop-number n28 = inr (omega arith, omega arith, λ q. omega (arith, q))
stop-number n30 = inr (omega arith, omega arith, λ q. omega (arith, q))
stop-number n31 = inr (omega arith, omega arith, λ q. omega (arith, q))

one_number : (c : Carried) (x : Global) (e : Ed) (t : Tape) → StepNumbered (one_more c x e) t
one_number (carried gs xs) x e t = one-comes (λ o. StepNumbered o t) gs xs x e (λ room. tt) (stop-number n31)

finish-number : (g : Given) (c : Carried) (r : Ran Did) (t : Tape) → At StepNumbered (finish g c r t)
unfolding finish
finish-number g c (gave (answers b) e) t = tt
finish-number g c (gave (changes xs) e) t = within-comes StepNumbered g c e (edits xs e) t (λ x. tt) (stop-number n26)
finish-number g c (gave quits e) t = inl refl
finish-number g c (gave (adds x) e) t = one_number c x e t
finish-number g c (gave cancels e) t = tt
finish-number g c (gave (names xs) e) t = tt
finish-number g c (stopped n e) t = stop-number n

pub step-number : (g : Given) (op : Op) (s : RunState) (t : Tape) → At StepNumbered (step g op s t)
unfolding step perform bind words_in
step-number g op (state e c) t = finish-number g c (runs g c (program (words_of c) op) e t).0 (runs g c (program (words_of c) op) e t).1

-- ---- the answer

-- a step's number is an end's
ends : (n : ℕ) → StepNumber n → EndNumber n
ends n (inl q) = inl q
ends n (inr h) = inr (h.0, h.1)

abbrev Ends : ℕ → RunState → Tape → Type 0
Ends n s t = EndNumber n

step-ends : (g : Given) (op : Op) (s : RunState) (t : Tape) → At (StepOr (λ x u. Unit {0}) Ends) (step g op s t)
step-ends g op s t = by (step g op s t).0 (step g op s t).1 (step-number g op s t)
  where
    by : (o : Out) (u : Tape) → StepNumbered o u → StepOr (λ x w. Unit {0}) Ends o u
    by (on b x) u h = tt
    by (edited x) u h = tt
    by (halt n x) u h = ends n h

-- a done run has 0, or the number with which the globals stop after the script's end
rest-numbered : (steps place : ℕ) (e : Ed) (t : Tape) (r : Ran (Unit {0})) → Numbered (arranged (rest_passed steps place e t r))
unfolding rest_passed arranged Numbered
rest-numbered steps place e t (gave u all) = inl refl
rest-numbered steps place e t (stopped n e') = ends (stop_number n) (stop-number n)

end-numbered : (g : Given) (place : ℕ) (x : End) (t : Tape) → EndOf Ends x t → Numbered (answer_of g place x t)
unfolding answer_of in_run_order
end-numbered g place (end zero steps at (state e c)) t h = rest-numbered steps place e t (read_to g c eof e t).0
end-numbered g place (end (suc n) steps at s) t h = unfold arranged Numbered in h

items-numbered : (g : Given) (place budget : ℕ) (is : List Item) (ls : List Line) → Numbered (ran_items g place budget is ls)
unfolding ran_items
items-numbered g place budget is ls =
    end-numbered g place (run_items (step g) budget is (unread ls)).0 (run_items (step g) budget is (unread ls)).1
    (run_items-ends (λ op. Unit {0}) (inner-all (λ op. Unit {0}) (λ op. tt)) (λ s t. Unit {0}) Ends (λ s t h. inl refl) (λ s t h. inr (omega arith, omega arith)) (step g)
    (λ op s t u h. step-ends g op s t) budget is (unread ls) (items-all (λ op. Unit {0}) (λ op. tt) is) tt)

cond-numbered : (t : Bool) (a : Answer) (n at : ℕ) → Numbered a → RefusalNumber n → Numbered (cond t a (refusal n at))
unfolding Numbered
cond-numbered true a n at h k = h
cond-numbered false a n at h k = k

script-numbered : (table : List ℕ) (budget size : ℕ) (script : List ℕ) (r : Script) → read_script script ≡ r → Numbered (ran_script table (length script) budget size r)
unfolding ran_script ran_table Numbered
script-numbered table budget size script (items is) e =
    cond-numbered (is_table table) _ 7 0
    (cond-numbered (leb (opening_length (lines_of table)) size) _ 9 0 (items-numbered (given (bytes size)) (length script) budget is (lines_of table)) (inl (omega arith, omega arith)))
    (inl (omega arith, omega arith))
script-numbered table budget size script (refused_at n at) e =
    by (refusal-numbers script n at e)
  where
    by : ((2 ≤ n) × (n ≤ 6)) ⊎ ((33 ≤ n) × (n ≤ 34)) → RefusalNumber n
    by (inl k) = inl (omega (arith, k.0), omega (arith, k.1))
    by (inr k) = inr k

-- THE LAW: refusals have the numbers 1 to 9, 33 and 34, all other answers 0 or 20 to 31
pub answer-numbered : (table script : List ℕ) (budget work size : ℕ) → Numbered (run_answer table script budget work size)
unfolding run_answer
answer-numbered table script budget work size =
    cond-numbered (is_script script) _ 1 0
    (cond-numbered (leb (work_length script) work) _ 8 0 (script-numbered table budget size script (read_script script) refl) (inl (omega arith, omega arith)))
    (inl (omega arith, omega arith))

-- so the number alone says whether a run was refused
number-accepted : (a : Answer) → Numbered a → EndNumber (answer_number a) → IsAccepted a
unfolding Numbered answer_number IsAccepted
number-accepted (answer n steps f at j) h k = tt
number-accepted (refusal n at) (inl h) (inl q) = omega (arith, q, h.0)
number-accepted (refusal n at) (inl h) (inr (b, d)) = omega (arith, b, h.1)
number-accepted (refusal n at) (inr h) (inl q) = omega (arith, q, h.0)
number-accepted (refusal n at) (inr h) (inr (b, d)) = omega (arith, d, h.0)

pub accepted-by-number : (table script : List ℕ) (budget work size : ℕ) → EndNumber (answer_number (run_answer table script budget work size)) → IsAccepted (run_answer table script budget work size)
accepted-by-number table script budget work size h = number-accepted (run_answer table script budget work size) (answer-numbered table script budget work size) h

accepted-number : (a : Answer) → Numbered a → IsAccepted a → EndNumber (answer_number a)
unfolding Numbered answer_number IsAccepted
accepted-number (answer n steps f at j) h k = h
accepted-number (refusal n at) h k = absurd k

pub number-of-accepted : (table script : List ℕ) (budget work size : ℕ) → IsAccepted (run_answer table script budget work size) → EndNumber (answer_number (run_answer table script budget work size))
number-of-accepted table script budget work size h = accepted-number (run_answer table script budget work size) (answer-numbered table script budget work size) h
