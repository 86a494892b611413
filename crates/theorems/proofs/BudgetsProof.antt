-- Larger budgets never disagree: one induction over the budget says where a run stands once the steps of its budget are made. The rest follows.
use Rattle.std.specs.Prelude.{◌≡◌, Bool, true, false, List, [], length, leb}
use Rattle.std.proofs.Math.Path.{refl, sym, ap}
use Rattle.std.proofs.Common.{◌∙◌, inl, inr, add-zero, zero-add, suc-add, leb-true, leb-false}
use Rattle.std.proofs.Math.Option.{Option, some}
use Prim.Native.Nat.{ℕ, zero, suc, ◌+◌, ◌-◌, ◌≤◌, ◌<◌}
use native.Mathlib.Omega.{arith}
use Rattle.definitions.specs.Bytes.{Line, lines_of}
use Rattle.definitions.specs.Arranging.{arrange}
use Rattle.definitions.specs.Tape.{Tape, unread, Reads, bind}
use Rattle.definitions.specs.Given.{Given, given, bytes, no_globals}
use Rattle.definitions.specs.Editor.{Ed, journal, furthest, stop_number, eof}
use Rattle.definitions.specs.Reading.{Ran, gave, stopped, read_to, opening}
use Rattle.definitions.specs.StepProgram.{RunState, state, text_of, Out, on, edited, halt}
use Rattle.definitions.specs.Edit.{Op, step}
use Rattle.definitions.specs.Control.{Item, Ctl, running, Pull, finished, want, lost, pull}
use Rattle.definitions.specs.Script.{items, read_script}
use Rattle.definitions.specs.Run.{End, end, choose, end_place, spent, stepped, stepping, run, run_items, Answer, answer, refusal, rest_passed, in_run_order, arranged, answer_of, ran_items, run_answer}
use Rattle.definitions.specs.Run.{answer_number, answer_steps, answer_furthest, answer_place, outcome_from, outcome_of}
use Rattle.theorems.specs.Reading.{At}
use Rattle.theorems.specs.Runs.{EndOf}
use Rattle.theorems.specs.Numbers.{StepNumber, StepNumbered, RefusalNumber, Numbered}
use Rattle.theorems.proofs.Numbers.{stop-number, step-number, answer-numbered}
use Rattle.theorems.specs.Accepted.{Judged, refuses, takes, judged}
use Rattle.theorems.proofs.Demand3Items.{furthest_at, answer-furthest}
use Rattle.theorems.specs.ReadFar.{run-further}
use Rattle.theorems.specs.Budgets.{outcome_number, outcome_steps, outcome_furthest, outcome_place, Point, point, onwards, once_made, after_steps, script_after, Pause, point_of, answer_from, GoesOn, LargerBudgets}

unfoldable end_number : End → ℕ
end_number (end n steps at s) = n

unfoldable end_steps : End → ℕ
end_steps (end n steps at s) = steps

-- ---- the number 29 and the steps of an answer are those of the run's end

-- a stop's number is not 29
not-29 : (n : ℕ) → StepNumber n → n ≡ 29 → ⊥
not-29 n (inl q) e = omega (arith, q, e)
not-29 n (inr h) e = h.2 e

-- nor does a done run come to it among its unread lines, and it makes no steps there (W2.11)
rest-29 : (steps place : ℕ) (e : Ed) (t : Tape) (r : Ran (Unit {0})) → answer_number (arranged (rest_passed steps place e t r)) ≡ 29 → ⊥
unfolding rest_passed arranged answer_number
rest-29 steps place e t (gave u all) q = omega (arith, q)
rest-29 steps place e t (stopped n e') q = not-29 (stop_number n) (stop-number n) q

rest-steps : (steps place : ℕ) (e : Ed) (t : Tape) (r : Ran (Unit {0})) → answer_steps (arranged (rest_passed steps place e t r)) ≡ steps
unfolding rest_passed arranged answer_steps
rest-steps steps place e t (gave u all) = refl
rest-steps steps place e t (stopped n e') = refl

module _ (g : Given) (place : ℕ) where
  answer-29 : (x : End) (t : Tape) → answer_number (answer_of g place x t) ≡ 29 → end_number x ≡ 29
  unfolding answer_number answer_of in_run_order arranged end_number
  answer-29 (end zero steps at (state e c)) t q = absurd (rest-29 steps place e t (read_to g c eof e t).0 (unfold answer_number arranged in q))
  answer-29 (end (suc n) steps at s) t q = q

  answer-steps : (x : End) (t : Tape) → answer_steps (answer_of g place x t) ≡ end_steps x
  unfolding answer_steps answer_of in_run_order arranged end_steps
  answer-steps (end zero steps at (state e c)) t = unfold answer_steps arranged in (rest-steps steps place e t (read_to g c eof e t).0)
  answer-steps (end (suc n) steps at s) t = refl

module _ (take_step : Op → RunState → Reads Out) where
  -- ---- steps that are made stay made

  stepped-least : (go : Ctl → RunState → Reads End) (steps at : ℕ) → ((c : Ctl) (s : RunState) (t : Tape) → steps ≤ end_steps (go c s t).0)
      → (c₁ c₀ : Ctl) (o : Out) (t : Tape) → steps ≤ end_steps (stepped go steps at c₁ c₀ o t).0
  unfolding stepped end_steps
  stepped-least go steps at h c₁ c₀ (on b s) t = h (choose b c₁ c₀) s t
  stepped-least go steps at h c₁ c₀ (edited s) t = h c₁ s t
  stepped-least go steps at h c₁ c₀ (halt n s) t = omega arith

  stepping-least : (go : Ctl → RunState → Reads End) (steps : ℕ) → ((c : Ctl) (s : RunState) (t : Tape) → suc steps ≤ end_steps (go c s t).0)
      → (s : RunState) (x : Pull) (t : Tape) → steps ≤ end_steps (stepping take_step go steps s x t).0
  unfolding stepping bind end_steps
  stepping-least go steps h s finished t = omega arith
  stepping-least go steps h s (want at op c₁ c₀) t =
      let made : suc steps ≤ end_steps (stepped go (suc steps) at c₁ c₀ (take_step op s t).0 (take_step op s t).1).0 =
      stepped-least go (suc steps) at h c₁ c₀ (take_step op s t).0 (take_step op s t).1 in
      omega (arith, made)
  stepping-least go steps h s lost t = omega arith

  spent-least : (steps : ℕ) (s : RunState) (x : Pull) → steps ≤ end_steps (spent steps s x)
  unfolding spent end_steps
  spent-least steps s finished = omega arith
  spent-least steps s (want at op c₁ c₀) = omega arith
  spent-least steps s lost = omega arith

  run-least : (budget steps : ℕ) (c : Ctl) (s : RunState) (t : Tape) → steps ≤ end_steps (run take_step budget steps c s t).0
  unfolding run
  run-least zero steps c s t = spent-least steps s (pull c)
  run-least (suc budget) steps c s t =
      stepping-least (λ c' s'. run take_step budget (suc steps) c' s') steps (λ c' s' t'. run-least budget (suc steps) c' s' t') s (pull c) t

  -- a step that is wanted is made, if the budget allows one more
  wanted-made : (more steps : ℕ) (p : Pause) → steps < end_steps (run take_step (suc more) steps p.left p.text p.lines).0
  unfolding run stepping bind
  wanted-made more steps p =
      let x : Out × Tape = take_step p.op p.text p.lines in
      rw p.wanted (stepped-least (λ c' s'. run take_step more (suc steps) c' s') (suc steps) p.place (λ c' s' t'. run-least more (suc steps) c' s' t') p.if_true p.if_false
      x.0 x.1)

  -- ---- where a run stands once the steps of its budget are made; `under` has what it comes to with so much more budget, `there` where these steps lead

  data Stands (total : ℕ) (under : ℕ → End × Tape) (there : Option Point) : Type 0 where
    -- it has ended, and more budget makes no difference
    ended : (x : End) (t : Tape) → (end_number x ≡ 29 → ⊥) → end_steps x ≤ total → ((more : ℕ) → under more ≡ (x, t)) → Stands total under there
    -- a step is wanted, and with more budget the run goes on from here
    waits : (p : Pause) → there ≡ some (point_of p) → ((more : ℕ) → under more ≡ run take_step more total p.left p.text p.lines) → Stands total under there

  stands-as : (total : ℕ) (under under' : ℕ → End × Tape) (there : Option Point) → ((more : ℕ) → under' more ≡ under more) → Stands total under there → Stands total under' there
  stands-as total under under' there q (ended x t n le h) = ended x t n le (λ more. q more ∙ h more)
  stands-as total under under' there q (waits p r h) = waits p r (λ more. q more ∙ h more)

  -- the script's end
  done-stands : (total steps : ℕ) (s : RunState) (t : Tape) (under : ℕ → End × Tape) (there : Option Point) → steps ≤ total → ((more : ℕ) → under more ≡ (end 0 steps 0 s, t))
      → Stands total under there
  unfolding end_number end_steps
  done-stands total steps s t under there le h = ended (end 0 steps 0 s) t (λ q. omega (arith, q)) le h

  -- where no step is wanted, so much more budget makes no difference
  none-wanted : (steps : ℕ) (c : Ctl) (s : RunState) (t : Tape) → spent steps s (pull c) ≡ end 0 steps 0 s
      → ((go : Ctl → RunState → Reads End) → stepping take_step go steps s (pull c) t ≡ (end 0 steps 0 s, t)) → (more : ℕ) → run take_step more steps c s t ≡ (end 0 steps 0 s, t)
  unfolding run
  none-wanted steps c s t h k zero = ap (λ (x : End). (x, t)) h
  none-wanted steps c s t h k (suc more) = k (λ c' s'. run take_step more (suc steps) c' s')

  spent-stands : (total steps : ℕ) → steps ≡ total → (c : Ctl) (s : RunState) (t : Tape) (x : Pull) → pull c ≡ x
      → Stands total (λ more. run take_step more steps c s t) (some (point c s t))
  unfolding spent stepping
  spent-stands total steps h c s t finished q = done-stands total steps s t _ _ (omega (arith, h)) (none-wanted steps c s t (rw q) (λ go. rw q))
  spent-stands total steps h c s t (want at op c₁ c₀) q =
      waits (record { left = c; text = s; lines = t; place = at; op = op; if_true = c₁; if_false = c₀; wanted = q }) refl (λ more. rw h)
  spent-stands total steps h c s t lost q = done-stands total steps s t _ _ (omega (arith, h)) (none-wanted steps c s t (rw q) (λ go. rw q))

  module _ (numbered : (op : Op) (s : RunState) (t : Tape) → At StepNumbered (take_step op s t)) where
    module _ (total : ℕ) (go : ℕ → Ctl → RunState → Reads End) (leads : Ctl → RunState → Tape → Option Point)
        (h : (c : Ctl) (s : RunState) (t : Tape) → Stands total (λ more. go more c s t) (leads c s t)) where
      stepped-stands : (steps at : ℕ) (c₁ c₀ : Ctl) (o : Out) (t : Tape) → steps ≤ total → StepNumbered o t
          → Stands total (λ more. stepped (go more) steps at c₁ c₀ o t) (onwards leads c₁ c₀ (o, t))
      unfolding stepped onwards end_number end_steps
      stepped-stands steps at c₁ c₀ (on b s) t le x = h (choose b c₁ c₀) s t
      stepped-stands steps at c₁ c₀ (edited s) t le x = h c₁ s t
      stepped-stands steps at c₁ c₀ (halt n s) t le x = ended (end n steps (end_place n at) s) t (not-29 n x) le (λ more. refl)

      stepping-stands : (steps : ℕ) (s : RunState) (x : Pull) (t : Tape) → suc steps ≤ total
          → Stands total (λ more. stepping take_step (go more) steps s x t) (once_made take_step leads s t x)
      unfolding stepping bind once_made
      stepping-stands steps s finished t le = done-stands total steps s t _ _ (omega (arith, le)) (λ more. refl)
      stepping-stands steps s (want at op c₁ c₀) t le = stepped-stands (suc steps) at c₁ c₀ (take_step op s t).0 (take_step op s t).1 le (numbered op s t)
      stepping-stands steps s lost t le = done-stands total steps s t _ _ (omega (arith, le)) (λ more. refl)

    run-stands : (budget steps total : ℕ) → steps + budget ≡ total → (c : Ctl) (s : RunState) (t : Tape)
        → Stands total (λ more. run take_step (budget + more) steps c s t) (after_steps take_step budget c s t)
    unfolding run after_steps
    run-stands zero steps total h c s t =
        stands-as total (λ more. run take_step more steps c s t) _ _ (λ more. ap (λ (n : ℕ). run take_step n steps c s t) (zero-add more))
        (spent-stands total steps (omega (arith, h)) c s t (pull c) refl)
    run-stands (suc budget) steps total h c s t =
        stands-as total (λ more. run take_step (suc (budget + more)) steps c s t) _ _ (λ more. ap (λ (n : ℕ). run take_step n steps c s t) (suc-add budget more))
        (stepping-stands total (λ more c' s'. run take_step (budget + more) (suc steps) c' s') (λ c' s' t'. after_steps take_step budget c' s' t')
        (λ c' s' t'. run-stands budget (suc steps) total (omega (arith, h)) c' s' t') steps s (pull c) t (omega (arith, h)))

-- ---- the same of the answer; `under` has the answer with so much more budget

-- the answer is there, and more budget makes no difference; or a step is wanted, and with more budget the run goes on from here
data Answers (g : Given) (place budget : ℕ) (under : ℕ → Answer) (there : Option Point) : Type 0 where
  settled : (a : Answer) → (answer_number a ≡ 29 → ⊥) → answer_steps a ≤ budget → ((more : ℕ) → under more ≡ a) → Answers g place budget under there
  waiting : (p : Pause) → there ≡ some (point_of p) → ((more : ℕ) → under more ≡ answer_from g place more budget p) → Answers g place budget under there

module _ (g : Given) (place budget : ℕ) where
  answers-from : (under : ℕ → End × Tape) (there : Option Point) → Stands (step g) budget under there
      → Answers g place budget (λ more. answer_of g place (under more).0 (under more).1) there
  answers-from under there (ended x t n le h) =
      settled (answer_of g place x t) (λ q. n (answer-29 g place x t q)) (rw (answer-steps g place x t) le) (λ more. ap (λ (y : End × Tape). answer_of g place y.0 y.1) (h more))
  answers-from under there (waits p r h) = waiting p r (λ more. unfold answer_from in (ap (λ (y : End × Tape). answer_of g place y.0 y.1) (h more)))

  answers-as : (under under' : ℕ → Answer) (there : Option Point) → ((more : ℕ) → under' more ≡ under more) → Answers g place budget under there → Answers g place budget under' there
  answers-as under under' there q (settled a n le h) = settled a n le (λ more. q more ∙ h more)
  answers-as under under' there q (waiting p r h) = waiting p r (λ more. q more ∙ h more)

items-answer : (size place budget : ℕ) (is : List Item) (ls : List Line)
    → Answers (given (bytes size)) place budget (λ more. ran_items (given (bytes size)) place (budget + more) is ls) (script_after ls size budget (items is))
unfolding ran_items run_items bind script_after
items-answer size place budget is ls =
    let o : Ed × Tape = opening (unread ls) in
    answers-from (given (bytes size)) place budget (λ more. run (step (given (bytes size))) (budget + more) 0 (running is []) (state o.0 no_globals) o.1) _
    (run-stands (step (given (bytes size))) (step-number (given (bytes size))) budget 0 budget (zero-add budget) (running is []) (state o.0 no_globals) o.1)

-- a refusal's number is not 29
refusal-29 : (n at : ℕ) (a : Answer) → Numbered a → a ≡ refusal n at → n ≡ 29 → ⊥
unfolding Numbered
refusal-29 n at a h q e = by (rw q at h)
  where
    by : RefusalNumber n → ⊥
    by (inl k) = omega (arith, k, e)
    by (inr k) = omega (arith, k, e)

-- what a run that wants a step comes to, by the budget that is left
module _ (g : Given) (place budget : ℕ) (p : Pause) where
  abbrev reach : ℕ
  reach = furthest (text_of p.text) p.lines

  -- none: it stops with 29 there
  from-none : answer_from g place 0 budget p ≡ answer 29 budget reach p.place (arrange (journal (text_of p.text) p.lines))
  unfolding answer_from run spent answer_of in_run_order arranged
  from-none = rw p.wanted

  -- some: the step is made
  from_some : (more : ℕ) → 0 < more → budget < answer_steps (answer_from g place more budget p)
  unfolding answer_from
  from_some zero h = absurd (omega (arith, h))
  from_some (suc more) h =
      let x : End × Tape = run (step g) (suc more) budget p.left p.text p.lines in
      rw (answer-steps g place x.0 x.1) (wanted-made (step g) more budget p)

  -- what was read is read
  from-further : (more : ℕ) → reach ≤ answer_furthest (answer_from g place more budget p)
  unfolding answer_from
  from-further more =
      let x : End × Tape = run (step g) more budget p.left p.text p.lines in
      rw (answer-furthest g place x.0 x.1) (by x.0 x.1 (run-further g more budget p.left p.text p.lines))
    where
      by : (x : End) (t : Tape) → EndOf (λ n s' t'. reach ≤ furthest (text_of s') t') x t → reach ≤ furthest_at x t
      by (end n made at s) t h = unfold furthest_at in h

-- ---- the laws, of answers

module _ (table script : List ℕ) (work size : ℕ) where
  abbrev under : ℕ → Answer
  under budget = run_answer table script budget work size

  -- where so many steps lead
  abbrev there : ℕ → Option Point
  there budget = script_after (lines_of table) size budget (read_script script)

  abbrev AnswersHere : ℕ → Type 0
  AnswersHere budget = Answers (given (bytes size)) (length script) budget (λ more. under (budget + more)) (there budget)

  -- of every run, refused ones too
  run-answers : (budget : ℕ) → AnswersHere budget
  run-answers budget = by (judged table script work size)
    where
      by : Judged (given (bytes size)) (length script) (lines_of table) (read_script script) under → AnswersHere budget
      by (refuses n at h) =
          settled (refusal n at) (unfold answer_number in (refusal-29 n at (under 0) (answer-numbered table script 0 work size) (h 0))) (unfold answer_steps in (omega arith)) (λ more. h (budget + more))
      by (takes is e h) = rw e (answers-as (given (bytes size)) (length script) budget _ _ _ (λ more. h (budget + more)) (items-answer size (length script) budget is (lines_of table)))

  abbrev from : ℕ → ℕ → Pause → Answer
  from more steps p = answer_from (given (bytes size)) (length script) more steps p

  -- more steps are made, and no less is read
  abbrev Further : ℕ → ℕ → Type 0
  Further budget larger = (answer_steps (under budget) < answer_steps (under larger)) × (answer_furthest (under budget) ≤ answer_furthest (under larger))

  -- where a run stands at the end of its budget
  data Stood (budget : ℕ) : Type 0 where
    -- it ends otherwise
    settles : (answer_number (under budget) ≡ 29 → ⊥) → answer_steps (under budget) ≤ budget → ((larger : ℕ) → budget ≤ larger → under larger ≡ under budget) → Stood budget
    -- it is stopped with 29
    wants : answer_number (under budget) ≡ 29 → answer_steps (under budget) ≡ budget → (p : Pause) → there budget ≡ some (point_of p) → answer_place (under budget) ≡ p.place
        → ((more : ℕ) → under (budget + more) ≡ from more budget p) → ((larger : ℕ) → budget < larger → Further budget larger) → Stood budget

  none_more : (budget : ℕ) → under (budget + 0) ≡ under budget
  none_more budget = ap under (add-zero budget)

  more-is : (budget larger : ℕ) → budget ≤ larger → under (budget + (larger - budget)) ≡ under larger
  more-is budget larger le = ap under (omega (arith, le))

  module _ (budget : ℕ) (p : Pause) (r : there budget ≡ some (point_of p)) (h : (more : ℕ) → under (budget + more) ≡ from more budget p) where
    stops : under budget ≡ answer 29 budget (furthest (text_of p.text) p.lines) p.place (arrange (journal (text_of p.text) p.lines))
    stops = sym (none_more budget) ∙ h 0 ∙ from-none (given (bytes size)) (length script) budget p

    goes : (larger : ℕ) → budget < larger → Further budget larger
    unfolding answer_steps answer_furthest
    goes larger k =
        let m : under larger ≡ from (larger - budget) budget p = sym (more-is budget larger (omega (arith, k))) ∙ h (larger - budget) in (
          rw (m, stops) (from_some (given (bytes size)) (length script) budget p (larger - budget) (omega (arith, k))),
          rw (m, stops) (from-further (given (bytes size)) (length script) budget p (larger - budget)),
        )

    waiting-stood : Stood budget
    unfolding answer_number answer_steps answer_place
    waiting-stood = wants (ap answer_number stops) (ap answer_steps stops) p r (ap answer_place stops) h goes

  stood : (budget : ℕ) → Stood budget
  stood budget = by (run-answers budget)
    where
      by : AnswersHere budget → Stood budget
      by (settled a n le h) =
          let e : under budget ≡ a = sym (none_more budget) ∙ h 0 in
          settles (λ q. n (sym (ap answer_number e) ∙ q)) (rw e le) (λ larger k. sym (more-is budget larger k) ∙ h (larger - budget) ∙ sym e)
      by (waiting p r h) = waiting-stood budget p r h

  same_answer : (budget : ℕ) → (answer_number (under budget) ≡ 29 → ⊥) → (larger : ℕ) → budget ≤ larger → under larger ≡ under budget
  same_answer budget h = by (stood budget)
    where
      by : Stood budget → (larger : ℕ) → budget ≤ larger → under larger ≡ under budget
      by (settles n le k) = k
      by (wants q steps p r at k f) = absurd (h q)

  spent-answer : (budget : ℕ) → answer_number (under budget) ≡ 29 → answer_steps (under budget) ≡ budget
  spent-answer budget h = by (stood budget)
    where
      by : Stood budget → answer_steps (under budget) ≡ budget
      by (settles n le k) = absurd (n h)
      by (wants q steps p r at k f) = steps

  -- no run makes more steps than its budget
  in-budget : (budget : ℕ) → answer_steps (under budget) ≤ budget
  in-budget budget = by (stood budget)
    where
      by : Stood budget → answer_steps (under budget) ≤ budget
      by (settles n le k) = le
      by (wants q steps p r at k f) = omega (arith, steps)

  short-answer : (budget : ℕ) → (other : ℕ) → other < answer_steps (under budget) → answer_number (under other) ≡ 29
  short-answer budget other less = by (stood other)
    where
      by : Stood other → answer_number (under other) ≡ 29
      by (settles n le k) =
          let e : answer_steps (under budget) ≡ answer_steps (under other) = ap answer_steps (k budget (omega (arith, less, in-budget budget))) in
          absurd (omega (arith, less, le, e))
      by (wants q steps p r at k f) = q

  enough-answer : (budget : ℕ) → (answer_number (under budget) ≡ 29 → ⊥) → (other : ℕ) → answer_steps (under budget) ≤ other → under other ≡ under budget
  enough-answer budget h other le = by (leb budget other) refl (stood other)
    where
      by : (b : Bool) → leb budget other ≡ b → Stood other → under other ≡ under budget
      by true e x = same_answer budget h other (leb-true budget other e)
      by false e (settles n k g) = sym (g budget (omega (arith, leb-false budget other e)))
      by false e (wants q steps p r at k f) = absurd (omega (arith, le, steps, (f budget (leb-false budget other e)).0))

  further-answer : (budget : ℕ) → answer_number (under budget) ≡ 29 → (larger : ℕ) → budget < larger → Further budget larger
  further-answer budget h = by (stood budget)
    where
      by : Stood budget → (larger : ℕ) → budget < larger → Further budget larger
      by (settles n le k) = absurd (n h)
      by (wants q steps p r at k f) = f

  -- wish 5 of answers, from which it is said of outcomes and of calls
  pub record AnswersAgree (budget : ℕ) : Type 0 where
    pub same : (answer_number (under budget) ≡ 29 → ⊥) → (larger : ℕ) → budget ≤ larger → under larger ≡ under budget
    pub spent : answer_number (under budget) ≡ 29 → answer_steps (under budget) ≡ budget
    pub most : answer_steps (under budget) ≤ budget
    pub enough : (answer_number (under budget) ≡ 29 → ⊥) → (other : ℕ) → answer_steps (under budget) ≤ other → under other ≡ under budget
    pub short : (other : ℕ) → other < answer_steps (under budget) → answer_number (under other) ≡ 29
    pub further : answer_number (under budget) ≡ 29 → (larger : ℕ) → budget < larger → Further budget larger

  -- THE LAW
  pub answers_agree : (budget : ℕ) → AnswersAgree budget
  answers_agree budget = record {
    same = same_answer budget;
    spent = spent-answer budget;
    most = in-budget budget;
    enough = enough-answer budget;
    short = short-answer budget;
    further = further-answer budget;
  }

-- ---- the theorem, of outcomes

module _ (table script : List ℕ) (work : ℕ) (buffer : List ℕ) where
  goes-on-from : (budget : ℕ) → answer_number (run_answer table script budget work (length buffer)) ≡ 29 → GoesOn table script work buffer budget
  unfolding outcome_of outcome_from outcome_place
  goes-on-from budget h = by (stood table script work (length buffer) budget)
    where
      by : Stood table script work (length buffer) budget → GoesOn table script work buffer budget
      by (settles n le k) = absurd (n h)
      by (wants q steps p r at k f) = record { from = p; reached = r; place = at; with_more = λ more. ap (outcome_from buffer) (k more) }

-- THE LAW: wish 5
pub larger-budgets : LargerBudgets
unfolding outcome_of outcome_from outcome_number outcome_steps outcome_furthest
larger-budgets table script work buffer budget =
    let a : AnswersAgree table script work (length buffer) budget = answers_agree table script work (length buffer) budget in
    record {
      same = λ h larger le. ap (outcome_from buffer) (a.same h larger le);
      spent = a.spent;
      most = a.most;
      enough = λ h other le. ap (outcome_from buffer) (a.enough h other le);
      short = a.short;
      goes_on = goes-on-from table script work buffer budget;
      further = a.further;
    }
