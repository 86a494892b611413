-- The run's steps of a search are the search's steps: how the run goes on, or ends, after F, BF or DF over lines. Assumes nothing.
use mathlib.Core.Path.{◌≡◌, refl, ◌∙◌}
use mathlib.Core.Bool.{true, false}
use Prim.Native.Nat.{ℕ, zero, suc, ◌+◌, ◌-◌, ◌≤◌}
use native.Mathlib.Omega.{arith}
use mathlib.Core.List.{List}
use Rattle.definitions.specs.Tape.{Tape, bind}
use Rattle.definitions.specs.Given.{Given, Carried}
use Rattle.definitions.specs.Editor.{Ed}
use Rattle.definitions.specs.StepProgram.{RunState, state, text_of, Out, on, edited, halt}
use Rattle.definitions.specs.Search.{Search}
use Rattle.definitions.specs.Edit.{Op, step}
use Rattle.definitions.specs.Control.{Seek, forward, backward, deleting, Item, Frame, running, seeking, look_op, pull}
use Rattle.definitions.specs.Run.{End, end, choose, end_place, spent, stepped, stepping, run}
use Rattle.editor.specs.Shows.{lent}
use Rattle.editor.specs.Current.{TableOf, TableOut}
use Rattle.editor.proofs.Tables.{keeps-table}
use Rattle.seeks.specs.Looks.{carried_of, Steps, further, steps_of}
use Rattle.seeks.proofs.Carrying.{LeavesOp, step-leaves}

-- ---- how the run goes on after the steps of a search

-- `left` of the budget is left before them and `steps` are made; m is how many they are, `items` and `frames` come after the search
unfoldable pub after_search : Given → ℕ → ℕ → ℕ → List Item → List Frame → Out → Tape → ℕ → End × Tape
after_search g left steps place items frames (on true s) t m = run (step g) (left - m) (steps + m) (running items frames) s t
after_search g left steps place items frames (on false s) t m = (end 29 (steps + m) place s, t)
after_search g left steps place items frames (edited s) t m = run (step g) (left - m) (steps + m) (running items frames) s t
after_search g left steps place items frames (halt n s) t m = (end n (steps + m) (end_place n place) s, t)

module _ (g : Given) (place : ℕ) (items : List Item) (frames : List Frame) where
  -- as many steps are made in all, and as much of the budget is left
  after_same : (l s m l' s' m' : ℕ) → l - m ≡ l' - m' → s + m ≡ s' + m' → (o : Out) (t : Tape)
      → after_search g l s place items frames o t m ≡ after_search g l' s' place items frames o t m'
  unfolding after_search
  after_same l s m l' s' m' q r (on true x) t = rw (q, r)
  after_same l s m l' s' m' q r (on false x) t = rw r
  after_same l s m l' s' m' q r (edited x) t = rw (q, r)
  after_same l s m l' s' m' q r (halt n x) t = rw r

  -- where the run stands after the steps x
  abbrev pub after_steps : ℕ → ℕ → Steps → End × Tape
  after_steps left steps x = after_search g left steps place items frames x.0.0 x.0.1 x.1

  module _ (f : Seek) (se : Search) where
    -- one step, and the others after it
    after-step : (left steps i : ℕ)
        → ((s : RunState) (t : Tape) → run (step g) left (suc steps) (seeking place f se (suc i) items frames) s t ≡ after_steps left (suc steps) (steps_of g (look_op f se) (suc i) left s t))
        → (o : Out) (t : Tape)
        → stepped (λ c s. run (step g) left (suc steps) c s) (suc steps) place (running items frames) (seeking place f se (suc i) items frames) o t
        ≡ after_steps (suc left) steps (further (steps_of g (look_op f se) (suc i) left) o t)
    unfolding stepped choose further after_search
    after-step left steps i rest (on true s) t = let q : suc steps ≡ steps + 1 = omega arith in let r : left ≡ suc left - 1 = omega arith in rw (← q, ← r)
    after-step left steps i rest (on false s) t = let x = steps_of g (look_op f se) (suc i) left s t in
        rest s t ∙ after_same left (suc steps) x.1 (suc left) steps (suc x.1) (omega arith) (omega arith) x.0.0 x.0.1
    after-step left steps i rest (edited s) t = let q : suc steps ≡ steps + 1 = omega arith in let r : left ≡ suc left - 1 = omega arith in rw (← q, ← r)
    after-step left steps i rest (halt n s) t = let q : suc steps ≡ steps + 1 = omega arith in rw (← q)

    -- THE LAW: the run in a search is the search's steps, and what comes after them
    pub run-search : (left steps i : ℕ) (s : RunState) (t : Tape)
        → run (step g) left steps (seeking place f se i items frames) s t ≡ after_steps left steps (steps_of g (look_op f se) i left s t)
    unfolding run spent stepping pull bind steps_of after_search
    run-search zero steps i s t = let q : steps + 0 ≡ steps = omega arith in rw q
    run-search (suc left) steps i s t =
        after-step left steps i (run-search left (suc steps) (suc i)) (step g (look_op f se i) s t).0 (step g (look_op f se i) s t).1

-- ---- how many steps a search makes

table_on : (table : List ℕ) (f : RunState → Tape → Steps) → ((s : RunState) (t : Tape) → TableOf table (text_of s) t → TableOut table (f s t).0.0 (f s t).0.1)
    → (o : Out) (t : Tape) → TableOut table o t → TableOut table (further f o t).0.0 (further f o t).0.1
unfolding further
table_on table f keeps (on true s) t h = h
table_on table f keeps (on false s) t h = keeps s t h
table_on table f keeps (edited s) t h = h
table_on table f keeps (halt n s) t h = h

-- the others after a step: at most n of them, so at most n + 1 in all
module _ (f : RunState → Tape → Steps) (n : ℕ) where
  most-on : ((s : RunState) (t : Tape) → (f s t).1 ≤ n) → (o : Out) (t : Tape) → (further f o t).1 ≤ suc n
  unfolding further
  most-on few (on true s) t = omega arith
  most-on few (on false s) t = omega (arith, few s t)
  most-on few (edited s) t = omega arith
  most-on few (halt m s) t = omega arith

  one_on : (o : Out) (t : Tape) → 1 ≤ (further f o t).1
  unfolding further
  one_on (on true s) t = omega arith
  one_on (on false s) t = omega arith
  one_on (edited s) t = omega arith
  one_on (halt m s) t = omega arith

-- the same steps after a step
same-on : (f h : RunState → Tape → Steps) → ((s : RunState) (t : Tape) → f s t ≡ h s t) → (o : Out) (t : Tape) → further f o t ≡ further h o t
unfolding further
same-on f h q (on true s) t = refl
same-on f h q (on false s) t = rw (q s t)
same-on f h q (edited s) t = refl
same-on f h q (halt n s) t = refl

module _ (g : Given) (op : ℕ → Op) where
  pub steps-most : (i left : ℕ) (s : RunState) (t : Tape) → (steps_of g op i left s t).1 ≤ left
  unfolding steps_of
  steps-most i zero s t = omega arith
  steps-most i (suc n) s t = most-on (steps_of g op (suc i) n) n (steps-most (suc i) n) (step g (op i) s t).0 (step g (op i) s t).1

  pub steps-one : (i left : ℕ) (s : RunState) (t : Tape) → 1 ≤ left → 1 ≤ (steps_of g op i left s t).1
  unfolding steps_of
  steps-one i zero s t some = absurd (omega arith)
  steps-one i (suc n) s t some = one_on (steps_of g op (suc i) n) n (step g (op i) s t).0 (step g (op i) s t).1

  -- steps that do not go by the lines passed
  steps-same : ((i k : ℕ) → op i ≡ op k) → (i k left : ℕ) (s : RunState) (t : Tape) → steps_of g op i left s t ≡ steps_of g op k left s t
  unfolding steps_of
  steps-same q i k zero s t = refl
  steps-same q i k (suc n) s t =
      rw (q i k) (same-on (steps_of g op (suc i) n) (steps_of g op (suc k) n) (steps-same q (suc i) (suc k) n) (step g (op k) s t).0 (step g (op k) s t).1)

-- F and BF do not; and what DF asks says how many it has passed
pub steps-as : (g : Given) (f : Seek) (se : Search) (i k left : ℕ) (s : RunState) (t : Tape) → look_op f se i ≡ look_op f se k
    → steps_of g (look_op f se) i left s t ≡ steps_of g (look_op f se) k left s t
steps-as g forward se i k left s t q = steps-same g (look_op forward se) (λ m n. unfold look_op in refl) i k left s t
steps-as g backward se i k left s t q = steps-same g (look_op backward se) (λ m n. unfold look_op in refl) i k left s t
steps-as g deleting se i k left s t q = rw (same q)
  where
    same : look_op deleting se i ≡ look_op deleting se k → i ≡ k
    same q = unfold look_op in (cc)

-- the old table stays
pub steps-table : (i : List ℕ) (op : ℕ → Op) (table : List ℕ) (n left : ℕ) (s : RunState) (t : Tape) → TableOf table (text_of s) t
    → TableOut table (steps_of (lent i) op n left s t).0.0 (steps_of (lent i) op n left s t).0.1
unfolding steps_of
steps-table i op table n zero s t h = h
steps-table i op table n (suc left) s t h =
    table_on table (steps_of (lent i) op (suc n) left) (steps-table i op table (suc n) left) (step (lent i) (op n) s t).0 (step (lent i) (op n) s t).1 (keeps-table table i (op n) s t h)

-- the globals stand
carried_on : (c : Carried) (f : RunState → Tape → Steps) → ((e : Ed) (t : Tape) → carried_of (f (state e c) t).0.0 ≡ c)
    → (o : Out) (t : Tape) → carried_of o ≡ c → carried_of (further f o t).0.0 ≡ c
unfolding further carried_of
carried_on c f keeps (on true (state e d)) t h = h
carried_on c f keeps (on false (state e d)) t h = rw h (keeps e t)
carried_on c f keeps (edited (state e d)) t h = h
carried_on c f keeps (halt n (state e d)) t h = h

pub steps-carried : (g : Given) (op : ℕ → Op) → ((n : ℕ) → LeavesOp (op n)) → (i left : ℕ) (e : Ed) (c : Carried) (t : Tape) → carried_of (steps_of g op i left (state e c) t).0.0 ≡ c
unfolding steps_of carried_of
steps-carried g op leaves i zero e c t = refl
steps-carried g op leaves i (suc left) e c t =
    carried_on c (steps_of g op (suc i) left) (λ e t. steps-carried g op leaves (suc i) left e c t) (step g (op i) (state e c) t).0 (step g (op i) (state e c) t).1 (step-leaves g (op i) e c t (leaves i))
