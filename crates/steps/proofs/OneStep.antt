-- One step, and how the run goes on after it. Assumes nothing.
use mathlib.Core.Path.{◌≡◌, ◌∙◌}
use mathlib.Core.List.{List}
use Prim.Native.Nat.{ℕ, zero, suc, ◌+◌, ◌-◌, ◌≤◌}
use native.Mathlib.Omega.{arith}
use Rattle.definitions.specs.Tape.{Tape, bind}
use Rattle.definitions.specs.Given.{Given, Carried}
use Rattle.definitions.specs.Editor.{Ed}
use Rattle.definitions.specs.StepProgram.{RunState, state, text_of, Out, on, edited, halt}
use Rattle.definitions.specs.Edit.{Op, step}
use Rattle.definitions.specs.Control.{Ctl, want, pull}
use Rattle.definitions.specs.Run.{end, end_place, choose, stepped, stepping, run}
use Rattle.editor.specs.declared.State.{State}
use Rattle.editor.specs.Shows.{Shows, lent}
use Rattle.editor.specs.Current.{PointOut, Ready, TableOut}
use Rattle.editor.proofs.Tables.{keeps-table}
use Rattle.editor.proofs.Points.{keeps-point}
use Rattle.globals.specs.Standing.{StandingBelow}
use Rattle.std.specs.Prelude.{Result, Ok, Err}
use Rattle.editor.specs.Stops.{numbered}
use Rattle.editor.specs.declared.Stopped.{Stopped}
use Rattle.seeks.specs.Looks.{Looked, Found, Looks, LooksAs, carried_of}
use Rattle.steps.specs.Steps.{Carries}

-- how the run goes on from `from` and the state z: what it is given, what is left of the budget, and the steps that are made
module _ (g : Given) (left steps : ℕ) (from : Ctl) (z : RunState) (t : Tape) where
  -- after `made` steps more it is at `to`, in a state that the buffer shows; the words w hold the globals that stand then
  pub record GoesOn (sc w : List ℕ) (below : ℕ) (table j : List ℕ) (made : ℕ) (to : Ctl) (s : State) : Type 0 where
    pub then : Ed
    pub carries : Carried
    pub rest : Tape
    pub ready : Ready table j s then rest
    pub stand : StandingBelow sc w below carries
    pub same : run (step g) left steps from z t ≡ run (step g) (left - made) (steps + made) to (state then carries) rest

  -- after `made` steps more it has stopped with a number, in a state that the buffer shows; `place` is that of the last step
  pub record Stops (sc w : List ℕ) (below : ℕ) (j : List ℕ) (made number place : ℕ) (s : State) : Type 0 where
    pub last : Ed
    pub carries : Carried
    pub rest : Tape
    pub shows : Shows j s last rest
    pub stand : StandingBelow sc w below carries
    pub same : run (step g) left steps from z t ≡ (end number (steps + made) (end_place number place) (state last carries), rest)

  -- by what is answered: it goes on at c₁ or at c₀, or has stopped
  unfoldable pub Leads : List ℕ → List ℕ → ℕ → List ℕ → List ℕ → ℕ → ℕ → Ctl → Ctl → Result Looked Stopped → Type 0
  Leads sc w below table j made place c₁ c₀ (Ok x) = GoesOn sc w below table j made (choose x.held c₁ c₀) x.st
  Leads sc w below table j made place c₁ c₀ (Err s) = Stops sc w below j made (numbered s.stop) place s.st

  -- what the answer r says of it
  pub record Comes (sc w : List ℕ) (below : ℕ) (table j : List ℕ) (place : ℕ) (c₁ c₀ : Ctl) (r : Found) : Type 0 where
    pub began : 1 ≤ r.made
    pub few : r.made ≤ left
    pub leads : Leads sc w below table j r.made place c₁ c₀ r.looked

-- a step of the run, and then the run with one less
pub step-once : (g : Given) (n steps : ℕ) (from : Ctl) (place : ℕ) (op : Op) (c₁ c₀ : Ctl) (z : RunState) (t : Tape) → pull from ≡ want place op c₁ c₀
    → run (step g) (suc n) steps from z t
    ≡ stepped (λ c' z'. run (step g) n (suc steps) c' z') (suc steps) place c₁ c₀ (step g op z t).0 (step g op z t).1
unfolding run stepping bind
step-once g n steps from place op c₁ c₀ z t q = rw q

module _ (g : Given) (n steps : ℕ) (from c₁ c₀ : Ctl) (place : ℕ) (z : RunState) (t : Tape) (sc w : List ℕ) (below : ℕ) (table j : List ℕ) where
  -- the answer's own words, as those of the run
  one_less : (to : Ctl) (d : RunState) (u : Tape) → run (step g) n (suc steps) to d u ≡ run (step g) (suc n - 1) (steps + 1) to d u
  one_less to d u =
      let a : suc n - 1 ≡ n = omega arith in
      let b : steps + 1 ≡ suc steps = omega arith in
      rw (a, b)

  one_on : (to : Ctl) (s : State) (d : Ed) (c : Carried) (u : Tape) → Ready table j s d u → StandingBelow sc w below c
      → run (step g) (suc n) steps from z t ≡ run (step g) n (suc steps) to (state d c) u → GoesOn g (suc n) steps from z t sc w below table j 1 to s
  one_on to s d c u h i q = record { then = d; carries = c; rest = u; ready = h; stand = i; same = q ∙ one_less to (state d c) u }

  -- what the answer says of the step's outcome it says of the run
  outcome-leads : (r : Result Looked Stopped) (o : Out) (u : Tape) → Looks j r o u → PointOut o → TableOut table o u → Carries sc w below o
      → run (step g) (suc n) steps from z t ≡ stepped (λ c' z'. run (step g) n (suc steps) c' z') (suc steps) place c₁ c₀ o u
      → Leads g (suc n) steps from z t sc w below table j 1 place c₁ c₀ r
  unfolding Looks stepped choose Leads text_of carried_of
  outcome-leads (Ok x) (on b (state d c)) u w p k i q = rw w.0 (one_on (choose b c₁ c₀) x.st d c u (record { shows = w.1; point = p; old = k }) i q)
  outcome-leads (Ok x) (edited (state d c)) u w p k i q = rw w.0 (one_on c₁ x.st d c u (record { shows = w.1; point = p; old = k }) i q)
  outcome-leads (Ok x) (halt m (state d c)) u w p k i q = absurd w
  outcome-leads (Err s) (on b (state d c)) u w p k i q = absurd w
  outcome-leads (Err s) (edited (state d c)) u w p k i q = absurd w
  outcome-leads (Err s) (halt l (state d c)) u w p k i q =
      let b : suc steps ≡ steps + 1 = omega arith in
      record { last = d; carries = c; rest = u; shows = w.1; stand = i; same = q ∙ rw (w.0, b) }

-- one step of the run: what the answer says of it
pub one-comes : {st : State} (i : List ℕ) (left steps : ℕ) (from : Ctl) (place : ℕ) (op : Op) (c₁ c₀ : Ctl) (e : Ed) (c : Carried) (t : Tape) (sc w : List ℕ) (below : ℕ) (table j : List ℕ)
    (r : Found) → r.made ≡ 1 → 1 ≤ left → pull from ≡ want place op c₁ c₀ → Ready table i st e t → LooksAs j r.looked (step (lent i) op (state e c) t)
    → Carries sc w below (step (lent i) op (state e c) t).0 → Comes (lent i) left steps from (state e c) t sc w below table j place c₁ c₀ r
unfolding text_of
one-comes i zero steps from place op c₁ c₀ e c t sc w below table j r is some next h a b = absurd (omega arith)
one-comes i (suc n) steps from place op c₁ c₀ e c t sc w below table j r is some next h a b =
    let x = step (lent i) op (state e c) t in
    record {
      began = omega arith;
      few = omega arith;
      leads = rw is (outcome-leads (lent i) n steps from c₁ c₀ place (state e c) t sc w below table j r.looked x.0 x.1 a (keeps-point (lent i) op e c t h.shows.grounded h.point)
          (keeps-table table i op (state e c) t h.old) b (step-once (lent i) n steps from place op c₁ c₀ (state e c) t next));
    }
