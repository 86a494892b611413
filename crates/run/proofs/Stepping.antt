-- What the step comes to that the run asks for, where the run stands. Assumes nothing.
use Rattle.seeks.specs.Looks.{Found}
use Rattle.std.proofs.Common.{◌≡◌, ℕ, ◌-◌, ◌≤◌, List, length}
use Rattle.definitions.specs.Tape.{Tape}
use Rattle.definitions.specs.StepProgram.{state}
use Rattle.definitions.specs.Run.{End}
use Rattle.control.specs.declared.Control.{Control}
use Rattle.control.specs.declared.Wanted.{Wanted}
use Rattle.control.specs.Shown.{ItemsKept}
use Rattle.editor.specs.declared.State.{State}
use Rattle.editor.specs.Shows.{lent}
use Rattle.editor.proofs.Parts.{lent_same}
use Rattle.steps.specs.Steps.{AnswersStep}
use Rattle.steps.proofs.OneStep.{Comes}
use Rattle.steps.proofs.Answering.{step-comes}
use Rattle.run.proofs.Going.{Going, Wanting, stands-pulled}

module _ {s table : List ℕ} (j₀ : List ℕ) {budget last : ℕ} {w j : List ℕ} {c : Control} {st : State} {made : ℕ} {x : End × Tape} (g : Going s table (lent j₀) budget last w j c st made x) where
  pub step-came : {k : List ℕ} {n : ℕ} {y : Wanted} (h : Wanting s k last n y g.from) → ItemsKept w k last → length j ≡ length j₀ → 1 ≤ budget - made → (w' j' : List ℕ) (r : Found)
      → AnswersStep s k y table j st (budget - made) w' j' r
      → Comes (lent j₀) (budget - made) made g.from (state g.then g.carries) g.rest s w' last table j' y.place h.c₁ h.c₀ r
  step-came {k} {n} {y} h kept long some w' j' r answers =
      rw (lent_same j₀ j long) at (step-comes s k last y (budget - made) made g.from h.op h.c₁ h.c₀ g.then g.carries g.rest table j w' j' st r some h.wants (stands-pulled g k kept) g.ready answers)
