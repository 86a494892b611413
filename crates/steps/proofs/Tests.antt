-- The tests, by what is asked. Assumes nothing.
use mathlib.Core.Path.{◌≡◌}
use mathlib.Core.Bool.{Bool}
use mathlib.Core.List.{List}
use Prim.Native.Nat.{ℕ, ◌+◌}
use lib.ListN.{get_or}
use Rattle.definitions.specs.Search.{Search}
use Rattle.definitions.specs.StepProgram.{state}
use Rattle.definitions.specs.Edit.{test, step}
use Rattle.control.specs.declared.Wanted.{Wanted}
use Rattle.control.specs.Shown.{SearchOf}
use Rattle.editor.specs.declared.State.{State}
use Rattle.editor.specs.Shows.{lent}
use Rattle.std.specs.Prelude.{Result}
use Rattle.editor.specs.declared.Stopped.{Stopped}
use Rattle.seeks.specs.Looks.{Looked, LooksAs, LooksForCarrying, test_of}
use Rattle.steps.specs.Steps.{ask_test, LooksAsked, AsksSome}
use Rattle.steps.proofs.Views.{asks-test}

pub as-test : (s w : List ℕ) (x : Wanted) (table j k : List ℕ) (st : State) (r : Result Looked Stopped) (m : ℕ) → m ≡ get_or w (x.item + 1) 0 → (v : Bool) → x.what ≡ ask_test v
    → LooksForCarrying s w (x.item + 2) m table j st (λ se. test (test_of v se)) k r → LooksAsked s w (AsksSome s w x) table j st k r
unfolding SearchOf
as-test s w x table j k st r m q v what f op e c t (end, a) stands h = by (asks-test s w end x op a v what)
  where
    by : (se : Search) × SearchOf s w x.item se × (op ≡ test (test_of v se)) → LooksAs k r (step (lent j) op (state e c) t)
    by (se, en, o) = rw o (f se e c t (rw q en) stands h)
