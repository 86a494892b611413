-- What the function promises that is lent the editor for the steps of a run. Assumes nothing.
use Rattle.std.specs.Prelude.{◌≡◌, List, ℕ, length}
use Rattle.editor.specs.declared.State.{State}
use Rattle.editor.specs.declared.Editor.{Editor}
use Rattle.run.specs.declared.decoded.Ended.{Ended}

-- the editor a became b, and the steps ended so
pub record RunsOn (R : List ℕ → State → List ℕ → Ended → Type 0) (a b : Editor) (r : Ended) : Type 0 where
  pub long : length b.journal.now ≡ length a.journal.now
  pub runs : R a.journal.now a.st b.journal.now r
