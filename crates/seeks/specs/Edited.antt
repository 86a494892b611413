-- What functions promise that are lent the editor for a test or a search. Assumes nothing.
use Rattle.std.specs.Prelude.{◌≡◌, Bool, List, ℕ, length, Result, Ok, Err}
use Rattle.editor.specs.declared.State.{State}
use Rattle.editor.specs.declared.Stop.{Stop}
use Rattle.editor.specs.declared.Stopped.{Stopped}
use Rattle.editor.specs.declared.Editor.{Editor}
use Rattle.editor.specs.Stops.{stopping}
use Rattle.seeks.specs.declared.Sought.{Sought}
use Rattle.seeks.specs.Looks.{Looked, Found, holding}

-- the answer, with the numbers that the editor then has
abbrev pub looked_by : Result Bool Stop → State → Result Looked Stopped
looked_by (Ok v) s = holding v s
looked_by (Err k) s = stopping k s

abbrev pub sought_by : Sought → State → Found
sought_by r s = record { looked = looked_by r.looked s; made = r.made }

-- the editor a became b, and the function that was lent it answered r: buffer and numbers before and after are as R says
pub record LooksOn (R : List ℕ → State → List ℕ → Result Looked Stopped → Type 0) (a b : Editor) (r : Result Bool Stop) : Type 0 where
  pub keeps : b.journal.ghost_name ≡ a.journal.ghost_name
  pub long : length b.journal.now ≡ length a.journal.now
  pub looks : R a.journal.now a.st b.journal.now (looked_by r b.st)

-- the same of a search over lines
pub record SeeksOn (R : List ℕ → State → List ℕ → Found → Type 0) (a b : Editor) (r : Sought) : Type 0 where
  pub keeps : b.journal.ghost_name ≡ a.journal.ghost_name
  pub long : length b.journal.now ≡ length a.journal.now
  pub seeks : R a.journal.now a.st b.journal.now (sought_by r b.st)
