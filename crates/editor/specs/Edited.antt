-- What functions promise that are lent the editor. Assumes nothing.
use Rattle.std.specs.Prelude.{◌≡◌, List, ℕ, length, Result, Ok, Err}
use Rattle.editor.specs.declared.State.{State}
use Rattle.editor.specs.declared.Stop.{Stop}
use Rattle.editor.specs.declared.Editor.{Editor}
use Rattle.editor.specs.Stops.{Moved, stopping}

-- the answer, with the numbers that the editor then has
abbrev pub moved_by : Result (Unit {0}) Stop → State → Moved
moved_by (Ok u) s = Ok s
moved_by (Err k) s = stopping k s

-- The editor a became b, and the function that was lent it answered r: buffer and numbers before and after are as R says. The editor keeps the buffer that
-- it has, so whoever lent that learns what it becomes.
pub record Does (R : List ℕ → State → List ℕ → Moved → Type 0) (a b : Editor) (r : Result (Unit {0}) Stop) : Type 0 where
  pub keeps : b.journal.ghost_name ≡ a.journal.ghost_name
  pub long : length b.journal.now ≡ length a.journal.now
  pub does : R a.journal.now a.st b.journal.now (moved_by r b.st)
