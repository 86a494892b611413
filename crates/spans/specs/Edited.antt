-- What the function promises that is lent the editor and finds where lines end. Assumes nothing.
use Rattle.std.specs.Prelude.{◌≡◌, ℕ, Result, Ok, Err}
use Rattle.definitions.specs.Editor.{Through}
use Rattle.editor.specs.declared.State.{State}
use Rattle.editor.specs.declared.Stop.{Stop}
use Rattle.editor.specs.declared.Editor.{Editor}
use Rattle.editor.specs.Stops.{stopping}
use Rattle.spans.specs.Spans.{Found, Finds}

-- the place, with the buffer's numbers after it
abbrev pub found_by : Result ℕ Stop → State → Found
found_by (Ok n) s = Ok (n, s)
found_by (Err k) s = stopping k s

-- the editor a became b, its buffer being as it was: the lines are read, and r is where they end, or why none are
pub record FindsEnd (through : Through) (a b : Editor) (r : Result ℕ Stop) : Type 0 where
  pub keeps : b.journal.ghost_name ≡ a.journal.ghost_name
  pub same : b.journal.now ≡ a.journal.now
  pub finds : Finds a.journal.now a.st through (found_by r b.st)
