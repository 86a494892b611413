-- What functions promise that are told the standing globals: script and work area hold them (document 02, wish 2). Assumes nothing.
use Rattle.std.specs.Prelude.{List, ℕ}
use Rattle.definitions.specs.Tape.{Tape}
use Rattle.definitions.specs.Given.{Carried}
use Rattle.definitions.specs.Editor.{Ed}
use Rattle.definitions.specs.StepProgram.{Program, runs, state, Did, perform}
use Rattle.definitions.specs.Edit.{Op, step}
use Rattle.editor.specs.declared.State.{State}
use Rattle.editor.specs.Stops.{Moved}
use Rattle.editor.specs.Shows.{Shows, lent, Came, Answered}
use Rattle.globals.specs.Standing.{Standing}

-- with the script s and the work area w, the buffer j and its numbers st before, and the buffer k after, the function that answered r did the part m of a
-- step
abbrev pub DoesPartBy : {A : Type 0} → List ℕ → List ℕ → List ℕ → State → Program A → List ℕ → Moved → Type 0
DoesPartBy s w j st m k r = (e : Ed) (c : Carried) (t : Tape) → Standing s w c → Shows j st e t → Came k r (runs (lent j) c m e t)

-- the same of a whole command
abbrev pub PerformsBy : List ℕ → List ℕ → List ℕ → State → Op → List ℕ → Moved → Type 0
PerformsBy s w j st op k r = (e : Ed) (c : Carried) (t : Tape) → Standing s w c → Shows j st e t → Answered k r (step (lent j) op (state e c) t)

-- the same of what is left of one
abbrev pub CompletesBy : List ℕ → List ℕ → List ℕ → State → Program Did → List ℕ → Moved → Type 0
CompletesBy s w j st m k r = (e : Ed) (c : Carried) (t : Tape) → Standing s w c → Shows j st e t → Answered k r (perform (lent j) m (state e c) t)

-- some globals stand, or none
abbrev pub SomeStand : List ℕ → List ℕ → Type 0
SomeStand s w = (c : Carried) × Standing s w c
