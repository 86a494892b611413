-- R of records: the bytes of the journal that deleted lines leave, and what R does once its records are found. Assumes nothing.
use Rattle.std.specs.Prelude.{◌≡◌, List, [], ◌∷◌, ◌++◌, ℕ, ◌+◌, length}
use Rattle.definitions.specs.Bytes.{Line}
use Rattle.definitions.specs.Journal.{Record}
use Rattle.definitions.specs.Tape.{Tape}
use Rattle.definitions.specs.Given.{no_globals}
use Rattle.definitions.specs.Editor.{Ed, strike, put}
use Rattle.definitions.specs.Editor.{Edit as Editing}
use Rattle.definitions.specs.StepProgram.{Program, gives, ◌>>◌, state, Did, changes, perform}
use Rattle.definitions.specs.Edit.{read_past}
use Rattle.editor.specs.Records.{enc_all}
use Rattle.editor.specs.Shows.{Holds, Shows, lent, Answered}
use Rattle.editor.specs.declared.State.{State}
use Rattle.editor.specs.Stops.{Moved}
use Rattle.spans.specs.Spans.{freed_by, EndsAt}

unfoldable pub freed : List Record → ℕ
freed [] = 0
freed (r ∷ rs) = freed_by r + freed rs

-- r bytes are freed where the lines of the records up to the place `end` are deleted
abbrev pub Frees : ℕ → List ℕ → State → ℕ → Type 0
Frees end j st r =
    (c : List Record) (m : List Record) (d : List Record) → Holds j st c (m ++ d) → end + length (enc_all d) ≡ length j → r ≡ freed m

-- ---- R

-- what R changes: n records are struck, and the lines are put
abbrev pub replacing : List Line → ℕ → List Editing
replacing ls n = strike n ∷ put ls ∷ []

-- R once it is known that it takes n records
unfoldable pub replace_many : List Line → ℕ → Program Did
replace_many ls n = do
  read_past n
  gives (changes (replacing ls n))

-- R of the records up to the place `end`
abbrev pub Replaces : ℕ → List Line → List ℕ → State → List ℕ → Moved → Type 0
Replaces end ls j st k r =
    (e : Ed) (t : Tape) (n : ℕ) → Shows j st e t → EndsAt j end n e t → Answered k r (perform (lent j) (replace_many ls n) (state e no_globals) t)
