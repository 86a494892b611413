-- What the functions promise that make one line of two. Assumes nothing.
use Rattle.std.specs.Prelude.{◌≡◌, cond, List, [], ◌∷◌, ◌++◌, ℕ, ◌<◌, length, drop, leb}
use Rattle.definitions.specs.Bytes.{Line}
use Rattle.definitions.specs.Journal.{Record}
use Rattle.definitions.specs.Tape.{Tape}
use Rattle.definitions.specs.Given.{Carried, no_globals}
use Rattle.definitions.specs.Editor.{Ed, current, strike_next, retext}
use Rattle.definitions.specs.StepProgram.{gives, state, changes, perform}
use Rattle.definitions.specs.Edit.{Op, step}
use Rattle.editor.specs.Records.{enc, Good}
use Rattle.editor.specs.Shows.{Shows, lent, Answered}
use Rattle.editor.specs.Current.{current_line, ShowsOf}
use Rattle.editor.specs.declared.State.{State}
use Rattle.editor.specs.Stops.{Moved}
use Rattle.changes.specs.Current.{written}
use Rattle.spans.specs.Spans.{NextAt}

-- ---- the joined text

-- a record stands at the place `at`
abbrev pub HasRecord : List ℕ → ℕ → Type 0
HasRecord j at = (r : Record) × (z : List ℕ) × Good r × (drop at j ≡ enc r ++ z)

-- The current line, `s` and the line of the record at `at` are r bytes long together, and stand at the start of k where a line can be so long; else k is d.
abbrev pub JoinsText : List ℕ → List ℕ → State → ℕ → Line → List ℕ → List ℕ → ℕ → Type 0
JoinsText table j st at s d k r =
    (e : Ed) (t : Tape) (x : Record) (z : List ℕ) → ShowsOf table j st e t → Good x → drop at j ≡ enc x ++ z → let l = current_line e ++ (s ++ current x) in
    (r ≡ length l) × (k ≡ cond (leb (length l) 255) (written d l) d)

-- ---- both records

-- the next live line's record stands at the place `at`
abbrev pub HasNext : List ℕ → State → ℕ → Type 0
HasNext j st at = ((e : Ed) × (t : Tape) × Shows j st e t × NextAt j at 1 e t) × (at < length j)

-- the current line's text becomes `l`, p becomes q, and the next live line, whose record stands at `at`, is deleted: the end of a step
abbrev pub JoinsLines : List ℕ → State → ℕ → Line → ℕ → List ℕ → Moved → Type 0
JoinsLines j st at l q k r =
    (e : Ed) (c : Carried) (t : Tape) → Shows j st e t → NextAt j at 1 e t
    → Answered k r (perform (lent j) (gives (changes (retext l q ∷ strike_next ∷ []))) (state e c) t)

-- ---- CL

-- CL with the string s, where no global stands
abbrev pub Joins : List ℕ → List ℕ → State → Line → List ℕ → Moved → Type 0
Joins table j st s k r = (e : Ed) (t : Tape) → ShowsOf table j st e t → Answered k r (step (lent j) (Op.join s) (state e no_globals) t)
