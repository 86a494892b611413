-- What a test and a line's search answer, and a search's steps one after another. Assumes nothing.
use Rattle.std.specs.Prelude.{◌≡◌, Bool, true, false, List, [], ◌∷◌, ℕ, zero, suc, Result, Ok, Err}
use Rattle.definitions.specs.Tape.{Tape}
use Rattle.definitions.specs.Search.{Search}
use Rattle.definitions.specs.Given.{Given, Carried, words_of}
use Rattle.definitions.specs.Editor.{Ed, Stop as StopNumber, n21, n22, strike_back}
use Rattle.definitions.specs.StepProgram.{Program, gives, RunState, state, Did, changes, Out, on, edited, halt, perform}
use Rattle.definitions.specs.Edit.{Op, Test, is, is_not, goes_on, look_on, look_back, search_holds, step}
use Rattle.definitions.specs.Control.{Seek, forward, backward, deleting, look_op}
use Rattle.matching.specs.Words.{Encodes}
use Rattle.editor.specs.Shows.{Shows, lent}
use Rattle.editor.specs.Current.{PointOut, Ready}
use Rattle.editor.specs.declared.State.{State}
use Rattle.editor.specs.declared.Stopped.{Stopped}
use Rattle.editor.specs.Stops.{numbered}
use Rattle.globals.specs.Standing.{Standing}
use Rattle.seeks.specs.declared.Way.{Way}
use Rattle.seeks.specs.declared.Way.TheVariants.{Forward, Backward, Deleting}

-- what a test comes to, or a search on one line: whether it holds, and the numbers then
pub record Looked : Type 0 where
  pub held : Bool
  pub st : State

-- what a search over lines comes to, and how many steps it made
pub record Found : Type 0 where
  pub looked : Result Looked Stopped
  pub made : ℕ

-- ---- one step

-- what a function answers, and what the step comes to: the run goes on after `edited` as after `on true`
unfoldable pub Looks : List ℕ → Result Looked Stopped → Out → Tape → Type 0
Looks j (Ok x) (on b (state e c)) t = (x.held ≡ b) × Shows j x.st e t
Looks j (Ok x) (edited (state e c)) t = (x.held ≡ true) × Shows j x.st e t
Looks j (Ok x) (halt n (state e c)) t = ⊥
Looks j (Err s) (on b (state e c)) t = ⊥
Looks j (Err s) (edited (state e c)) t = ⊥
Looks j (Err s) (halt n (state e c)) t = (numbered s.stop ≡ n) × Shows j s.st e t

-- the answer that it holds, or does not
abbrev pub holding : Bool → State → Result Looked Stopped
holding v s = Ok (record { held = v; st = s })

abbrev pub LooksAs : List ℕ → Result Looked Stopped → Out × Tape → Type 0
LooksAs j r x = Looks j r x.0 x.1

-- with the buffer j and its numbers st before, and the buffer k after, the function that answered r did the end m of a step
abbrev pub LooksBy : List ℕ → State → Program Did → List ℕ → Result Looked Stopped → Type 0
LooksBy j st m k r = (e : Ed) (c : Carried) (t : Tape) → Shows j st e t → LooksAs k r (perform (lent j) m (state e c) t)

-- the same of one that is told what is carried: script and work area hold it (document 02, wishes 2 and 8)
abbrev pub LooksCarrying : List ℕ → List ℕ → List ℕ → State → Program Did → List ℕ → Result Looked Stopped → Type 0
LooksCarrying s w j st m k r = (e : Ed) (c : Carried) (t : Tape) → Standing s w c → Shows j st e t → LooksAs k r (perform (lent j) m (state e c) t)

-- as `LooksBy`, of a whole step
abbrev pub LooksOnce : List ℕ → State → Op → List ℕ → Result Looked Stopped → Type 0
LooksOnce j st op k r = (e : Ed) (c : Carried) (t : Tape) → Shows j st e t → LooksAs k r (step (lent j) op (state e c) t)

-- what is carried after a step
unfoldable pub carried_of : Out → Carried
carried_of (on b (state e c)) = c
carried_of (edited (state e c)) = c
carried_of (halt n (state e c)) = c

-- ---- a step with a search, which lies in the words from k up to m

-- there is such a search, and buffer and table show a text
abbrev pub Searchable : List ℕ → List ℕ → ℕ → ℕ → List ℕ → List ℕ → State → Type 0
Searchable script words k m table j st = ((se : Search) × Encodes script words k m se) × ((e : Ed) × (t : Tape) × Ready table j st e t)

module _ (script words : List ℕ) (k m : ℕ) (table j : List ℕ) (st : State) where
  -- v says whether it holds on the current line, or at EOF, where script and work area hold what is carried
  abbrev pub Tells : Bool → Type 0
  Tells v = (se : Search) (e : Ed) (c : Carried) (t : Tape) → Encodes script words k m se → Standing script words c → Ready table j st e t → v ≡ search_holds (words_of c) se e

  -- what a function answers that made the step `op` with it, the buffer being i then
  abbrev pub LooksForCarrying : (Search → Op) → List ℕ → Result Looked Stopped → Type 0
  LooksForCarrying op i r =
      (se : Search) (e : Ed) (c : Carried) (t : Tape) → Encodes script words k m se → Standing script words c → Ready table j st e t
      → LooksAs i r (step (lent j) (op se) (state e c) t)

-- the test of IF and WH (v is true), or of UL and UT
unfoldable pub test_of : Bool → Search → Test
test_of true se = is se
test_of false se = is_not se

-- ---- F, BF and DF on one line

unfoldable pub seek_of : Way → Seek
seek_of Forward = forward
seek_of Backward = backward
seek_of Deleting = deleting

-- the number where EOF is current
unfoldable pub eof_stop : Seek → StopNumber
eof_stop forward = n21
eof_stop backward = n22
eof_stop deleting = n21

-- what is done where the line matches, i lines being passed
unfoldable pub where_found : Seek → ℕ → Program Did
where_found forward i = goes_on
where_found backward i = goes_on
where_found deleting i = gives (changes (strike_back i ∷ []))

-- where it does not
unfoldable pub where_not : Seek → Program Did
where_not forward = look_on
where_not backward = look_back
where_not deleting = look_on

-- ---- a search over lines

-- what steps one after another come to: the last one's outcome, what is then unread, and how many steps were made
abbrev pub Steps : Type 0
Steps = (Out × Tape) × ℕ

-- the search goes on where a step finds nothing
unfoldable pub further : (RunState → Tape → Steps) → Out → Tape → Steps
further f (on true s) t = ((on true s, t), 1)
further f (on false s) t = ((f s t).0, suc (f s t).1)
further f (edited s) t = ((edited s, t), 1)
further f (halt n s) t = ((halt n s, t), 1)

-- a search's steps from the current line on, i lines being passed, at most n of them: up to the one that finds its line, or stops
unfoldable pub steps_of : Given → (ℕ → Op) → ℕ → ℕ → RunState → Tape → Steps
steps_of g op i zero s t = ((on false s, t), 0)
steps_of g op i (suc n) s t = further (steps_of g op (suc i) n) (step g (op i) s t).0 (step g (op i) s t).1

-- what a search over lines answers, and what its steps come to: p is within the current line where the run goes on
abbrev pub Seeks : List ℕ → Found → Steps → Type 0
Seeks j r x = LooksAs j r.looked x.0 × PointOut x.0.0 × (r.made ≡ x.1)

-- what a function answers that made the steps of `f` with the search in the words from k up to m, told what is carried
abbrev pub SeeksFor : List ℕ → List ℕ → ℕ → ℕ → List ℕ → List ℕ → State → Seek → ℕ → ℕ → List ℕ → Found → Type 0
SeeksFor script words k m table j st f passed left i r =
    (se : Search) (e : Ed) (c : Carried) (t : Tape) → Encodes script words k m se → Standing script words c → Ready table j st e t
    → Seeks i r (steps_of (lent j) (look_op f se) passed left (state e c) t)
