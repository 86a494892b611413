-- A step is a short program: it reads lines, looks at the text, moves, and stops or goes on; what it changes, it changes at its end. So "the stopping
-- command changes no record, its reading counts" (document 01) holds of every program.
use Rattle.std.specs.Prelude.{Bool, true, cond, List, [], ◌∷◌, ◌++◌, ℕ, length, leb}
use Rattle.definitions.specs.Tape.{Reads, ret, bind}
use Rattle.definitions.specs.WordSet.{Named}
use Rattle.definitions.specs.Given.{Given, Global, Carried, carried, words_of, with_words, without_globals}
use Rattle.definitions.specs.Editor.{Ed, journal, Stop, n26, n31, stop_number, Got, got, stop, Target, Move, moved, Edit, edits}
use Rattle.definitions.specs.Reading.{Ran, gave, stopped, once_read, read_to, has_room}

pub data Program (A : Type 0) : Type 0 where
  -- it is done, with a value
  gives : A → Program A
  -- it stops
  stops : Stop → Program A
  -- it looks at the text as it then stands
  looks : (Ed → Program A) → Program A
  -- it reads up to a target
  reads : Target → Program A → Program A
  -- it moves
  moves : Move → Program A → Program A

-- one program, then another that is told the first one's value
unfoldable pub ◌>>=◌ : {A B : Type 0} → Program A → (A → Program B) → Program B
◌>>=◌ (gives a) k = k a
◌>>=◌ (stops n) k = stops n
◌>>=◌ (looks f) k = looks (λ e. ◌>>=◌ (f e) k)
◌>>=◌ (reads a m) k = reads a (◌>>=◌ m k)
◌>>=◌ (moves x m) k = moves x (◌>>=◌ m k)

-- one program, then another
unfoldable pub ◌>>◌ : {A B : Type 0} → Program A → Program B → Program B
◌>>◌ m k = ◌>>=◌ m (λ a. k)

-- to go on after a move; one that cannot be made leaves the text where it was
unfoldable pub once_moved : {A : Type 0} → (Ed → Reads (Ran A)) → Ed → Got Ed → Reads (Ran A)
once_moved go e (got e') = go e'
once_moved go e (stop n) = ret (stopped n e)

-- what a program comes to
unfoldable pub runs : {A : Type 0} → Given → Carried → Program A → Ed → Reads (Ran A)
runs g c (gives a) e = ret (gave a e)
runs g c (stops n) e = ret (stopped n e)
runs g c (looks f) e = runs g c (f e) e
runs g c (reads a m) e = bind (read_to g c a e) (once_read (λ e'. runs g c m e'))
runs g c (moves x m) e = once_moved (λ e'. runs g c m e') e (moved x e)

-- ---- a step

-- what a run stands in: its text, and what it carries
pub data RunState : Type 0 where
  state : Ed → Carried → RunState

unfoldable pub text_of : RunState → Ed
text_of (state e c) = e

-- the bytes that count for W
unfoldable pub words_in : RunState → ℕ → Bool
words_in (state e c) = words_of c

-- what a step's program ends with: nothing is changed, and a test has this result; records are changed; W; one global more stands, or none (document 02,
-- wish 2); other bytes count for W (wish 8)
pub data Did : Type 0 where
  answers : Bool → Did
  changes : List Edit → Did
  quits : Did
  adds : Global → Did
  cancels : Did
  names : List Named → Did

-- what a step comes to: the run goes on, nothing changed (with a test's result); it goes on, records changed; or it ends with a number
pub data Out : Type 0 where
  on : Bool → RunState → Out
  edited : RunState → Out
  halt : ℕ → RunState → Out

-- "26 journal after the whole command would exceed its buffer": the text is then `e`, as it was before the changes
unfoldable pub within : Given → Carried → Ed → Ed → Reads Out
within g c e e' t = cond (has_room g (journal e' t)) (edited (state e' c), t) (halt (stop_number n26) (state e c), t)

-- "at most 16" stand; "31: a seventeenth global, when obeyed" (W2.3)
unfoldable pub one_more : Carried → Global → Ed → Out
one_more (carried gs xs) x e = cond (leb 16 (length gs)) (halt (stop_number n31) (state e (carried gs xs))) (on true (state e (carried (gs ++ (x ∷ [])) xs)))

-- the end of a step
unfoldable pub finish : Given → Carried → Ran Did → Reads Out
finish g c (gave (answers b) e) = ret (on b (state e c))
finish g c (gave (changes xs) e) = within g c e (edits xs e)
finish g c (gave quits e) = ret (halt 0 (state e c))
finish g c (gave (adds x) e) = ret (one_more c x e)
finish g c (gave cancels e) = ret (on true (state e (without_globals c)))
finish g c (gave (names xs) e) = ret (on true (state e (with_words c xs)))
finish g c (stopped n e) = ret (halt (stop_number n) (state e c))

-- a step that is this program
unfoldable pub perform : Given → Program Did → RunState → Reads Out
perform g m (state e c) = bind (runs g c m e) (finish g c)
