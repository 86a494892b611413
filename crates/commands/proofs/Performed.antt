-- The commands of one word, by their kinds; what is left is a change. Assumes nothing.
use mathlib.Core.Path.{◌≡◌, refl, ◌∙◌}
use mathlib.Core.Bool.{true}
use mathlib.Core.Option.{Option, none, some}
use mathlib.Core.List.{List}
use Prim.Native.Nat.{ℕ, ◌≤◌}
use lib.ListN.{length}
use lib.Dec.{eqb}
use borrow.Author.Tests.{ne_eqb}
use Rattle.definitions.specs.Bytes.{Line}
use Rattle.definitions.specs.Tape.{Tape, bind}
use Rattle.definitions.specs.Given.{Given, Carried, no_globals}
use Rattle.definitions.specs.Editor.{Ed, Target, Through}
use Rattle.definitions.specs.StepProgram.{runs, state, words_in, finish, perform}
use Rattle.definitions.specs.Edit.{Op, program, step, quit}
use Rattle.theorems.specs.Words.{NoGlobal, Wordless, none-steps}
use Rattle.items.specs.Kinds.{word_shape, pair_shape, four_shape, string_shape, change_shape, shape_of, cancel_kind}
use Rattle.items.specs.Words.{kind_at}
use Rattle.items.specs.Simple.{line_op, word_op}
use Rattle.items.proofs.Meaning.{words, form_of, Means, shape-left, meant, meant-as}
use Rattle.editor.specs.declared.State.{State}
use Rattle.editor.specs.Stops.{Moved, stopping}
use Rattle.editor.specs.declared.Stop.TheVariants.{Quit}
use Rattle.editor.specs.Shows.{lent, ShowsText, Answers, Answered, Performs}
use Rattle.items.specs.Reserve.{reserve}
use Rattle.globals.specs.Standing.{standing}
use Rattle.globals.proofs.Standing.{none-stand}
use Rattle.reading.specs.Carrying.{PerformsBy, SomeStand}
use Rattle.reading.proofs.Stands.{stand-room}
use Rattle.spans.proofs.Outcomes.{answers-carrying}
use Rattle.joins.specs.Joining.{Joins}
use Rattle.editor.specs.Current.{ShownOf, PerformsOf, IsReady}
use Rattle.commands.specs.Performing.{SomeCommand, PerformsAt, PerformsLines, PerformsWith}

-- W
pub quits : (table j : List ℕ) (st : State) → PerformsOf table j st quit j (stopping Quit st)
unfolding Answers step words_in perform bind runs finish program
quits table j st e c t h = (refl, h.shows)

-- ---- what stands

-- whatever stands
pub anyhow : {s w j : List ℕ} {st : State} (b : List ℕ) (r : Moved) (op : Op) → ((c : Carried) → Performs c j st op b r) → PerformsBy s w j st op b r
anyhow b r op does = λ e c t stands h. does c e t h

pub anyhow-with : {s table w j : List ℕ} {st : State} (b : List ℕ) (r : Moved) {op other : Op} → op ≡ other → PerformsOf table j st other b r → PerformsWith s table w j st op b r
anyhow-with b r q does = rw q (λ e c t stands h. does e c t h)

-- commands that look for no string
pub plain-next : Wordless Op.next_line
unfolding program
plain-next f h = refl

pub plain-move : (a : Target) → Wordless (Op.move a)
unfolding program
plain-move a f h = refl

pub plain-delete : (a : Target) (b : Through) → Wordless (Op.delete a b)
unfolding program
plain-delete a b f h = refl

pub plain-replace : (a : Target) (b : Through) (ls : List Line) → Wordless (Op.replace a b ls)
unfolding program
plain-replace a b ls f h = refl

pub plain-insert : (a : Option Target) (ls : List Line) → Wordless (Op.insert a ls)
unfolding program
plain-insert none ls f h = refl
plain-insert (some a) ls f h = refl

plain-join : (l : Line) → Wordless (Op.join l)
unfolding program
plain-join l f h = refl

-- what is answered of one, where none stands
without-globals : (b : List ℕ) (r : Moved) (g : Given) (c : Carried) → NoGlobal c → (op : Op) → Wordless op → (e : Ed) (t : Tape) → Answered b r (step g op (state e no_globals) t)
    → Answered b r (step g op (state e c) t)
without-globals b r = none-steps (Answers b r) (λ o t c. answers-carrying c b r o t)

-- none stands
pub plainly : {s w j : List ℕ} {st : State} (b : List ℕ) (r : Moved) (op : Op) → Wordless op → eqb (standing w) 0 ≡ true → Performs no_globals j st op b r → PerformsBy s w j st op b r
plainly {s} {w} {j} b r op wordless zero does = λ e c t stands h. without-globals b r (lent j) c (none-stand s w c zero stands) op wordless e t (does e t h)

pub plainly-joins : {s table w j : List ℕ} {st : State} (b : List ℕ) (r : Moved) (l : Line) → eqb (standing w) 0 ≡ true → Joins table j st l b r → PerformsWith s table w j st (Op.join l) b r
plainly-joins {s} {table} {w} {j} b r l zero does = λ e c t stands h. without-globals b r (lent j) c (none-stand s w c zero stands) (Op.join l) (plain-join l) e t (does e t h)

-- a function that is handed the command, and does not read the table
pub handed : {s table w j : List ℕ} {st : State} (b : List ℕ) (r : Moved) {op other : Op} → op ≡ other → PerformsBy s w j st other b r → PerformsWith s table w j st op b r
handed b r q does = rw q (λ e c t stands h. does e c t stands h.shows)

-- enough words are there
pub words-room : {s w : List ℕ} → SomeStand s w → reserve ≤ length w
words-room {s} {w} (c, h) = stand-room s w c h

-- ---- the same command
pub performs-as : {table j : List ℕ} {st : State} (b : List ℕ) (r : Moved) {op other : Op} → op ≡ other → PerformsOf table j st other b r → PerformsOf table j st op b r
performs-as b r q does = rw q does

-- a command that does not read the table
pub tableless : {table j : List ℕ} {st : State} (b : List ℕ) (r : Moved) {op other : Op} → op ≡ other → ((c : Carried) → Performs c j st other b r) → PerformsOf table j st op b r
tableless b r q does = rw q (λ e c t h. does c e t h.shows)

pub without-table : {s table w : List ℕ} {k : ℕ} {j : List ℕ} {st : State} (b : List ℕ) (r : Moved) → PerformsLines s w k j st b r → PerformsAt s table w k j st b r
without-table b r does op e c t h stands ready = does op e c t h stands ready.shows

-- some text is shown
pub shown-text : {table j : List ℕ} {st : State} → ShownOf table j st → ShowsText j st
shown-text (e, t, h) = (e, t, h.shows)

pub ready-shown : {table j : List ℕ} {st : State} → IsReady table j st → ShownOf table j st
ready-shown (e, t, h) = (e, t, record { shows = h.shows; old = h.old })

pub ready-text : {table j : List ℕ} {st : State} → IsReady table j st → ShowsText j st
ready-text (e, t, h) = (e, t, h.shows)

module _ (s w : List ℕ) (k kind : ℕ) (is : kind ≡ kind_at w k) (shape : ℕ) (Shape-is : shape ≡ shape_of kind) where
  pub word-as : (table j : List ℕ) (st : State) (b : List ℕ) (r : Moved) → shape ≡ word_shape → (kind ≡ cancel_kind → ⊥) → PerformsWith s table w j st (line_op kind) b r → PerformsAt s table w k j st b r
  unfolding form_of Means word_op
  word-as table j st b r sole other does op e c t h stands ready = on (meant-as s w k kind is words (rw (← Shape-is, sole)) op h)
    where
      on : Means s w k h.end kind words op → Answered b r (step (lent j) op (state e c) t)
      on (ends, o) = rw (o, ne_eqb kind cancel_kind other) (does e c t stands (record { shows = ready.shows; old = ready.old }))

  -- what is left
  pub changes-left : (shape ≡ word_shape → ⊥) → (shape ≡ pair_shape → ⊥) → (shape ≡ four_shape → ⊥) → (shape ≡ string_shape → ⊥) → SomeCommand s w k → shape_of kind ≡ change_shape
  changes-left a b c d (op, h) =
      shape-left s w k h.end kind op (λ e. a (Shape-is ∙ e)) (λ e. b (Shape-is ∙ e)) (λ e. c (Shape-is ∙ e)) (λ e. d (Shape-is ∙ e)) (meant s w k kind is op h)
