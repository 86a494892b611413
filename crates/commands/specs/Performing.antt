-- What a command with a qualified string is by its kind; what the functions are handed that perform a simple command of the script, and what they answer.
use Rattle.std.specs.Prelude.{◌≡◌, Bool, false, cond, ◌||◌, List, ℕ, take, drop, eqb}
use Rattle.definitions.specs.Bytes.{Line, lines_of}
use Rattle.definitions.specs.Tape.{Tape}
use Rattle.definitions.specs.Given.{Carried}
use Rattle.definitions.specs.Editor.{Ed}
use Rattle.definitions.specs.StepProgram.{state}
use Rattle.definitions.specs.Edit.{Op, step}
use Rattle.items.specs.Kinds.{split_after_kind, split_before_kind, after_kind, after_pointing_kind, before_kind, before_pointing_kind, exchange_pointing_kind, cancel_kind, word_set_kind, is_global}
use Rattle.items.specs.Words.{kind_at, part_of}
use Rattle.items.specs.Simple.{CommandAt}
use Rattle.changes.specs.declared.Change.{Change}
use Rattle.changes.specs.declared.Change.TheVariants.{After, Before, Exchange}
use Rattle.editor.specs.declared.State.{State}
use Rattle.editor.specs.Stops.{Moved}
use Rattle.editor.specs.Shows.{Shows, lent, Answered, target_numbered}
use Rattle.editor.specs.Current.{Ready, ShowsOf}
use Rattle.globals.specs.Standing.{Standing}
use Rattle.reading.specs.Carrying.{PerformsBy, CompletesBy}
use Rattle.inserts.specs.Lines.{spot_of}
use Rattle.spans.specs.Spans.{through_of, change_here}
use Rattle.replacing.specs.Freed.{replacing}

-- SA and SB, among the commands with one qualified string
unfoldable pub split_by : ℕ → Bool
split_by kind = eqb kind split_after_kind || eqb kind split_before_kind

-- what a change does: A, B, E
unfoldable pub change_by : ℕ → Change
change_by kind = cond (eqb kind after_kind || eqb kind after_pointing_kind) After (cond (eqb kind before_kind || eqb kind before_pointing_kind) Before Exchange)

-- AP, BP and EP
unfoldable pub pointing_by : ℕ → Bool
pointing_by kind = eqb kind after_pointing_kind || (eqb kind before_pointing_kind || eqb kind exchange_pointing_kind)

-- the words from k on hold a simple command
abbrev pub SomeCommand : List ℕ → List ℕ → ℕ → Type 0
SomeCommand script w k = (op : Op) × CommandAt script w k op

-- it is none of GE, GA, GB, CG and WORD, which change what is carried
abbrev pub LeavesCarried : List ℕ → ℕ → Type 0
LeavesCarried w k = (is_global (kind_at w k) ≡ false) × (kind_at w k ≡ cancel_kind → ⊥) × (kind_at w k ≡ word_set_kind → ⊥)

-- with the buffer j and its numbers st before, and the buffer j' after, the function that answered r performed the command at k, whatever globals stand
abbrev pub PerformsAt : List ℕ → List ℕ → List ℕ → ℕ → List ℕ → State → List ℕ → Moved → Type 0
PerformsAt script table w k j st j' r =
    (op : Op) (e : Ed) (c : Carried) (t : Tape) → CommandAt script w k op → Standing script w c → Ready table j st e t → Answered j' r (step (lent j) op (state e c) t)

-- the same of one that does not read the table
abbrev pub PerformsLines : List ℕ → List ℕ → ℕ → List ℕ → State → List ℕ → Moved → Type 0
PerformsLines script w k j st j' r =
    (op : Op) (e : Ed) (c : Carried) (t : Tape) → CommandAt script w k op → Standing script w c → Shows j st e t → Answered j' r (step (lent j) op (state e c) t)

-- the same of a function that is handed the command
abbrev pub PerformsWith : List ℕ → List ℕ → List ℕ → List ℕ → State → Op → List ℕ → Moved → Type 0
PerformsWith script table w j st op j' r =
    (e : Ed) (c : Carried) (t : Tape) → Standing script w c → ShowsOf table j st e t → Answered j' r (step (lent j) op (state e c) t)

-- ---- the commands that read, where globals stand

-- the lines of R and I
abbrev pub lines_at : List ℕ → ℕ → ℕ → List Line
lines_at script start end = lines_of (part_of script start end)

abbrev pub ReplacesHere : List ℕ → List ℕ → ℕ → ℕ → List ℕ → State → ℕ → List ℕ → Moved → Type 0
ReplacesHere script w start end j st through j' r = CompletesBy script w j st (change_here (replacing (lines_at script start end)) (through_of through)) j' r

abbrev pub ReplacesSpan : List ℕ → List ℕ → ℕ → ℕ → List ℕ → State → ℕ → ℕ → List ℕ → Moved → Type 0
ReplacesSpan script w start end j st from through j' r = PerformsBy script w j st (Op.replace (target_numbered from) (through_of through) (lines_at script start end)) j' r

abbrev pub InsertsAt : List ℕ → List ℕ → ℕ → ℕ → List ℕ → State → ℕ → List ℕ → Moved → Type 0
InsertsAt script w start end j st spot j' r = PerformsBy script w j st (Op.insert (spot_of spot) (lines_at script start end)) j' r

abbrev pub JoinsAt : List ℕ → List ℕ → List ℕ → List ℕ → State → ℕ → ℕ → List ℕ → Moved → Type 0
JoinsAt script table w j st from n j' r = PerformsWith script table w j st (Op.join (take n (drop from script))) j' r
