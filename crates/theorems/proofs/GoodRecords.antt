-- Every record of a run is good: its lines are lines, and a changed record's two lines differ.
use Rattle.std.specs.Prelude.{◌≡◌, true, ℕ}
use mathlib.Core.List.{List, map, reverse_aux}
use Rattle.definitions.specs.Bytes.{Line}
use Rattle.definitions.specs.Journal.{kept}
use Rattle.definitions.specs.Tape.{Tape, unread, rest_lines}
use Rattle.definitions.specs.Given.{Given, given, bytes}
use Rattle.definitions.specs.Editor.{ed, records, journal}
use Rattle.definitions.specs.StepProgram.{RunState, state, text_of}
use Rattle.definitions.specs.Control.{Item}
use Rattle.definitions.specs.Run.{ran_items}
use Rattle.theorems.specs.Each.{Each, each_append, each-reverse, each_map}
use Rattle.theorems.specs.Runs.{items-weaken}
use Rattle.theorems.specs.ArrangeLaws.{arrange-each}
use Rattle.theorems.proofs.Answers.{Shown, ran-shown}
use Rattle.theorems.specs.Changes.{HoldsState, AsAnyWord, rest-keeps, changes-keep}
use Rattle.theorems.specs.JournalBytes.{IsLine, GoodRecord}
use Rattle.theorems.specs.GoodItems.{good_op}
use Rattle.theorems.specs.GoodGlobals.{GoodGlobal}
use Rattle.theorems.specs.GoodSteps.{GoodRecords, Good, IsLineAfter, good-closed, WritesLines, inner-lines, GoodItems, good-lines}

-- the records of the journal of a good state
pub journal-good : (s : RunState) (t : Tape) → HoldsState GoodGlobal Good s t → GoodRecords (journal (text_of s) t)
unfolding journal records text_of
journal-good (state (ed before after p) c) t h =
    each_append GoodRecord (reverse_aux before after) (map kept (rest_lines t)) (each-reverse GoodRecord before after h.0.0 h.0.1)
    (each_map GoodRecord IsLine kept (λ l k. k) (rest_lines t) h.0.2)

-- every record of a run over lines, with good items, is good
pub ran-good : (size place budget : ℕ) (items : List Item) (ls : List Line) → GoodItems items → Each IsLine ls → Shown GoodRecords (ran_items (given (bytes size)) place budget items ls)
ran-good size place budget items ls k h =
    let g : Given = given (bytes size) in
    ran-shown (HoldsState GoodGlobal Good) GoodRecords journal-good (arrange-each GoodRecord) g (rest-keeps IsLine IsLineAfter GoodGlobal Good good-closed g) place budget items ls
    (changes-keep IsLine IsLineAfter GoodGlobal Good good-closed g budget items (unread ls) inner-lines
    (items-weaken (λ op. good_op op ≡ true) (AsAnyWord WritesLines) good-lines items k) (tt, tt, unfold rest_lines in h))
