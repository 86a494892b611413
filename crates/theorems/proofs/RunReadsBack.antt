-- Of every run that is not refused: its records are good, and the journal is read back from its bytes.
use Rattle.std.specs.Prelude.{◌≡◌, true, List, ℕ, length}
use Rattle.std.proofs.Math.Option.{some}
use Rattle.definitions.specs.Bytes.{lines_of}
use Rattle.definitions.specs.Table.{is_table, is_script}
use Rattle.definitions.specs.Journal.{Record, old_side, journal_bytes, records_of}
use Rattle.definitions.specs.Given.{given, bytes}
use Rattle.definitions.specs.Control.{Item}
use Rattle.definitions.specs.Script.{items, read_script}
use Rattle.definitions.specs.Run.{ran_items, run_answer}
use Rattle.theorems.proofs.Answers.{Shown, run-shown, shown-both, shown-records}
use Rattle.theorems.proofs.Demand3Items.{items-old}
use Rattle.theorems.specs.JournalBytes.{reads_back, all_lines_lem, table-lines, table-short}
use Rattle.theorems.specs.GoodSteps.{GoodRecords}
use Rattle.theorems.proofs.GoodRecords.{ran-good}
use Rattle.theorems.proofs.GoodScripts.{good-commands}

-- the journal `j` is read back from its bytes
abbrev pub ReadsBack : List Record → Type 0
ReadsBack j = records_of (journal_bytes j) ≡ some j

-- every record is good
pub run-good : (table script : List ℕ) (budget work size : ℕ) → Shown GoodRecords (run_answer table script budget work size)
run-good table script budget work size =
    run-shown GoodRecords table script budget size work
    (λ g is p h. ran-good size (length script) budget is (lines_of table) (good-commands script g is p) (all_lines_lem (lines_of table) (table-lines table h)))

-- the journal is read back from its bytes
pub run-reads-back : (table script : List ℕ) (budget work size : ℕ) → Shown ReadsBack (run_answer table script budget work size)
run-reads-back table script budget work size = run-shown ReadsBack table script budget size work back
  where
    back : is_script script ≡ true → (is : List Item) → read_script script ≡ items is → is_table table ≡ true
        → Shown ReadsBack (ran_items (given (bytes size)) (length script) budget is (lines_of table))
    back g is p h =
        shown-both GoodRecords (λ j. old_side j ≡ lines_of table) ReadsBack (λ j r o. reads_back j r (rw o (table-short table h)))
        (ran_items (given (bytes size)) (length script) budget is (lines_of table))
        (ran-good size (length script) budget is (lines_of table) (good-commands script g is p) (all_lines_lem (lines_of table) (table-lines table h)))
        (shown-records (λ j. old_side j ≡ lines_of table) (ran_items (given (bytes size)) (length script) budget is (lines_of table)) (items-old script budget is size (lines_of table)))
