-- Demand 3, as one statement over the whole run. The terms are document 01's: "Tables and the journal", from "In demand 3"; and document 02's, wish 2: the lines
-- that a done run leaves unread; wish 6: the journal is arranged, and "the journal up to a line" is that of the arranged one (W6.5).
use Rattle.std.specs.Prelude.{◌≡◌, true, List, ◌++◌, map, ℕ, zero, suc, ◌-◌, ◌≤◌, length, take, drop, replicate}
use Rattle.std.proofs.Math.Option.{some}
use Rattle.definitions.specs.Bytes.{Line, lines_of, lines_bytes}
use Rattle.definitions.specs.Table.{is_table}
use Rattle.definitions.specs.Journal.{Record, kept, change, old_side, up_to_line, after_line, journal_bytes, records_of}
use Rattle.definitions.specs.Arranging.{arrange}
use Rattle.definitions.specs.Tape.{unread}
use Rattle.definitions.specs.Given.{given, bytes, Carried, no_globals}
use Rattle.definitions.specs.Globals.{left_by}
use Rattle.definitions.specs.Editor.{Got, got, stop}
use Rattle.definitions.specs.StepProgram.{state}
use Rattle.definitions.specs.Edit.{step}
use Rattle.definitions.specs.Script.{Script, items, refused_at, read_script}
use Rattle.definitions.specs.Run.{End, end, run_items, Answer, answer, refusal, run_answer, answer_number, answer_steps, answer_furthest, answer_place, answer_records, buffer_after}
use Rattle.theorems.specs.Each.{Each}

-- ---- the terms

-- "a table is accepted if it is not malformed (7)"
abbrev pub IsTableAccepted : List ℕ → Type 0
IsTableAccepted table = is_table table ≡ true

-- "and a table, script, budget, work area and journal buffer together if their run is not refused". The table of an accepted run is accepted; with a script
-- that one run takes, an accepted table and room enough (8 and 9) are all that is asked (Accepted: `accepted-asks`, `asked-accepted`).
unfoldable pub IsAccepted : Answer → Type 0
IsAccepted (answer number steps furthest place records) = Unit {0}
IsAccepted (refusal number place) = ⊥

-- "Stopping on a full journal is 26"
abbrev pub IsNotFull : Answer → Type 0
IsNotFull a = answer_number a ≡ 26 → ⊥

-- "Two tables agree up to a line if both have that source line and no line up to it, itself included, differs". No table has a source line
-- lines + 1: where the end-of-file line was read, the other table is an equal one.
pub data Agree (f : ℕ) (lines lines₂ : List Line) : Type 0 where
  agree_up_to : f ≤ length lines → f ≤ length lines₂ → take f lines ≡ take f lines₂ → Agree f lines lines₂
  are_equal : lines₂ ≡ lines → Agree f lines lines₂

-- two answers that do not differ up to source line f: number, place, steps, furthest line, and "the journal up to a line"
pub record SameUpTo (f : ℕ) (a b : Answer) : Type 0 where
  pub number : answer_number b ≡ answer_number a
  pub place : answer_place b ≡ answer_place a
  pub steps : answer_steps b ≡ answer_steps a
  pub furthest : answer_furthest b ≡ answer_furthest a
  pub journal : up_to_line f (answer_records b) ≡ up_to_line f (answer_records a)

-- ---- the terms of document 02, wish 2

-- The runs that are compared: those that do not stop with 26, nor "with 25 or 26 among [their] unread lines after the script's end, with the script's length as
-- place"
pub record IsCompared (script : List ℕ) (a : Answer) : Type 0 where
  pub not_full : IsNotFull a
  pub not_after : answer_number a ≡ 25 → answer_place a ≡ length script → ⊥

-- the globals that stand at a run's end: what its last state carries
unfoldable pub standing_at : End → Carried
standing_at (end n steps at (state e c)) = c

unfoldable pub standing_of : List Line → ℕ → ℕ → Script → Carried
standing_of lines budget size (items is) = standing_at (run_items (step (given (bytes size))) budget is (unread lines)).0
standing_of lines budget size (refused_at n at) = no_globals

unfoldable pub standing : List ℕ → List ℕ → ℕ → ℕ → Carried
standing table script budget size = standing_of (lines_of table) budget size (read_script script)

-- the globals do not stop on the line
abbrev pub Passes : Carried → Line → Type 0
Passes c l = (new : Line) × (left_by c l ≡ got new)

-- the record of a line that they leave so: kept, or changed
unfoldable pub left_as : Line → Got Line → Record
left_as l (got new) = change l new
left_as l (stop n) = kept l

-- the records of lines that are not read: "each line as the standing globals leave it" in a done run (number 0), kept in a stopped one
unfoldable pub unread_as : ℕ → Carried → List Line → List Record
unread_as zero c ls = map (λ l. left_as l (left_by c l)) ls
unread_as (suc n) c ls = map kept ls

-- What follows the journal up to source line f: the lines after line f, each once and in order, and nothing else. They are kept, or, where the run is done, as the
-- globals c leave them; these stop on none.
pub record LeftAfter (f : ℕ) (c : Carried) (lines : List Line) (a : Answer) : Type 0 where
  pub rest : after_line f (answer_records a) ≡ unread_as (answer_number a) c (drop f lines)
  pub passed : answer_number a ≡ 0 → Each (Passes c) (drop f lines)

-- ---- the statement

module _ (table script : List ℕ) (budget work size : ℕ) where
  -- the run's answer, with a work area of `work` numbers and a journal buffer of `size` bytes
  abbrev pub ran : Answer
  ran = run_answer table script budget work size

  -- the furthest line read
  abbrev pub reach : ℕ
  reach = answer_furthest ran

  -- the globals that stand at its end
  abbrev pub stands : Carried
  stands = standing table script budget size

  -- what holds of every accepted run, however it ends
  pub record Demand3 : Type 0 where
    -- the old side of the journal is exactly the table
    pub old : old_side (answer_records ran) ≡ lines_of table
    pub old-bytes : lines_bytes (old_side (answer_records ran)) ≡ table
    -- the journal is arranged: to arrange it changes nothing
    pub arranged : arrange (answer_records ran) ≡ answer_records ran
    -- no source line beyond the furthest line read is marked other than kept; or, where the run is done, other than the globals that stand at its end leave it
    pub after : LeftAfter reach stands (lines_of table) ran
    -- Lines that are not read change nothing: an accepted table that agrees with this one up to the furthest line read has the same end and
    -- the same journal up to that line, and after it only its own lines, kept or as the same globals leave them. The work area and the journal buffer may be
    -- others, if neither run stops on a full journal or among its unread lines.
    pub agreeing : (table₂ : List ℕ) (work₂ size₂ : ℕ)
        → let ran₂ = run_answer table₂ script budget work₂ size₂ in
        IsAccepted ran₂
        → Agree reach (lines_of table) (lines_of table₂)
        → IsCompared script ran → IsCompared script ran₂
        → SameUpTo reach ran ran₂ × LeftAfter reach stands (lines_of table₂) ran₂
    -- the journal's bytes, read as a journal (number 11), are its records
    pub reads_back : records_of (journal_bytes (answer_records ran)) ≡ some (answer_records ran)
    -- the journal's bytes fit its buffer
    pub fits : length (journal_bytes (answer_records ran)) ≤ size
    -- the buffer afterwards is the journal's bytes, then zeros
    pub bytes : (buffer : List ℕ) → length buffer ≡ size
        → buffer_after buffer ran ≡ journal_bytes (answer_records ran) ++ replicate (size - length (journal_bytes (answer_records ran))) 0

-- DEMAND 3: all this of every run that is not refused
abbrev pub DemandThree : Type 0
DemandThree = (table script : List ℕ) (budget work size : ℕ) → IsAccepted (run_answer table script budget work size) → Demand3 table script budget work size
