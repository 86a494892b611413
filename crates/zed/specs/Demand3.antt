-- Demand 3 of `zed_run`, which C programs call: its result, the five numbers in `answer`, and the bytes of the journal buffer. One statement, with the terms
-- of document 01 ("Tables and the journal", from "In demand 3") and of document 02, wishes 2, 6 and 8.
use Rattle.std.specs.Prelude.{◌≡◌, ◌⊎◌, List, ℕ, ◌-◌, ◌≤◌, length, get_or, take, drop, replicate}
use Rattle.std.proofs.Math.Option.{some}
use Rattle.definitions.specs.Bytes.{lines_of, lines_bytes}
use Rattle.definitions.specs.Journal.{Record, old_side, up_to_line, after_line, records_of}
use Rattle.definitions.specs.Arranging.{arrange}
use Rattle.definitions.specs.Given.{Carried}
use Rattle.definitions.specs.Run.{Answer, answer_number, buffer_after}
use Rattle.theorems.specs.Each.{Each}
use Rattle.theorems.specs.Demand3.{Agree, Passes, unread_as, standing}
use Rattle.zed.specs.Values.{values, run_of}

-- ---- the terms. `Agree`, and what the standing globals leave of a line, are the definitions' (theorems, Demand3): "Two tables agree up to a line if both have that
-- source line and no line up to it, itself included, differs"

-- a call of `zed_run` that has returned: what was lent (`buffer` is the journal buffer before the call), the result, and what stands afterwards in `answer` and
-- in the journal buffer
pub record Call : Type 0 where
  pub table : List ℕ
  pub script : List ℕ
  pub budget : ℕ
  pub work : List ℕ
  pub buffer : List ℕ
  pub result : ℕ
  pub answer : List ℕ
  pub journal : List ℕ

-- the definitions' answer
abbrev pub ran : Call → Answer
ran c = run_of c.table c.script c.budget c.work c.buffer

-- what is known of a call: the contract of `zed_run`, its three `ensures`
pub record Returned (c : Call) : Type 0 where
  pub number : c.result ≡ answer_number (ran c)
  pub answers : c.answer ≡ values (ran c)
  pub journals : c.journal ≡ buffer_after c.buffer (ran c)

-- answer[0] to answer[4]
abbrev pub number : Call → ℕ
number c = get_or c.answer 0 0

abbrev pub steps : Call → ℕ
steps c = get_or c.answer 1 0

abbrev pub furthest : Call → ℕ
furthest c = get_or c.answer 2 0

abbrev pub long : Call → ℕ
long c = get_or c.answer 3 0

abbrev pub place : Call → ℕ
place c = get_or c.answer 4 0

-- "a table, script, budget, work area and journal buffer together" are accepted "if their run is not refused": the number is 0, or 20 to 31
abbrev pub Accepted : Call → Type 0
Accepted c = (number c ≡ 0) ⊎ ((20 ≤ number c) × (number c ≤ 31))

-- "Refused: the journal buffer is untouched; steps, furthest and length are 0": the number is 1 to 9, 33 or 34 (document 02, wishes 8 and 9)
pub record Refused (c : Call) : Type 0 where
  pub refusal : ((1 ≤ number c) × (number c ≤ 9)) ⊎ ((33 ≤ number c) × (number c ≤ 34))
  pub no_steps : steps c ≡ 0
  pub nothing_read : furthest c ≡ 0
  pub no_journal : long c ≡ 0
  pub untouched : c.journal ≡ c.buffer

-- "A journal is a list of records": the first answer[3] bytes of the buffer are the journal j
abbrev pub JournalIs : Call → List Record → Type 0
JournalIs c j = records_of (take (long c) c.journal) ≡ some j

-- the globals that stand at the run's end
abbrev pub stands : Call → Carried
stands c = standing c.table c.script c.budget (length c.buffer)

-- The calls that are compared: "Stopping on a full journal is 26", and a run may not stop with 25 or 26 "among its unread lines after the script's end", with the
-- script's length as place (W2.13)
pub record Compared (c : Call) : Type 0 where
  pub not_full : number c ≡ 26 → ⊥
  pub not_after : number c ≡ 25 → place c ≡ length c.script → ⊥

-- two calls that do not differ up to source line f: number, place, steps, furthest line, and "the journal up to a line"
pub record SameUpTo (f : ℕ) (c : Call) (j : List Record) (c₂ : Call) (j₂ : List Record) : Type 0 where
  pub same_number : number c₂ ≡ number c
  pub same_place : place c₂ ≡ place c
  pub same_steps : steps c₂ ≡ steps c
  pub same_furthest : furthest c₂ ≡ furthest c
  pub same_journal : up_to_line f j₂ ≡ up_to_line f j

-- What follows the journal up to source line f: the table's lines after line f, each once and in order, and nothing else. They are kept where the run stopped; where it
-- is done, each is as the globals z leave it, which stop on none.
pub record LeftAfter (f : ℕ) (z : Carried) (c : Call) (j : List Record) : Type 0 where
  pub rest : after_line f j ≡ unread_as (number c) z (drop f (lines_of c.table))
  pub passed : number c ≡ 0 → Each (Passes z) (drop f (lines_of c.table))

-- ---- the statement

-- what holds of an accepted call
pub record Demand3 (c : Call) : Type 0 where
  -- the result is answer[0]
  pub result_is : c.result ≡ number c
  -- the buffer begins with a journal of answer[3] bytes
  pub records : List Record
  pub read : JournalIs c records
  pub fits : long c ≤ length c.buffer
  -- "After a run that is not refused, the journal buffer's bytes past the journal are 0"
  pub past : drop (long c) c.journal ≡ replicate (length c.buffer - long c) 0
  -- the old side of the journal is exactly the table, line by line and byte by byte
  pub old : old_side records ≡ lines_of c.table
  pub old-bytes : lines_bytes (old_side records) ≡ c.table
  -- the journal is arranged (wish 6): to arrange it changes nothing
  pub arranged : arrange records ≡ records
  -- no source line beyond the furthest line read, answer[2], is marked other than kept; or, where the run is done, other than the globals that stand at its end
  -- leave it
  pub after : LeftAfter (furthest c) (stands c) c records
  -- Any other accepted call with a table that agrees with this one up to the furthest line read, the same script and budget, any work area and any journal
  -- buffer, has the same end and the same journal up to that line, and after it only its own lines, kept or as the same globals leave them; if neither run stops on
  -- a full journal or among its unread lines.
  pub agreeing : (c₂ : Call) (records₂ : List Record)
      → Returned c₂ → Accepted c₂ → JournalIs c₂ records₂
      → c₂.script ≡ c.script → c₂.budget ≡ c.budget
      → Agree (furthest c) (lines_of c.table) (lines_of c₂.table)
      → Compared c → Compared c₂
      → SameUpTo (furthest c) c records c₂ records₂ × LeftAfter (furthest c) (stands c) c₂ records₂

-- DEMAND 3 of `zed_run`: all this of every call that is accepted, by its number
abbrev pub DemandThree : Type 0
DemandThree = (c : Call) → Returned c → Accepted c → Demand3 c

-- and no number is left out: a call that is not accepted is refused
abbrev pub NumberTells : Type 0
NumberTells = (c : Call) → Returned c → Accepted c ⊎ Refused c
