-- Demand 3 of the code: what a caller of `run` sees, the answer's values and the bytes of the journal buffer. One statement, with the terms of document 01
-- ("Tables and the journal", from "In demand 3") and of document 02, wishes 2 and 6.
use Rattle.std.specs.Prelude.{◌≡◌, List, ℕ, ◌-◌, ◌≤◌, length, take, drop, replicate}
use Rattle.std.proofs.Math.Option.{some}
use Rattle.definitions.specs.Bytes.{lines_of, lines_bytes}
use Rattle.definitions.specs.Journal.{Record, old_side, up_to_line, after_line, records_of}
use Rattle.definitions.specs.Arranging.{arrange}
use Rattle.definitions.specs.Given.{Carried}
use Rattle.theorems.specs.Each.{Each}
use Rattle.theorems.specs.Demand3.{Agree, Passes, unread_as, standing}
use Rattle.run.specs.Answers.{values_of, Ran}
use Rattle.run.specs.declared.Answer.{Answer}
use Rattle.run.specs.declared.Answer.TheVariants.{Done, Stopped, Refused}

-- ---- the terms. `Agree`, and what the standing globals leave of a line, are the definitions' (theorems, Demand3): "Two tables agree up to a line if both have that
-- source line and no line up to it, itself included, differs"

-- "a table, script, budget, work area and journal buffer together" are accepted "if their run is not refused"
unfoldable pub Accepted : Answer → Type 0
Accepted (Done steps furthest length) = Unit {0}
Accepted (Stopped number steps furthest length place) = Unit {0}
Accepted (Refused number place) = ⊥

-- "A journal is a list of records": the buffer's first bytes, so many as the answer says, are the journal j
abbrev pub JournalIs : Answer → List ℕ → List Record → Type 0
JournalIs r bytes j = records_of (take (values_of r).length bytes) ≡ some j

-- The calls that are compared: "Stopping on a full journal is 26", and a run may not stop with 25 or 26 "among its unread lines after the script's end", with the
-- script's length as place (W2.13)
pub record Compared (script : List ℕ) (r : Answer) : Type 0 where
  pub not_full : (values_of r).number ≡ 26 → ⊥
  pub not_after : (values_of r).number ≡ 25 → (values_of r).place ≡ length script → ⊥

-- two calls that do not differ up to source line f: number, place, steps, furthest line, and "the journal up to a line"
pub record SameUpTo (f : ℕ) (r : Answer) (j : List Record) (r₂ : Answer) (j₂ : List Record) : Type 0 where
  pub number : (values_of r₂).number ≡ (values_of r).number
  pub place : (values_of r₂).place ≡ (values_of r).place
  pub steps : (values_of r₂).steps ≡ (values_of r).steps
  pub furthest : (values_of r₂).furthest ≡ (values_of r).furthest
  pub journal : up_to_line f j₂ ≡ up_to_line f j

-- What follows the journal up to source line f: the table's lines after line f, each once and in order, and nothing else. They are kept where the run stopped; where it
-- is done, each is as the globals c leave it, which stop on none.
pub record LeftAfter (f : ℕ) (c : Carried) (table : List ℕ) (r : Answer) (j : List Record) : Type 0 where
  pub rest : after_line f j ≡ unread_as (values_of r).number c (drop f (lines_of table))
  pub passed : (values_of r).number ≡ 0 → Each (Passes c) (drop f (lines_of table))

-- ---- the statement

-- what holds of a call of `run` that answers r and leaves `bytes` in the journal buffer
pub record Demand3 (table script : List ℕ) (budget : ℕ) (buffer : List ℕ) (r : Answer) (bytes : List ℕ) : Type 0 where
  -- the buffer begins with a journal
  pub journal : List Record
  pub read : JournalIs r bytes journal
  pub fits : (values_of r).length ≤ length buffer
  -- "After a run that is not refused, the journal buffer's bytes past the journal are 0"
  pub past : drop (values_of r).length bytes ≡ replicate (length buffer - (values_of r).length) 0
  -- the old side of the journal is exactly the table, line by line and byte by byte
  pub old : old_side journal ≡ lines_of table
  pub old-bytes : lines_bytes (old_side journal) ≡ table
  -- the journal is arranged (wish 6): to arrange it changes nothing
  pub arranged : arrange journal ≡ journal
  -- no source line beyond the furthest line read is marked other than kept; or, where the run is done, other than the globals that stand at its end leave it
  pub after : LeftAfter (values_of r).furthest (standing table script budget (length buffer)) table r journal
  -- Any other accepted call with a table that agrees with this one up to the furthest line read, the same script and budget, any work area and any journal
  -- buffer, has the same end and the same journal up to that line, and after it only its own lines, kept or as the same globals leave them; if neither run stops on
  -- a full journal or among its unread lines.
  pub agreeing : (table₂ : List ℕ) (work₂ : ℕ) (buffer₂ : List ℕ) (r₂ : Answer) (bytes₂ : List ℕ) (journal₂ : List Record)
      → Ran table₂ script budget work₂ buffer₂ r₂ bytes₂ → Accepted r₂ → JournalIs r₂ bytes₂ journal₂
      → Agree (values_of r).furthest (lines_of table) (lines_of table₂) → Compared script r → Compared script r₂
      → SameUpTo (values_of r).furthest r journal r₂ journal₂
      × LeftAfter (values_of r).furthest (standing table script budget (length buffer)) table₂ r₂ journal₂

-- DEMAND 3 of `run`: all this of every call, by its contract `Ran`, that is not refused
abbrev pub DemandThree : Type 0
DemandThree =
    (table script : List ℕ) (budget work : ℕ) (buffer : List ℕ) (r : Answer) (bytes : List ℕ)
    → Ran table script budget work buffer r bytes → Accepted r → Demand3 table script budget buffer r bytes
