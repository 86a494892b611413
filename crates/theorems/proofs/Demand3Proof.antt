-- Demand 3 proved: what holds of the script's items holds of the answer to its bytes.
use Rattle.std.specs.Prelude.{◌≡◌, refl, List, ◌++◌, ℕ, ◌-◌, ◌≤◌, length, drop, replicate}
use Rattle.std.proofs.Common.{sym, ap, ◌∙◌}
use Rattle.definitions.specs.Bytes.{Line, lines_of, lines_bytes}
use Rattle.definitions.specs.Journal.{Record, old_side, up_to_line, journal_bytes}
use Rattle.definitions.specs.Arranging.{arrange}
use Rattle.definitions.specs.Given.{given, bytes, Carried}
use Rattle.definitions.specs.Control.{Item}
use Rattle.definitions.specs.Script.{Script, items, refused_at, read_script}
use Rattle.definitions.specs.Run.{Answer, answer, refusal, ran_items, run_answer, answer_number, answer_furthest, answer_records, buffer_after}
use Rattle.theorems.specs.Demand3.{IsAccepted, IsCompared, Agree, SameUpTo, unread_as, LeftAfter, standing_of, standing, Demand3, DemandThree}
use Rattle.theorems.specs.Accepted.{ran-accepted, no-refusal, is-table, has_room}
use Rattle.theorems.specs.RecordLaws.{up_to-after}
use Rattle.theorems.proofs.Demand3Items.{items-old, items-arranged, items-after, items-same}
use Rattle.theorems.proofs.Fits.{journal-append, items-fit}
use Rattle.theorems.specs.JournalBytes.{journal-length, table-reads-back}
use Rattle.theorems.proofs.Answers.{Shown}
use Rattle.theorems.proofs.RunReadsBack.{ReadsBack, run-reads-back}

-- all of the buffer's bytes after an accepted run
answer-bytes : (a : Answer) → IsAccepted a → (buffer : List ℕ) (size : ℕ) → length buffer ≡ size
    → buffer_after buffer a ≡ journal_bytes (answer_records a) ++ replicate (size - length (journal_bytes (answer_records a))) 0
unfolding buffer_after answer_records IsAccepted
answer-bytes (answer n steps f at j) h buffer size e = rw (e, journal-length j)
answer-bytes (refusal n at) h buffer size e = absurd h

-- what follows the furthest line of a run that does not differ
same_after : (a b : Answer) (c c₂ : Carried) (lines : List Line) → SameUpTo (answer_furthest a) a b → c₂ ≡ c → LeftAfter (answer_furthest b) c₂ lines b → LeftAfter (answer_furthest a) c lines b
same_after a b c c₂ lines s e h = rw (s.furthest, e) at h

-- the records of an accepted run, read back from their bytes
answer_back : (a : Answer) → IsAccepted a → Shown ReadsBack a → ReadsBack (answer_records a)
unfolding IsAccepted answer_records
answer_back (answer n steps f at j) h k = k
answer_back (refusal n at) h k = absurd h

-- ---- accepted runs of a script that decodes to the items `is`

module _ (script : List ℕ) (budget : ℕ) (is : List Item) (e : read_script script ≡ items is) where
  of-items : (table : List ℕ) (work size : ℕ) → IsAccepted (run_answer table script budget work size)
      → run_answer table script budget work size ≡ ran_items (given (bytes size)) (length script) budget is (lines_of table)
  of-items table work size h = ran-accepted table script budget work size is e h

  old_of : (table : List ℕ) (work size : ℕ) → IsAccepted (run_answer table script budget work size)
      → old_side (answer_records (run_answer table script budget work size)) ≡ lines_of table
  old_of table work size h = rw (of-items table work size h) (items-old script budget is size (lines_of table))

  arranged-of : (table : List ℕ) (work size : ℕ) → IsAccepted (run_answer table script budget work size)
      → arrange (answer_records (run_answer table script budget work size)) ≡ answer_records (run_answer table script budget work size)
  arranged-of table work size h = rw (of-items table work size h) (items-arranged script budget is size (lines_of table))

  after-of : (table : List ℕ) (work size : ℕ) → IsAccepted (run_answer table script budget work size)
      → LeftAfter (answer_furthest (run_answer table script budget work size)) (standing table script budget size) (lines_of table) (run_answer table script budget work size)
  unfolding standing
  after-of table work size h = rw (of-items table work size h, e) (unfold standing_of in (items-after script budget is size (lines_of table)))

  same_of : (table table₂ : List ℕ) (work size work₂ size₂ : ℕ)
      → IsAccepted (run_answer table script budget work size) → IsAccepted (run_answer table₂ script budget work₂ size₂)
      → let ran = run_answer table script budget work size in
      let ran₂ = run_answer table₂ script budget work₂ size₂ in
      Agree (answer_furthest ran) (lines_of table) (lines_of table₂) → IsCompared script ran → IsCompared script ran₂
      → SameUpTo (answer_furthest ran) ran ran₂ × (standing table₂ script budget size₂ ≡ standing table script budget size)
  unfolding standing
  same_of table table₂ work size work₂ size₂ h h₂ =
      rw (of-items table work size h, of-items table₂ work₂ size₂ h₂, e) (unfold standing_of in (items-same script budget is size size₂ (lines_of table) (lines_of table₂)))

  fits-of : (table : List ℕ) (work size : ℕ) → IsAccepted (run_answer table script budget work size)
      → length (journal_bytes (answer_records (run_answer table script budget work size))) ≤ size
  fits-of table work size h =
      rw (journal-length (answer_records (run_answer table script budget work size)), of-items table work size h)
      (items-fit size (length script) budget is (lines_of table) (has_room table script budget work size is e h))

-- DEMAND 3
pub demand3 : DemandThree
demand3 table script budget work size h = by (read_script script) refl
  where
    by : (r : Script) → read_script script ≡ r → Demand3 table script budget work size
    by (refused_at n at) e = absurd (no-refusal table script budget work size n at e h)
    by (items is) e = record {
      old = old_of script budget is e table work size h;
      old-bytes = ap lines_bytes (old_of script budget is e table work size h) ∙ table-reads-back table (is-table table script budget work size is e h);
      arranged = arranged-of script budget is e table work size h;
      after = after-of script budget is e table work size h;
      agreeing = λ table₂ work₂ size₂ h₂ agree compared compared₂.
          let ran : Answer = run_answer table script budget work size in
          let ran₂ : Answer = run_answer table₂ script budget work₂ size₂ in
          let same : SameUpTo (answer_furthest ran) ran ran₂ × (standing table₂ script budget size₂ ≡ standing table script budget size) =
          same_of script budget is e table table₂ work size work₂ size₂ h h₂ agree compared compared₂ in
          (same.0, same_after ran ran₂ (standing table script budget size) (standing table₂ script budget size₂) (lines_of table₂) same.0 same.1 (after-of script budget is e table₂ work₂ size₂ h₂));
      reads_back = answer_back (run_answer table script budget work size) h (run-reads-back table script budget work size);
      fits = fits-of script budget is e table work size h;
      bytes = λ buffer. answer-bytes (run_answer table script budget work size) h buffer size;
    }

-- ---- the other table's journal in one equation

whole-journal : (f : ℕ) (c : Carried) (lines : List Line) (a b : Answer) → SameUpTo f a b → LeftAfter f c lines b
    → answer_records b ≡ up_to_line f (answer_records a) ++ unread_as (answer_number a) c (drop f lines)
whole-journal f c lines a b s k = sym (up_to-after f (answer_records b)) ∙ rw (s.journal, k.rest, s.number)

module _ (table script : List ℕ) (budget work size : ℕ) (table₂ : List ℕ) (work₂ size₂ : ℕ) where
  abbrev one : Answer
  one = run_answer table script budget work size

  abbrev two : Answer
  two = run_answer table₂ script budget work₂ size₂

  -- the records of the other table's lines after the furthest line
  abbrev rest₂ : List Record
  rest₂ = unread_as (answer_number one) (standing table script budget size) (drop (answer_furthest one) (lines_of table₂))

  -- the journal of an agreeing table: the first one's up to the furthest line read, then the other table's lines after it, kept or as the globals leave them
  pub agreeing-journal : IsAccepted one → IsAccepted two → Agree (answer_furthest one) (lines_of table) (lines_of table₂) → IsCompared script one → IsCompared script two
      → answer_records two ≡ up_to_line (answer_furthest one) (answer_records one) ++ rest₂
  agreeing-journal accepted accepted₂ agree h h₂ =
      let d : SameUpTo (answer_furthest one) one two × LeftAfter (answer_furthest one) (standing table script budget size) (lines_of table₂) two =
      (demand3 table script budget work size accepted).agreeing table₂ work₂ size₂ accepted₂ agree h h₂ in
      whole-journal (answer_furthest one) (standing table script budget size) (lines_of table₂) one two d.0 d.1

  -- and its bytes
  pub agreeing-bytes : IsAccepted one → IsAccepted two → Agree (answer_furthest one) (lines_of table) (lines_of table₂) → IsCompared script one → IsCompared script two
      → journal_bytes (answer_records two) ≡ journal_bytes (up_to_line (answer_furthest one) (answer_records one)) ++ journal_bytes rest₂
  agreeing-bytes accepted accepted₂ agree h h₂ =
      ap journal_bytes (agreeing-journal accepted accepted₂ agree h h₂) ∙ journal-append (up_to_line (answer_furthest one) (answer_records one)) rest₂
