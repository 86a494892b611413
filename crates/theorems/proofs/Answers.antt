-- The answer of a run that is not refused: it is a run of the script's items over the table's lines, and its journal is that of the last state, or of that state with
-- the other lines read too.
use Rattle.std.specs.Prelude.{◌≡◌, Bool, cond, List, length, leb}
use Rattle.std.proofs.Math.Path.{refl}
use Rattle.std.proofs.Math.Bool.{true, false}
use Rattle.std.proofs.Common.{append-nil}
use Prim.Native.Nat.{ℕ, zero, suc}
use Rattle.definitions.specs.Bytes.{Line, lines_of}
use Rattle.definitions.specs.Table.{is_table, is_script}
use Rattle.definitions.specs.Journal.{Record}
use Rattle.definitions.specs.Arranging.{arrange}
use Rattle.definitions.specs.Tape.{Tape, unread, ended, rest_lines}
use Rattle.definitions.specs.Given.{Given, given, bytes, Carried}
use Rattle.definitions.specs.Editor.{Ed, records, journal, eof}
use Rattle.definitions.specs.Reading.{Ran, gave, stopped, read_to}
use Rattle.definitions.specs.StepProgram.{RunState, state, text_of}
use Rattle.definitions.specs.Edit.{step}
use Rattle.definitions.specs.Control.{Item}
use Rattle.definitions.specs.Script.{Script, items, refused_at, read_script}
use Rattle.definitions.specs.Run.{End, end, run_items, Answer, answer, refusal, rest_passed, in_run_order, arranged, answer_of, ran_items, opening_length, work_length, ran_table, ran_script, run_answer, answer_records}
use Rattle.theorems.specs.Reading.{At}
use Rattle.theorems.specs.ComesTo.{Keeping}
use Rattle.theorems.specs.Runs.{AtEnd}
use Rattle.theorems.proofs.Rest.{AllRead, rest_read}

-- what holds of the journal of an answer, if the run is not refused
abbrev pub Shown : (List Record → Type 0) → Answer → Type 0
Shown P (answer n steps f at j) = P j
Shown P (refusal n at) = Unit {0}

-- `I` holds at the run's end, and reading the lines that are left keeps it, and `P` of the journal, arranging too; then `P` holds of the run's journal
module _ (I : RunState → Tape → Type 0) (P : List Record → Type 0) (shows : (s : RunState) (t : Tape) → I s t → P (journal (text_of s) t)) (stays : (rs : List Record) → P rs → P (arrange rs)) (g : Given)
    (reads : (e : Ed) (c : Carried) (t : Tape) → I (state e c) t → At (Keeping (λ e' t'. I (state e' c) t')) (read_to g c eof e t)) where
  rest-shown : (place steps : ℕ) (e : Ed) (c : Carried) (t : Tape) → I (state e c) t → (r : Ran (Unit {0})) (t' : Tape) → AllRead r t' → Keeping (λ e' u. I (state e' c) u) r t'
      → Shown P (arranged (rest_passed steps place e t r))
  unfolding rest_passed arranged
  rest-shown place steps e c t i (gave u all) t' q h = stays (records all) (by t' q (shows (state all c) t' h))
    where
      by : (u : Tape) → u ≡ ended → P (journal (text_of (state all c)) u) → P (records all)
      by u p k = unfold journal text_of rest_lines in (rw (append-nil (records all)) at (rw p at k))
  rest-shown place steps e c t i (stopped n e') t' q h = stays (journal e t) (unfold text_of in (shows (state e c) t i))

  end-shown : (place : ℕ) (x : End) (t : Tape) → AtEnd I x t → Shown P (answer_of g place x t)
  unfolding answer_of in_run_order arranged
  end-shown place (end zero steps at (state e c)) t h = unfold arranged in (rest-shown place steps e c t h (read_to g c eof e t).0 (read_to g c eof e t).1 (rest_read g c e t) (reads e c t h))
  end-shown place (end (suc n) steps at s) t h = stays (journal (text_of s) t) (shows s t h)

  pub ran-shown : (place budget : ℕ) (is : List Item) (ls : List Line)
      → AtEnd I (run_items (step g) budget is (unread ls)).0 (run_items (step g) budget is (unread ls)).1 → Shown P (ran_items g place budget is ls)
  unfolding ran_items
  ran-shown place budget is ls h = end-shown place (run_items (step g) budget is (unread ls)).0 (run_items (step g) budget is (unread ls)).1 h

-- what holds of the run over the table's lines, for the items that the script is read as, holds of the answer
module _ (P : List Record → Type 0) (table script : List ℕ) (budget size : ℕ) where
  table-shown : (is : List Item) → Shown P (ran_items (given (bytes size)) (length script) budget is (lines_of table)) → Shown P (ran_table table (length script) budget size is)
  unfolding ran_table
  table-shown is h = by (leb (opening_length (lines_of table)) size)
    where
      by : (c : Bool) → Shown P (cond c (ran_items (given (bytes size)) (length script) budget is (lines_of table)) (refusal 9 0))
      by true = h
      by false = tt

  script-shown : (s : Script) → ((is : List Item) → s ≡ items is → is_table table ≡ true → Shown P (ran_items (given (bytes size)) (length script) budget is (lines_of table)))
      → Shown P (ran_script table (length script) budget size s)
  unfolding ran_script
  script-shown (items is) h = by (is_table table) refl
    where
      by : (c : Bool) → is_table table ≡ c → Shown P (cond c (ran_table table (length script) budget size is) (refusal 7 0))
      by true e = table-shown is (h is refl e)
      by false e = tt
  script-shown (refused_at n at) h = tt

  pub run-shown : (work : ℕ)
      → (is_script script ≡ true → (is : List Item) → read_script script ≡ items is → is_table table ≡ true → Shown P (ran_items (given (bytes size)) (length script) budget is (lines_of table)))
      → Shown P (run_answer table script budget work size)
  unfolding run_answer
  run-shown work h = by (is_script script) (leb (work_length script) work) refl
    where
      by : (c d : Bool) → is_script script ≡ c → Shown P (cond c (cond d (ran_script table (length script) budget size (read_script script)) (refusal 8 0)) (refusal 1 0))
      by true true e = script-shown (read_script script) (h e)
      by true false e = tt
      by false d e = tt

-- what holds of an answer's records
pub shown-records : (P : List Record → Type 0) (a : Answer) → P (answer_records a) → Shown P a
unfolding answer_records
shown-records P (answer n steps f at j) h = h
shown-records P (refusal n at) h = tt

-- two statements on the same journal
pub shown-both : (P Q R : List Record → Type 0) → ((j : List Record) → P j → Q j → R j) → (a : Answer) → Shown P a → Shown Q a → Shown R a
shown-both P Q R f (answer n steps g at j) h k = f j h k
shown-both P Q R f (refusal n at) h k = tt
