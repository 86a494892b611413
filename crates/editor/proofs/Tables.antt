-- The journal stays one of its table, whatever the step. Assumes nothing.
use mathlib.Core.Path.{◌≡◌, refl, sym, ap, ◌∙◌}
use mathlib.Core.Bool.{true}
use mathlib.Core.List.{List, ◌++◌}
use Prim.Native.Nat.{ℕ}
use lib.ListN.{length}
use Rattle.definitions.specs.Bytes.{Line, lines_of}
use Rattle.definitions.specs.Table.{is_table}
use Rattle.definitions.specs.Tape.{Tape, unread, rest_lines}
use Rattle.definitions.specs.Given.{given, bytes}
use Rattle.definitions.specs.Editor.{Ed}
use Rattle.definitions.specs.Reading.{opening}
use Rattle.definitions.specs.StepProgram.{RunState, state, text_of, Out, on, edited, halt}
use Rattle.definitions.specs.Edit.{Op, step}
use Rattle.theorems.specs.OldSide.{old_ed, journal-old}
use Rattle.theorems.specs.Step.{old_state, old_out, step-faithful, opening-faithful}
use Rattle.editor.specs.Shows.{lent}
use Rattle.editor.specs.Current.{TableOf, TableOut, TableOutcome}

table_of : (table : List ℕ) (e : Ed) (t : Tape) → is_table table ≡ true → old_ed e ++ rest_lines t ≡ lines_of table → TableOf table e t
table_of table e t good q = record { is = good; old = journal-old e t ∙ q }

state-old : (s : RunState) → old_state s ≡ old_ed (text_of s)
unfolding old_state text_of
state-old (state e c) = refl

table-out : (table : List ℕ) (o : Out) (t : Tape) → is_table table ≡ true → old_out o ++ rest_lines t ≡ lines_of table → TableOut table o t
unfolding old_out
table-out table (on b s) t good q = table_of table (text_of s) t good (rw (state-old s) at q)
table-out table (edited s) t good q = table_of table (text_of s) t good (rw (state-old s) at q)
table-out table (halt n s) t good q = table_of table (text_of s) t good (rw (state-old s) at q)

-- THE LAW: every step keeps the table
pub keeps-table : (table j : List ℕ) (op : Op) (s : RunState) (t : Tape) → TableOf table (text_of s) t → TableOutcome table (step (lent j) op s t)
unfolding lent
keeps-table table j op s t h =
    let x : Out × Tape = step (given (bytes (length j))) op s t in
    table-out table x.0 x.1 h.is ((step-faithful (length j) op s).keeps t ∙ ap (λ (ls : List Line). ls ++ rest_lines t) (state-old s) ∙ sym (journal-old (text_of s) t) ∙ h.old)

-- a run begins with it
pub opens-table : (table : List ℕ) → is_table table ≡ true → TableOf table (opening (unread (lines_of table))).0 (opening (unread (lines_of table))).1
unfolding rest_lines
opens-table table good =
    let x : Ed × Tape = opening (unread (lines_of table)) in
    table_of table x.0 x.1 good (opening-faithful.keeps (unread (lines_of table)))
