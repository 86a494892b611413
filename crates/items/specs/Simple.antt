-- Simple commands in the work area.
use Rattle.std.specs.Prelude.{◌≡◌, true, false, cond, List, ℕ, ◌≤◌, length, eqb}
use Rattle.definitions.specs.Table.{is_script}
use Rattle.definitions.specs.Edit.{Op, quit, next_line, previous_line, copy, cancel_globals, point_start, right, left, cut_byte, recase}
use Rattle.theorems.specs.GoodItems.{good_op}
use Rattle.items.specs.Kinds.{quit_kind, next_kind, previous_kind, copy_kind, point_start_kind, right_kind, left_kind, cut_byte_kind, lower_kind, cancel_kind}
use Rattle.items.specs.Words.{OpAt}

-- the command of one word, by its kind: on bytes of the current line; on lines, and those; all
unfoldable pub byte_op : ℕ → Op
byte_op kind =
    cond (eqb kind point_start_kind) point_start
    (cond (eqb kind right_kind) right
    (cond (eqb kind left_kind) left
    (cond (eqb kind cut_byte_kind) cut_byte
    (cond (eqb kind lower_kind) (recase false) (recase true)))))

unfoldable pub line_op : ℕ → Op
line_op kind =
    cond (eqb kind quit_kind) quit
    (cond (eqb kind next_kind) next_line
    (cond (eqb kind previous_kind) previous_line
    (cond (eqb kind copy_kind) copy (byte_op kind))))

unfoldable pub word_op : ℕ → Op
word_op kind = cond (eqb kind cancel_kind) cancel_globals (line_op kind)

-- the words from k on hold the simple command `op` of the script
pub record CommandAt (script w : List ℕ) (k : ℕ) (op : Op) : Type 0 where
  pub form : is_script script ≡ true
  pub end : ℕ
  pub place : ℕ
  pub words : OpAt script w k end place op
  pub inside : end ≤ length w
  pub good : good_op op ≡ true
