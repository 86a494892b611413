-- Laws of a script's lines: no string that can be read in a script is longer than a line. Assumes nothing.
use mathlib.Core.Path.{◌≡◌}
use mathlib.Core.Bool.{true}
use mathlib.Core.List.{List}
use Prim.Native.Nat.{ℕ, ◌≤◌}
use lib.Dec.{leb}
use lib.ListN.{length, drop}
use borrow.Author.Tests.{leb-true}
use Rattle.definitions.specs.Bytes.{all_text, is_line, are_lines}
use Rattle.definitions.specs.Table.{is_script}
use Rattle.definitions.specs.Reader.{string_up_to, string_next}
use Rattle.theorems.specs.Lines.{and_left, and_right, lines-drop, script-lines, string-line}
use Rattle.strings.specs.Answers.{Short}

pub strings-short : (s : List ℕ) → is_script s ≡ true → Short s
unfolding string_next is_line
strings-short s e d i =
    let l = string_up_to d (drop i s) in
    leb-true (length l) 255 (and_right (all_text l) (leb (length l) 255) (string-line d (drop i s) (lines-drop i s (script-lines s e))))

pub script-short : (s : List ℕ) → is_script s ≡ true → length s ≤ 16384
unfolding is_script
script-short s e = leb-true (length s) 16384 (and_left (leb (length s) 16384) (are_lines s) e)
