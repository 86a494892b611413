-- The form of a table and of a script (document 01, "Tables and the journal" and "Script text"; numbers 7 and 1).
use Rattle.std.specs.Prelude.{Bool, ◌&&◌, List, ℕ, length, leb}
use Rattle.definitions.specs.Bytes.{lines_of, are_lines}

-- "at most 65,535 lines. Zero bytes is a table of no lines." Any other bytes are malformed (7)
unfoldable pub is_table : List ℕ → Bool
is_table t = are_lines t && leb (length (lines_of t)) 65535

-- "At most 16,384 bytes, in lines as in a table": else 1
unfoldable pub is_script : List ℕ → Bool
is_script s = leb (length s) 16384 && are_lines s
