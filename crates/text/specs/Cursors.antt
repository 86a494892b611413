-- A place among bytes, as the definitions' cursor.
use Rattle.std.specs.Prelude.{ℕ, List, drop}
use Rattle.definitions.specs.Reader.{Cursor, cursor}

abbrev pub cursor_at : List ℕ → ℕ → Cursor
cursor_at s i = cursor i (drop i s)
