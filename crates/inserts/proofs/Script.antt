-- What a script's layout says of its lines is what the functions ask. Assumes nothing.
use mathlib.Core.Path.{◌≡◌}
use mathlib.Core.Bool.{true}
use mathlib.Core.List.{List}
use Prim.Native.Nat.{ℕ}
use Rattle.definitions.specs.Bytes.{Line, all_lines}
use Rattle.definitions.specs.Table.{is_script}
use Rattle.strings.proofs.Lines.{script-short}
use Rattle.items.specs.Words.{LinesIn}
use Rattle.inserts.specs.Lines.{Insertable}

-- the lines of I and R
pub insertable : {s : List ℕ} {start end : ℕ} {ls : List Line} → is_script s ≡ true → LinesIn s start end ls → all_lines ls ≡ true → Insertable s start end
insertable {s} h w good = record { inside = w.inside; small = script-short s h; good = rw w.is at good }
