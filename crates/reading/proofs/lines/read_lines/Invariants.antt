use mathlib.Core.Path.{◌≡◌}
use mathlib.Core.List.{List}
use Prim.Native.Nat.{◌-◌}
use lib.ListN.{length}
use Rattle.definitions.specs.Bytes.{Line}
use Rattle.definitions.specs.Tape.{unread}
use Rattle.definitions.specs.Given.{Carried}
use Rattle.definitions.specs.Editor.{Ed}
use Rattle.definitions.specs.Reading.{read_lines}
use Rattle.editor.specs.Shows.{lent}
use Rattle.globals.specs.Standing.{Standing}
use Rattle.reading.specs.Lines.{HoldsUnread}
use Rattle.reading.proofs.Going.{Going}
use Rattle.reading.proofs.lines.read_lines.Given as goal

abbrev pub invariant-loop-s : goal.invariant-loop-s
invariant-loop-s l =
    ((e : Ed) (c : Carried) (ls : List Line) → Standing l.script l.w c → HoldsUnread l.initial.j l.initial.s e ls → Going (lent l.initial.j) c l.last l.j l.s (read_lines (lent l.initial.j) c (l.last - l.initial.s.past) e (unread ls)))
    × (length l.j ≡ length l.initial.j)

abbrev pub decreases-loop-s : goal.decreases-loop-s
decreases-loop-s l = l.last - l.s.past
