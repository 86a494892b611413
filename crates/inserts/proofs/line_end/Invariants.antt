use mathlib.Core.Path.{◌≡◌}
use Prim.Native.Nat.{◌+◌, ◌-◌, ◌≤◌}
use Rattle.items.specs.Words.{part_of}
use Rattle.inserts.specs.Lines.{feed_place}
use Rattle.inserts.proofs.line_end.Given as goal

abbrev pub invariant-loop-i : goal.invariant-loop-i
invariant-loop-i l = (l.i ≤ l.end) × (l.at + feed_place (part_of l.s l.at l.end) ≡ l.i + feed_place (part_of l.s l.i l.end))

abbrev pub decreases-loop-i : goal.decreases-loop-i
decreases-loop-i l = l.end - l.i
