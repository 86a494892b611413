use mathlib.Core.Path.{◌≡◌}
use Prim.Native.Nat.{◌+◌, ◌-◌, ◌*◌, ◌≤◌}
use Rattle.inserts.specs.Lines.{room_of}
use Rattle.inserts.proofs.lines_room.Given as goal

abbrev pub invariant-loop-at : goal.invariant-loop-at
invariant-loop-at l = (l.room + room_of l.s l.at l.end ≡ room_of l.s l.start l.end) × (l.room ≤ 3 * l.at)

abbrev pub decreases-loop-at : goal.decreases-loop-at
decreases-loop-at l = l.end - l.at
