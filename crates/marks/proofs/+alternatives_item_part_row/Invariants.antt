-- `marks::alternatives`, `marks::item`, `marks::part` and `marks::row`, which call each other, meet their contracts. Assumes nothing.
use Prim.Native.Nat.{◌+◌, ◌-◌, ◌*◌}
use lib.ListN.{length}
use Rattle.marks.proofs.Looping.{AlternativesLoop, RowLoop}
use Rattle.marks.proofs.+alternatives_item_part_row.Given as goal

abbrev pub decreases-alternatives : goal.decreases-alternatives
decreases-alternatives l = 4 * (length l.s.now - l.f.at) + 3

abbrev pub decreases-item : goal.decreases-item
decreases-item l = 4 * (length l.s.now - l.f.at) + 1

abbrev pub decreases-part : goal.decreases-part
decreases-part l = 4 * (length l.s.now - l.f.at)

abbrev pub decreases-row : goal.decreases-row
decreases-row l = 4 * (length l.s.now - l.f.at) + 2

abbrev pub invariant-alternatives-loop-f : goal.invariant-alternatives-loop-f
invariant-alternatives-loop-f l = AlternativesLoop l.s l.b l.initial.marks l.f l.marks l.g

abbrev pub decreases-alternatives-loop-f : goal.decreases-alternatives-loop-f
decreases-alternatives-loop-f l = length l.s - l.g.at

abbrev pub invariant-row-loop-marks : goal.invariant-row-loop-marks
invariant-row-loop-marks l = RowLoop l.s l.b l.initial.marks l.initial.g l.marks l.g

abbrev pub decreases-row-loop-marks : goal.decreases-row-loop-marks
decreases-row-loop-marks l = length l.s - l.g.at
