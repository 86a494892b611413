-- `needs::alternatives`, `needs::item`, `needs::part` and `needs::row`, which call each other, meet their contracts. Assumes nothing.
use Prim.Native.Nat.{◌+◌, ◌-◌, ◌*◌}
use lib.ListN.{length}
use Rattle.needs.proofs.Looping.{AlternativesLoop, RowLoop}
use Rattle.needs.proofs.+alternatives_item_part_row.Given as goal

abbrev pub decreases-alternatives : goal.decreases-alternatives
decreases-alternatives l = 4 * (length l.s.now - l.at) + 3

abbrev pub decreases-item : goal.decreases-item
decreases-item l = 4 * (length l.s.now - l.at) + 1

abbrev pub decreases-part : goal.decreases-part
decreases-part l = 4 * (length l.s.now - l.at)

abbrev pub decreases-row : goal.decreases-row
decreases-row l = 4 * (length l.s.now - l.at) + 2

abbrev pub invariant-alternatives-loop-next : goal.invariant-alternatives-loop-next
invariant-alternatives-loop-next l = AlternativesLoop l.s l.at l.g

abbrev pub decreases-alternatives-loop-next : goal.decreases-alternatives-loop-next
decreases-alternatives-loop-next l = length l.s - l.g.at

abbrev pub invariant-row-loop-next : goal.invariant-row-loop-next
invariant-row-loop-next l = RowLoop l.s l.at l.g

abbrev pub decreases-row-loop-next : goal.decreases-row-loop-next
decreases-row-loop-next l = length l.s - l.g.at
