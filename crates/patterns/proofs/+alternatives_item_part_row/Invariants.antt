-- `patterns::alternatives`, `patterns::item`, `patterns::part` and `patterns::row`, which call each other, meet their contracts. Assumes nothing.
use Prim.Native.Nat.{◌+◌, ◌-◌, ◌*◌}
use lib.ListN.{length}
use Rattle.definitions.specs.Patterns.{read_alternatives, read_row}
use Rattle.patterns.proofs.Rows.{Onward}
use Rattle.patterns.proofs.+alternatives_item_part_row.Given as goal

abbrev pub decreases-alternatives : goal.decreases-alternatives
decreases-alternatives l = 4 * (length l.s.now - l.at) + 3

abbrev pub decreases-item : goal.decreases-item
decreases-item l = 4 * (length l.s.now - l.at) + 1

abbrev pub decreases-part : goal.decreases-part
decreases-part l = 4 * (length l.s.now - l.at)

abbrev pub decreases-row : goal.decreases-row
decreases-row l = 4 * (length l.s.now - l.at) + 2

abbrev pub invariant-alternatives-loop-one : goal.invariant-alternatives-loop-one
invariant-alternatives-loop-one l = Onward l.s 4 (λ n c. read_alternatives n l.deep c) l.at l.i l.blank

abbrev pub decreases-alternatives-loop-one : goal.decreases-alternatives-loop-one
decreases-alternatives-loop-one l = length l.s - l.i

abbrev pub invariant-row-loop-at : goal.invariant-row-loop-at
invariant-row-loop-at l = Onward l.s 3 (λ n c. read_row n l.deep c) l.at l.i l.blank

abbrev pub decreases-row-loop-at : goal.decreases-row-loop-at
decreases-row-loop-at l = length l.s - l.i
