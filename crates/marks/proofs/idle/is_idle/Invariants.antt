-- `marks::idle::is_idle` meets its contract. The loop's invariant: the marks are idle exactly if those that are left are. Assumes nothing.
use mathlib.Core.Path.{◌≡◌}
use lib.ListN.{drop}
use Rattle.marks.specs.Idling.{are_idle}
use Rattle.marks.proofs.idle.is_idle.Given as goal

abbrev pub invariant-loop-mark : goal.invariant-loop-mark
invariant-loop-mark l = are_idle l.mark-items ≡ are_idle (drop l.mark-index l.mark-items)
