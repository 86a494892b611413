-- `rows::lines_below` meets its contract. The loop's invariant: the lines from i on end where those from `at` on do. Assumes nothing.
use mathlib.Core.Path.{◌≡◌}
use mathlib.Core.Bool.{true}
use Prim.Native.Nat.{◌-◌, ◌≤◌}
use lib.ListN.{length}
use lib.Dec.{leb}
use Rattle.rows.proofs.Places.{next_from}
use Rattle.rows.proofs.lines_below.Given as goal

abbrev pub invariant-loop-i : goal.invariant-loop-i
invariant-loop-i l = (l.at ≤ l.i) × (l.i ≤ length l.s) × (next_from (λ b. leb l.limit b) true l.s l.at ≡ next_from (λ b. leb l.limit b) true l.s l.i)

abbrev pub decreases-loop-i : goal.decreases-loop-i
decreases-loop-i l = length l.s - l.i
