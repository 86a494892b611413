-- `rows::line_with` meets its contract. The loop's invariant: the next such line after place i is the one from `at` on. Assumes nothing.
use mathlib.Core.Path.{◌≡◌}
use mathlib.Core.Bool.{true, false}
use Prim.Native.Nat.{◌-◌, ◌≤◌}
use lib.ListN.{length}
use lib.Dec.{eqb}
use Rattle.rows.proofs.Places.{next_from}
use Rattle.rows.proofs.line_with.Given as goal

abbrev pub invariant-loop-i : goal.invariant-loop-i
invariant-loop-i l = (l.i ≤ length l.s) × (next_from (λ b. eqb b l.c) true l.s l.at ≡ next_from (λ b. eqb b l.c) false l.s l.i)

abbrev pub decreases-loop-i : goal.decreases-loop-i
decreases-loop-i l = length l.s - l.i
