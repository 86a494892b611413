-- `scans::past_long` meets its contract. The loop's invariant: the run from place i ends where the one from the start does. Assumes nothing.
use mathlib.Core.Path.{◌≡◌}
use Prim.Native.Nat.{◌-◌, ◌≤◌}
use Rattle.scans.specs.Leading.{is_of}
use Rattle.scans.proofs.Runs.{reach}
use Rattle.scans.proofs.past_long.Given as goal

abbrev pub invariant-loop-i : goal.invariant-loop-i
invariant-loop-i l = (l.at ≤ l.i) × (l.i ≤ l.end) × (reach (is_of l.kind) l.s l.at l.end ≡ reach (is_of l.kind) l.s l.i l.end)

abbrev pub decreases-loop-i : goal.decreases-loop-i
decreases-loop-i l = l.end - l.i
