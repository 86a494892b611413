use mathlib.Core.Path.{◌≡◌}
use Prim.Native.Nat.{◌-◌, ◌≤◌}
use Rattle.scans.specs.Leading.{is_of}
use Rattle.scans.proofs.Runs.{reach}
use Rattle.scans.proofs.past.Given as goal

abbrev pub invariant-loop-i : goal.invariant-loop-i
invariant-loop-i l = (l.at ≤ l.i) × (l.i ≤ l.end) × (reach (is_of l.kind) l.s l.at l.end ≡ reach (is_of l.kind) l.s l.i l.end)

abbrev pub decreases-loop-i : goal.decreases-loop-i
decreases-loop-i l = l.end - l.i
