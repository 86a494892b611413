-- `turning::turn_all` meets its contract. The loop's invariant is `Turning`. Assumes nothing.
use mathlib.Core.Path.{◌≡◌}
use Prim.Native.Nat.{◌-◌}
use lib.ListN.{length}
use Rattle.turning.proofs.Turning.{Turning}
use Rattle.turning.proofs.turn_all.Given as goal

abbrev pub invariant-loop-at : goal.invariant-loop-at
invariant-loop-at l = (length l.dest ≡ length l.initial.dest) × Turning l.j l.initial.dest l.at l.dest

abbrev pub decreases-loop-at : goal.decreases-loop-at
decreases-loop-at l = length l.j - l.at
