-- `turning::put_row` meets its contract. The loop's invariant is `Writes`. Assumes nothing.
use mathlib.Core.Path.{◌≡◌}
use Prim.Native.Nat.{◌-◌}
use lib.ListN.{length}
use Rattle.turning.proofs.Walks.{Writes}
use Rattle.turning.proofs.put_row.Given as goal

abbrev pub invariant-loop-at : goal.invariant-loop-at
invariant-loop-at l = (length l.dest ≡ length l.initial.dest) × Writes l.b l.c l.j l.initial.dest l.initial.at l.initial.next l.at l.next l.dest

abbrev pub decreases-loop-at : goal.decreases-loop-at
decreases-loop-at l = length l.j - l.at
