-- `text::feeds::place_after` meets its contract. The loop's invariant: the next c from i on is the next from `at` on. Assumes nothing.
use Rattle.std.proofs.Common.{◌≡◌, ◌+◌, ◌-◌, ◌≤◌, length, drop}
use Rattle.text.specs.Feeds.{place_of}
use Rattle.text.proofs.feeds.place_after.Given as goal

abbrev pub invariant-loop-i : goal.invariant-loop-i
invariant-loop-i l = (l.i ≤ length l.s) × (l.at + place_of l.c (drop l.at l.s) ≡ l.i + place_of l.c (drop l.i l.s))

abbrev pub decreases-loop-i : goal.decreases-loop-i
decreases-loop-i l = length l.s - l.i
