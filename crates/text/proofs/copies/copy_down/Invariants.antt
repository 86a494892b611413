-- `text::copies::copy_down` meets its contract. The loop's invariant: the first i bytes are copied. Assumes nothing.
use Rattle.std.proofs.Common.{◌≡◌, ◌-◌, ◌≤◌, length, drop}
use lib.Seq.{paste}
use Rattle.text.proofs.copies.copy_down.Given as goal

abbrev pub invariant-loop-i : goal.invariant-loop-i
invariant-loop-i l = (l.i ≤ l.n) × (l.d ≡ paste l.initial.d l.at (drop l.from l.initial.d) l.i) × (length l.d ≡ length l.initial.d)

abbrev pub decreases-loop-i : goal.decreases-loop-i
decreases-loop-i l = l.n - l.i
