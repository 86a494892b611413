-- `text::copies::copy_up` meets its contract. The loop's invariant: the bytes behind the first `left` are copied. Assumes nothing.
use Rattle.std.proofs.Common.{◌≡◌, ◌+◌, ◌-◌, ◌≤◌, length, drop}
use lib.Seq.{paste}
use Rattle.text.proofs.copies.copy_up.Given as goal

abbrev pub invariant-loop-left : goal.invariant-loop-left
invariant-loop-left l = (l.left ≤ l.n) × (l.d ≡ paste l.initial.d (l.at + l.left) (drop (l.from + l.left) l.initial.d) (l.n - l.left)) × (length l.d ≡ length l.initial.d)

abbrev pub decreases-loop-left : goal.decreases-loop-left
decreases-loop-left l = l.left
