use mathlib.Core.Path.{◌≡◌}
use lib.ListN.{length}
use Rattle.editor.proofs.Opening.{Writing}
use Rattle.editor.proofs.start.write_opening.Given as goal

abbrev pub invariant-loop-i : goal.invariant-loop-i
invariant-loop-i l = Writing l.t l.initial.j l.j l.o l.i l.lines × (length l.j ≡ length l.initial.j)

abbrev pub decreases-loop-i : goal.decreases-loop-i
decreases-loop-i l = l.i
