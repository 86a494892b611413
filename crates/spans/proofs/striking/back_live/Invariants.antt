use mathlib.Core.Path.{◌≡◌}
use mathlib.Core.List.{List}
use lib.ListN.{length}
use Rattle.definitions.specs.Journal.{Record}
use Rattle.editor.specs.Shows.{Holds, Stays}
use Rattle.spans.proofs.Struck.{Withdrawing}
use Rattle.spans.proofs.striking.back_live.Given as goal

abbrev pub invariant-loop-left : goal.invariant-loop-left
invariant-loop-left l = ((b a : List Record) → Holds l.initial.j l.initial.s b a → Withdrawing l.j l.s l.left l.k b a) × Stays l.initial.s l.s × (length l.j ≡ length l.initial.j)

abbrev pub decreases-loop-left : goal.decreases-loop-left
decreases-loop-left l = l.s.front
