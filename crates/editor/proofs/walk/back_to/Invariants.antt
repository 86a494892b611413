use mathlib.Core.Path.{◌≡◌}
use mathlib.Core.List.{List}
use lib.ListN.{length}
use Rattle.definitions.specs.Journal.{Record}
use Rattle.editor.specs.Shows.{Holds, Stays, back_to}
use Rattle.editor.proofs.Walking.{Way}
use Rattle.editor.proofs.walk.back_to.Given as goal

abbrev pub invariant-loop-s : goal.invariant-loop-s
invariant-loop-s l = ((b a : List Record) → Holds l.initial.j l.initial.s b a → Way (back_to l.k) l.j l.s b a) × Stays l.initial.s l.s × (length l.j ≡ length l.initial.j)

abbrev pub decreases-loop-s : goal.decreases-loop-s
decreases-loop-s l = l.s.front
