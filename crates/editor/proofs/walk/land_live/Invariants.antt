use mathlib.Core.Path.{◌≡◌}
use mathlib.Core.List.{List}
use Prim.Native.Nat.{◌-◌}
use lib.ListN.{length}
use Rattle.definitions.specs.Journal.{Record}
use Rattle.definitions.specs.Editor.{land}
use Rattle.editor.specs.Shows.{Holds, Stays}
use Rattle.editor.proofs.Walking.{Way}
use Rattle.editor.proofs.walk.land_live.Given as goal

abbrev pub invariant-loop-j : goal.invariant-loop-j
invariant-loop-j l = ((b a : List Record) → Holds l.initial.j l.initial.s b a → Way land l.j l.s b a) × Stays l.initial.s l.s × (length l.j ≡ length l.initial.j)

abbrev pub decreases-loop-j : goal.decreases-loop-j
decreases-loop-j l = length l.j - l.s.back
