use mathlib.Core.Path.{◌≡◌}
use lib.ListN.{length}
use Rattle.definitions.specs.Tape.{Tape}
use Rattle.definitions.specs.Editor.{Ed, before_of, go_back}
use Rattle.editor.specs.Shows.{Stays, Shows, rest_of}
use Rattle.editor.proofs.Walking.{Way}
use Rattle.editor.proofs.Editor.go_back.Given as goal

abbrev pub invariant-loop-s : goal.invariant-loop-s
invariant-loop-s l = ((e : Ed) (t : Tape) → Shows l.initial.j l.st e t → Way go_back l.j l.s (before_of e) (rest_of e t)) × Stays l.st l.s × (length l.j ≡ length l.initial.j)

abbrev pub decreases-loop-s : goal.decreases-loop-s
decreases-loop-s l = l.s.front
