use mathlib.Core.Path.{◌≡◌}
use Prim.Native.Nat.{◌-◌, ◌≤◌}
use lib.ListN.{length}
use Rattle.definitions.specs.Tape.{Tape}
use Rattle.definitions.specs.Given.{Carried}
use Rattle.definitions.specs.Editor.{Ed}
use Rattle.definitions.specs.StepProgram.{state}
use Rattle.definitions.specs.Search.{Search}
use Rattle.definitions.specs.Control.{look_op}
use Rattle.matching.specs.Words.{Encodes}
use Rattle.editor.specs.Shows.{lent}
use Rattle.editor.specs.Current.{Ready}
use Rattle.seeks.specs.Looks.{seek_of}
use Rattle.globals.specs.Standing.{Standing}
use Rattle.seeks.proofs.Seeking.{Underway}
use Rattle.seeks.proofs.seek.Given as goal

abbrev pub invariant-loop-made : goal.invariant-loop-made
invariant-loop-made l =
    let i = l.initial.ed in
    ((se : Search) (e : Ed) (x : Carried) (t : Tape) → Encodes l.script l.words l.k l.m se → Standing l.script l.words x → Ready l.table i.journal.now i.st e t
    → Underway (lent i.journal.now) (look_op (seek_of l.way) se) l.lines l.left l.made l.table x (state e x) t l.ed.journal.now l.ed.st)
    × (l.made ≤ l.left) × (length l.ed.journal.now ≡ length i.journal.now) × (l.ed.journal.ghost_name ≡ i.journal.ghost_name)

abbrev pub decreases-loop-made : goal.decreases-loop-made
decreases-loop-made l = l.left - l.made
