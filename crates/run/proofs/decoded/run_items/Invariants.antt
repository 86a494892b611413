-- `run::decoded::run_items` meets its contract. Assumes nothing.
use mathlib.Core.Path.{◌≡◌}
use mathlib.Core.List.{List, []}
use Prim.Native.Nat.{◌-◌, ◌≤◌}
use lib.ListN.{length}
use Rattle.definitions.specs.Tape.{Tape}
use Rattle.definitions.specs.Given.{no_globals}
use Rattle.definitions.specs.Editor.{Ed}
use Rattle.definitions.specs.StepProgram.{state}
use Rattle.definitions.specs.Edit.{step}
use Rattle.definitions.specs.Control.{Item, running}
use Rattle.definitions.specs.Run.{run}
use Rattle.control.specs.Shown.{passed}
use Rattle.editor.specs.Shows.{lent}
use Rattle.editor.specs.Current.{Ready}
use Rattle.run.specs.Items.{Runnable}
use Rattle.run.proofs.Going.{Going}
use Rattle.run.proofs.decoded.run_items.Given as goal

abbrev pub invariant-loop-x : goal.invariant-loop-x
invariant-loop-x l =
    let i = l.initial.ed in
    ((items : List Item) (e : Ed) (t : Tape) → Runnable l.script l.initial.w l.end items → Ready l.table i.journal.now i.st e t
    → Going l.script l.table (lent i.journal.now) l.budget l.end l.w l.ed.journal.now l.c l.ed.st l.made (run (step (lent i.journal.now)) l.budget 0 (running items []) (state e no_globals) t))
    × (l.made ≤ l.budget) × (passed l.c ≤ l.made) × (length l.w ≡ length l.initial.w) × (length l.ed.journal.now ≡ length i.journal.now) × (l.ed.journal.ghost_name ≡ i.journal.ghost_name)

abbrev pub decreases-loop-x : goal.decreases-loop-x
decreases-loop-x l = l.budget - l.made
