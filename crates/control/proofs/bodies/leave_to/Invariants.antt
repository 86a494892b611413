use Rattle.control.proofs.Leaving.{Left}
use Rattle.control.specs.Shown.{InFrames}
use Rattle.control.specs.Moves.{leave_by}
use Rattle.definitions.specs.Control.{Item, Frame}
use mathlib.Core.List.{List}
use mathlib.Core.Path.{◌≡◌}
use Prim.Native.Nat.{ℕ}
use Rattle.control.proofs.bodies.leave_to.Given as goal

abbrev pub invariant-loop-d : goal.invariant-loop-d
invariant-loop-d l = ((s : List ℕ) (items : List Item) (frames : List Frame) → InFrames s l.w l.end l.next l.depth l.depth items frames → Left s l.w l.end l.depth l.d items frames) × (leave_by l.w l.end l.next l.depth l.d ≡ leave_by l.w l.end l.next l.depth l.depth)
