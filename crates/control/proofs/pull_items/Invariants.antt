use Rattle.control.proofs.Pulling.{Came}
use Rattle.control.specs.Shown.{ItemsKept, ShowsPoint}
use Rattle.definitions.specs.Control.{Ctl}
use mathlib.Core.List.{List}
use Prim.Native.Nat.{ℕ, ◌-◌}
use Rattle.std.specs.Prelude.{Option}
use Rattle.control.specs.declared.Control.TheVariants.{Items}
use Rattle.control.specs.declared.Wanted.{Wanted}
use Rattle.control.specs.Moves.{Pulled}
use Rattle.control.proofs.pull_items.Given as goal

abbrev pub invariant-loop-point : goal.invariant-loop-point
invariant-loop-point l = ItemsKept l.initial.w l.w l.end × ((s : List ℕ) (from : Ctl) → ShowsPoint s l.initial.w l.end l.initial.point from → Came s l.w l.end l.point from) × ((r : Option Wanted) (v : List ℕ) → Pulled l.end l.w (Items l.point) r v → Pulled l.end l.initial.w (Items l.initial.point) r v)

abbrev pub decreases-loop-point : goal.decreases-loop-point
decreases-loop-point l = l.end - l.point.at
