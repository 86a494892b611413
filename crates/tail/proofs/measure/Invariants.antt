use mathlib.Core.Path.{◌≡◌}
use mathlib.Core.List.{List, map}
use Prim.Native.Nat.{◌-◌, ◌≤◌}
use lib.ListN.{length, drop}
use Rattle.definitions.specs.Bytes.{Line}
use Rattle.definitions.specs.Journal.{kept}
use Rattle.definitions.specs.Given.{Carried}
use Rattle.editor.specs.Records.{enc_all, Goods}
use Rattle.globals.specs.Standing.{Standing}
use Rattle.tail.specs.Rest.{measured}
use Rattle.tail.proofs.Behind.{Behind}
use Rattle.tail.proofs.measure.Given as goal

abbrev pub invariant-loop-at : goal.invariant-loop-at
invariant-loop-at l =
    ((ls : List Line) (c : Carried) → Standing l.script l.w c → drop l.initial.at l.j ≡ enc_all (map kept ls) → Goods (map kept ls) → Behind l.j l.at c l.room (measured c l.initial.room ls)) × (l.at ≤ length l.j)

abbrev pub decreases-loop-at : goal.decreases-loop-at
decreases-loop-at l = length l.j - l.at
