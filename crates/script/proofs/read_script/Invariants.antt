-- `script::read_script` meets its contract. Assumes nothing.
use Rattle.script.proofs.WholeScript.{Going}
use Rattle.definitions.specs.Script.{read_script}
use lib.ListN.{length}
use Prim.Native.Nat.{◌-◌}
use mathlib.Core.Path.{◌≡◌}
use Rattle.script.proofs.read_script.Given as goal

abbrev pub invariant-loop-next : goal.invariant-loop-next
invariant-loop-next l = Going l.s l.w l.st l.reader.at (read_script l.s) × (l.reader.script.now ≡ l.s) × (length l.w ≡ length l.initial.w)

abbrev pub decreases-loop-next : goal.decreases-loop-next
decreases-loop-next l = length l.s - l.reader.at
