-- `closing::arranging::arrange` meets its contract. The loop's invariant: the records before `at` are arranged. Assumes nothing.
use mathlib.Core.Path.{◌≡◌}
use mathlib.Core.List.{List}
use Prim.Native.Nat.{◌-◌, ◌≤◌}
use lib.ListN.{length}
use Rattle.definitions.specs.Journal.{Record}
use Rattle.editor.specs.Records.{enc_all, Goods}
use Rattle.closing.proofs.Rows.{DoneTo}
use Rattle.closing.proofs.arranging.arrange.Given as goal

abbrev pub invariant-loop-at : goal.invariant-loop-at
invariant-loop-at l = (l.at ≤ length l.s) × (length l.s ≡ length l.initial.s) × ((rs : List Record) → Goods rs → l.initial.s ≡ enc_all rs → DoneTo rs l.s l.at)

abbrev pub decreases-loop-at : goal.decreases-loop-at
decreases-loop-at l = length l.initial.s - l.at
