-- `journal::measure::check` meets its contract. The loop's invariant: the verdict on all is that on what is left, with `m` measured. Assumes nothing.
use mathlib.Core.Path.{◌≡◌}
use Prim.Native.Nat.{◌≤◌}
use lib.ListN.{length, drop}
use Rattle.definitions.specs.Journal.{records_of}
use Rattle.journal.specs.Records.{records_from}
use Rattle.journal.specs.Measuring.{AtMost, checked}
use Rattle.journal.proofs.Measures.{checked_from}
use Rattle.journal.proofs.measure.check.Given as goal

abbrev pub invariant-loop-x : goal.invariant-loop-x
invariant-loop-x l =
    (l.left.j.now ≡ l.j) × (l.left.at ≤ length l.j) × AtMost l.m l.left.at
    × (checked (records_of l.j) ≡ checked_from l.m (records_from (drop l.left.at l.j)))
