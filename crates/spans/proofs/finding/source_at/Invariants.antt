use mathlib.Core.Path.{◌≡◌}
use mathlib.Core.List.{List}
use Prim.Native.Nat.{◌+◌, ◌-◌, ◌≤◌, ◌<◌}
use lib.ListN.{length}
use Rattle.definitions.specs.Journal.{Record}
use Rattle.definitions.specs.Editor.{sources}
use Rattle.spans.specs.Spans.{Stands}
use Rattle.spans.proofs.Standing.{Scanning}
use Rattle.spans.proofs.finding.source_at.Given as goal

abbrev pub invariant-loop-at : goal.invariant-loop-at
invariant-loop-at l = ((c a : List Record) → l.initial.n ≡ sources c → l.b ≤ sources c + sources a → Stands l.j l.initial.at a → Scanning l.j l.at l.n c a) × (l.n < l.b)

abbrev pub decreases-loop-at : goal.decreases-loop-at
decreases-loop-at l = length l.j - l.at
