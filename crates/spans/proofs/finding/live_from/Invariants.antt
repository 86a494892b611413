use mathlib.Core.Path.{◌≡◌}
use mathlib.Core.List.{List}
use Prim.Native.Nat.{◌-◌}
use lib.ListN.{length}
use Rattle.definitions.specs.Journal.{Record}
use Rattle.definitions.specs.Editor.{sources}
use Rattle.spans.specs.Spans.{Stands}
use Rattle.spans.proofs.Nexts.{Seeking}
use Rattle.spans.proofs.finding.live_from.Given as goal

abbrev pub invariant-loop-at : goal.invariant-loop-at
invariant-loop-at l = (b a : List Record) → Stands l.j l.from a → l.past ≡ sources b → Seeking l.j l.at l.n b a

abbrev pub decreases-loop-at : goal.decreases-loop-at
decreases-loop-at l = length l.j - l.at
