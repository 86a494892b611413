use mathlib.Core.Path.{◌≡◌}
use mathlib.Core.List.{List, ◌++◌}
use Prim.Native.Nat.{◌+◌, ◌-◌}
use lib.ListN.{length}
use Rattle.definitions.specs.Journal.{Record}
use Rattle.definitions.specs.Editor.{sources}
use Rattle.editor.specs.Records.{enc_all}
use Rattle.spans.specs.Spans.{Stands}
use Rattle.spans.proofs.Sums.{Counting}
use Rattle.spans.proofs.finding.past_to.Given as goal

abbrev pub invariant-loop-at : goal.invariant-loop-at
invariant-loop-at l =
    (c m d : List Record) → l.initial.n ≡ sources c → Stands l.j l.initial.at (m ++ d) → l.end + length (enc_all d) ≡ length l.j → Counting sources (sources c + sources m) l.j l.at l.n d

abbrev pub decreases-loop-at : goal.decreases-loop-at
decreases-loop-at l = length l.j - l.at
