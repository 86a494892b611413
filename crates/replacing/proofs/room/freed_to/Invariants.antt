use mathlib.Core.Path.{◌≡◌}
use mathlib.Core.List.{List, ◌++◌}
use Prim.Native.Nat.{◌+◌, ◌-◌}
use lib.ListN.{length}
use Rattle.definitions.specs.Journal.{Record}
use Rattle.editor.specs.Records.{enc_all}
use Rattle.spans.specs.Spans.{Stands}
use Rattle.replacing.specs.Freed.{freed}
use Rattle.spans.proofs.Sums.{Counting}
use Rattle.replacing.proofs.room.freed_to.Given as goal

abbrev pub invariant-loop-at : goal.invariant-loop-at
invariant-loop-at l = (m d : List Record) → Stands l.j l.initial.at (m ++ d) → l.end + length (enc_all d) ≡ length l.j → Counting freed (freed m) l.j l.at l.n d

abbrev pub decreases-loop-at : goal.decreases-loop-at
decreases-loop-at l = length l.j - l.at
