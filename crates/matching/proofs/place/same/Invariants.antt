-- At each turn: what is left of the string, against what is left of the line. Assumes nothing.
use mathlib.Core.Path.{◌≡◌}
use mathlib.Core.Bool.{false}
use Prim.Native.Nat.{◌+◌, ◌≤◌}
use lib.ListN.{length, drop}
use Rattle.definitions.specs.Matching.{stands_first}
use Rattle.matching.proofs.place.same.Given as goal

abbrev pub invariant-loop-k : goal.invariant-loop-k
invariant-loop-k l = (l.k ≤ length l.s) × (stands_first false l.s (drop l.at l.line) ≡ stands_first false (drop l.k l.s) (drop (l.at + l.k) l.line))
