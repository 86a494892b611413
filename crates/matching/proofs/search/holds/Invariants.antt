-- At each turn the test goes on to what the search says (`Turn`). Assumes nothing.
use Prim.Native.Nat.{◌-◌}
use Rattle.wordset.specs.Sets.{in_set}
use Rattle.matching.specs.Words.{Readable}
use Rattle.matching.proofs.Running.{line_says}
use Rattle.matching.proofs.Turns.{Turn}
use Rattle.matching.proofs.search.holds.Given as goal

abbrev pub invariant-loop-at : goal.invariant-loop-at
invariant-loop-at l = Turn l.words (line_says l.script l.words (in_set l.set 0) l.line l.p) (Readable l.script l.words) l.m l.k l.at l.truth

abbrev pub decreases-loop-at : goal.decreases-loop-at
decreases-loop-at l = l.m - l.at
