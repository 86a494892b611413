-- At each turn the walk goes on to what the search says at EOF (`Turn`). Assumes nothing.
use Prim.Native.Nat.{◌-◌}
use Rattle.matching.specs.Words.{HasQuals}
use Rattle.matching.proofs.Running.{eof_says}
use Rattle.matching.proofs.Turns.{Turn}
use Rattle.matching.proofs.search.holds_at_eof.Given as goal

abbrev pub invariant-loop-at : goal.invariant-loop-at
invariant-loop-at l = Turn l.words (eof_says l.words) (HasQuals l.words) l.m l.k l.at l.truth

abbrev pub decreases-loop-at : goal.decreases-loop-at
decreases-loop-at l = l.m - l.at
