-- `strings::qualifiers::read_qualifiers` meets its contract. The loop keeps `Begun`: what is read so far, and that the rounds left are enough; the bytes that are left fall. Assumes nothing.
use Prim.Native.Nat.{◌-◌}
use lib.ListN.{length}
use Rattle.strings.proofs.Opening.{Begun}
use Rattle.strings.proofs.qualifiers.read_qualifiers.Given as goal

abbrev pub invariant-loop-q : goal.invariant-loop-q
invariant-loop-q l = Begun l.s l.at l.in_search l.q l.i

abbrev pub decreases-loop-q : goal.decreases-loop-q
decreases-loop-q l = length l.s - l.i
