-- `wordset::decode` meets its contract. The loop's invariant: the string is read up to i. Assumes nothing.
use Prim.Native.Nat.{◌-◌}
use Rattle.wordset.proofs.Reading.{ReadTo}
use Rattle.wordset.proofs.decode.Given as goal

abbrev pub invariant-loop-i : goal.invariant-loop-i
invariant-loop-i l = ReadTo l.initial.w l.k l.s l.from l.to l.w l.i

abbrev pub decreases-loop-i : goal.decreases-loop-i
decreases-loop-i l = l.to - l.i
