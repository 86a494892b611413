-- `wordset::put_byte` meets its contract. Assumes nothing.
use Prim.Native.Nat.{◌%◌}
use native.Mathlib.Omega.{arith}
use Rattle.wordset.proofs.Bits.{shifted}
use Rattle.wordset.proofs.put_byte.Goals as goal

pub returns : goal.returns
returns c = rw (shifted (c.args.b % 32) (omega arith))
