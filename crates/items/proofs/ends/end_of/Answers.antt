use native.Mathlib.Omega.{arith}
use Prim.Native.Nat.{◌+◌}
use Rattle.items.proofs.Reading.{end-near}
use Rattle.items.proofs.ends.end_of.Goals as goal

pub overflow_add-result-in-5 : goal.overflow_add-result-in-5
overflow_add-result-in-5 c = omega (arith, c.end_at-in-5.ensures, end-near c.args.w.now (c.args.k + 1))
