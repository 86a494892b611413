use mathlib.Core.Path.{refl}
use Prim.Native.Nat.{◌+◌}
use native.Mathlib.Omega.{arith}
use Rattle.matching.specs.Words.{flags_at}
use Rattle.matching.proofs.Words.{read-quals}
use Rattle.matching.proofs.search.quals_at.Goals as goal

pub columns_at-columns-requires : goal.columns_at-columns-requires
unfolding flags_at
columns_at-columns-requires c = (refl, c.requires.1)

pub overflow_cast-result-2 : goal.overflow_cast-result-2
overflow_cast-result-2 c = omega (arith, c.shared_slice_known-3-1.given (c.args.k + 1))

pub returns : goal.returns
returns c = read-quals _ _ _ c.columns_at-columns.ensures
