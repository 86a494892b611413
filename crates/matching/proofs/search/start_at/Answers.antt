use mathlib.Core.Path.{refl}
use native.Mathlib.Omega.{arith}
use Rattle.matching.specs.Words.{start_at}
use Rattle.matching.proofs.search.start_at.Goals as goal

pub overflow_cast-result : goal.overflow_cast-result
overflow_cast-result c = omega (arith, c.shared_slice_known-1.given c.args.k)

pub returns : goal.returns
unfolding start_at
returns c = refl
