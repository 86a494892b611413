-- `steps::test` meets its contract. Assumes nothing.
use native.Mathlib.Omega.{arith}
use Rattle.steps.proofs.Views.{asks-test, search-inside, search-words}
use Rattle.steps.proofs.Tests.{as-test}
use Rattle.steps.proofs.test.Goals as goal

pub overflow_add-k : goal.overflow_add-k
overflow_add-k c = omega (arith, (search-inside _ _ _ (let p = c.requires in let z = asks-test _ _ p.1.0.1.0 c.args.x p.1.0.0 p.1.0.1.1 _ p.2 in (z.0, z.1))).0, (search-inside _ _ _ (let p = c.requires in let z = asks-test _ _ p.1.0.1.0 c.args.x p.1.0.0 p.1.0.1.1 _ p.2 in (z.0, z.1))).1)

pub search_end-m-requires : goal.search_end-m-requires
search_end-m-requires c = omega (arith, (search-inside _ _ _ (let p = c.requires in let z = asks-test _ _ p.1.0.1.0 c.args.x p.1.0.0 p.1.0.1.1 _ p.2 in (z.0, z.1))).0, (search-inside _ _ _ (let p = c.requires in let z = asks-test _ _ p.1.0.1.0 c.args.x p.1.0.0 p.1.0.1.1 _ p.2 in (z.0, z.1))).1)

pub test-requires : goal.test-requires
test-requires c = (c.requires.0, (search-words _ _ _ (let p = c.requires in let z = asks-test _ _ p.1.0.1.0 c.args.x p.1.0.0 p.1.0.1.1 _ p.2 in (z.0, z.1)) _ c.search_end-m.ensures, c.requires.1.1))

pub returns : goal.returns
returns c = as-test _ _ _ _ _ _ _ _ _ c.search_end-m.ensures _ c.requires.2 c.test.ensures
