-- `patterns::bytes::ends_row` meets its contract. Assumes nothing.
use mathlib.Core.Path.{sym}
use native.Mathlib.Omega.{arith}
use Rattle.patterns.proofs.Places.{row_ends, row-ends-by}
use Rattle.patterns.proofs.bytes.ends_row.Goals as goal

pub returns-then-s-at : goal.returns-then-s-at
returns-then-s-at c = sym (row_ends c.args.s.now c.args.at (omega arith))

pub returns : goal.returns
returns c = sym (row-ends-by c.args.s.now c.args.at (omega arith))
