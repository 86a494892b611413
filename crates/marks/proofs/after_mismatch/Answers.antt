-- `marks::after_mismatch` meets its contract. Assumes nothing.
use Rattle.marks.proofs.Singles.{start-mismatch, start_plain}
use Rattle.marks.proofs.after_mismatch.Goals as goal

pub returns-then-mismatch : goal.returns-then-mismatch
returns-then-mismatch c = start-mismatch c.args.mismatch c.args.at c.if-mismatch.true

pub returns : goal.returns
returns c = start_plain c.args.mismatch c.args.at c.if-mismatch.false
