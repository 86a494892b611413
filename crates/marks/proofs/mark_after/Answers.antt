-- `marks::mark_after` meets its contract. Assumes nothing.
use Rattle.marks.specs.Sweeping.{never}
use Rattle.marks.proofs.Singles.{mark-none, mark-some}
use Rattle.marks.proofs.mark_after.Goals as goal

pub returns-then-named-mismatch : goal.returns-then-named-mismatch
unfolding never
returns-then-named-mismatch c x end covers =
    let a = c.args in
    mark-none covers a.b a.old a.mismatch c.if-named-mismatch.true

pub returns : goal.returns
returns c x end covers =
    let a = c.args in
    mark-some covers a.b a.old a.mismatch c.if-named-mismatch.false
