-- `journal::marks::put_marked` meets its contract. The mark, then the line. Assumes nothing.
use native.Mathlib.Omega.{arith}
use Rattle.journal.proofs.Writing.{puts-both}
use Rattle.journal.proofs.marks.put_marked.Goals as goal

pub returns : goal.returns
returns c =
    let a = c.args in
    puts-both a.mark a.line.now a.dest.now _ _ a.out _ _ (omega arith) c.put_line-next.ensures c.put_line.ensures
