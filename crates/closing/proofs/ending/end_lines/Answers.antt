-- `closing::ending::end_lines` meets its contract. Assumes nothing.
use Rattle.std.proofs.Common.{take, arith}
use Rattle.closing.proofs.Closing.{ended-set}
use Rattle.closing.proofs.ending.end_lines.Goals as goal

pub loop-b-preserved : goal.loop-b-preserved
loop-b-preserved c =
    let l = c.loop-b in
    rw (c.ended.ensures, l.invariant) (ended-set (take c.args.n c.args.j.now) l.b-index (omega arith))
