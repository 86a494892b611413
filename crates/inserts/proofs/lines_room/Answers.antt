use native.Mathlib.Omega.{arith}
use Rattle.inserts.proofs.Room.{room-none, room-first}
use Rattle.inserts.proofs.lines_room.Goals as goal

pub loop-at-preserved : goal.loop-at-preserved
loop-at-preserved c =
    let l = c.loop-at in
    (omega (arith, room-first c.args.s.now l.at c.args.end c.requires.inside (omega arith) c.line_end-e.result c.line_end-e.ensures.0), omega arith)

pub returns : goal.returns
returns c =
    let l = c.loop-at in
    omega (arith, room-none c.args.s.now l.at c.args.end c.requires.inside (omega arith))
