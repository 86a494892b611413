-- `turning::turn_stretch` meets its contract. The row of `++`, then that of `--`. Assumes nothing.
use native.Mathlib.Omega.{arith}
use Rattle.turning.proofs.Steps.{came-asks, came-after, gone-asks, stretch-done}
use Rattle.turning.proofs.turn_stretch.Goals as goal

pub put_row-came-requires : goal.put_row-came-requires
put_row-came-requires c =
    let a = c.args in
    came-asks a.j.now a.dest.now a.at c.requires.0 c.requires.1 c.requires.2 c.requires.3 c.row_end-left.result c.row_end-left.ensures

pub overflow_sub-came : goal.overflow_sub-came
overflow_sub-came c =
    let p = c.put_row-came in
    let a = c.args in
    (came-after a.j.now a.dest.now a.at c.requires.0 c.requires.1 c.requires.2 c.requires.3 c.row_end-left.result c.row_end-left.ensures p.result p.new.dest p.ensures).0

pub overflow_add-at : goal.overflow_add-at
overflow_add-at c =
    let p = c.put_row-came in
    let a = c.args in
    omega (arith, (came-after a.j.now a.dest.now a.at c.requires.0 c.requires.1 c.requires.2 c.requires.3 c.row_end-left.result c.row_end-left.ensures p.result p.new.dest p.ensures).1)

pub put_row-requires : goal.put_row-requires
put_row-requires c =
    let p = c.put_row-came in
    let a = c.args in
    gone-asks a.j.now a.dest.now a.at c.requires.0 c.requires.1 c.requires.2 c.requires.3 c.row_end-left.result c.row_end-left.ensures p.result p.new.dest p.ensures

pub returns : goal.returns
returns c =
    let p = c.put_row-came in
    let q = c.put_row in
    let a = c.args in
    stretch-done a.j.now a.dest.now a.at c.requires.0 c.requires.1 c.requires.2 c.requires.3 c.row_end-left.result c.row_end-left.ensures
    p.result p.new.dest p.ensures q.result q.new.dest q.ensures
