-- `seasons::write::put_stretch` meets its contract. What left, then what came. Assumes nothing.
use Rattle.seasons.proofs.Writing.{left-fits, came-fits, stretch-done, whoever}
use Rattle.seasons.proofs.write.put_stretch.Goals as goal

pub put_row-left-requires : goal.put_row-left-requires
put_row-left-requires c =
    let a = c.args in
    left-fits a.j.now a.k.now a.p c.requires.0 c.requires.2 a.dest.now a.out c.requires.3

pub put_row-requires : goal.put_row-requires
put_row-requires c =
    let a = c.args in
    came-fits a.j.now a.k.now a.p c.requires.0 c.requires.2 a.dest.now a.out c.requires.3 _ c.put_row-left.result (c.put_row-left.ensures c.requires.0 c.requires.2)

pub returns : goal.returns
returns c =
    let a = c.args in
    whoever a.j.now a.k.now a.p c.requires.0 c.requires.2 a.dest.now a.out _ c.put_row.result
    (stretch-done a.j.now a.k.now a.p c.requires.0 c.requires.2 a.dest.now a.out c.requires.3 _ c.put_row-left.result (c.put_row-left.ensures c.requires.0 c.requires.2)
    _ c.put_row.result (c.put_row.ensures c.requires.0 c.requires.2) c.requires.1 c.requires.4 c.requires.5)
