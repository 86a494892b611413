-- `seasons::write::put_next` meets its contract. A line with both texts, or a stretch. Assumes nothing.
use Rattle.seasons.proofs.Writing.{both-fits, both-done, no_old, no_new, whoever}
use Rattle.seasons.proofs.write.put_next.Goals as goal
use Rattle.seasons.proofs.write.put_next.Goals.{in_default-via-in-Some+in_default, in_default-via-in_default}

pub put_both-requires : goal.put_both-requires
put_both-requires c =
    let a = c.args in
    let w = c.in-Some-Some in
    both-fits a.j.now a.k.now a.p c.requires.0 c.requires.1 a.dest.now a.out c.requires.2 a.next c.requires.3 _ _ w.is-0 w.is-1

pub put_stretch-requires : goal.put_stretch-requires
put_stretch-requires c =
    let a = c.args in (
      c.requires.0,
      a.next,
      c.requires.1,
      c.requires.2,
      c.requires.3,
      elim c.in_default.branch [
        | in_default-via-in-Some+in_default w ↦ no_new a.next.line w.in_default.is-1
        | in_default-via-in_default w ↦ no_old a.next.line w.in_default.is-0
      ],
    )

pub returns-in-Some-Some : goal.returns-in-Some-Some
returns-in-Some-Some c =
    let a = c.args in
    let w = c.in-Some-Some in
    whoever a.j.now a.k.now a.p c.requires.0 c.requires.1 a.dest.now a.out _ _
    (both-done a.j.now a.k.now a.p c.requires.0 c.requires.1 a.dest.now a.out c.requires.2 a.next c.requires.3 _ _ w.is-0 w.is-1 _ _ c.put_both.ensures)
