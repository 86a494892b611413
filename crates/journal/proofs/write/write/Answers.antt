-- `journal::write::write` meets its contract. The loop's invariant is `Going`. Assumes nothing.
use mathlib.Core.Path.{ap, ◌∙◌}
use Rattle.journal.proofs.Here.{here, found-again}
use Rattle.journal.proofs.Going.{going_start, going-few, going-room, going_next, going_end}
use Rattle.journal.proofs.write.write.Goals as goal

pub loop-x-init : goal.loop-x-init
loop-x-init c =
    let a = c.args in
    let f = c.from_start-x-items in
    rw c.into_iter-x-iterator.ensures.into_iter_gives (f.ensures.bytes, rw f.ensures.start (going_start a.view a.j.now a.dest.now c.requires.0 c.requires.1 c.requires.2))

pub put-out-requires : goal.put-out-requires
put-out-requires c =
    let l = c.loop-x in
    let a = c.args in
    let e = rw l.invariant.0 at c.in-Some.ensures.steps.0 in (
      found-again a.j.now l.x-iterator.at c.in-Some.x e,
      going-few a.view a.j.now a.dest.now l.x-iterator.at l.out l.gone l.dest l.invariant.1,
      going-room a.view a.j.now a.dest.now l.x-iterator.at l.out l.gone l.dest l.invariant.1 c.in-Some.x (here a.j.now l.x-iterator.at c.in-Some.x e),
    )

pub gone_by-gone-requires : goal.gone_by-gone-requires
gone_by-gone-requires c =
    let l = c.loop-x in
    let a = c.args in
    going-few a.view a.j.now a.dest.now l.x-iterator.at l.out l.gone l.dest l.invariant.1

pub loop-x-preserved : goal.loop-x-preserved
loop-x-preserved c =
    let l = c.loop-x in
    let a = c.args in
    let n = c.in-Some.ensures.steps in
    let p = c.put-out in
    let w = here a.j.now l.x-iterator.at c.in-Some.x (rw l.invariant.0 at n.0) in (
      ap (λ s. s.now) n.1 ∙ l.invariant.0,
      going_next a.view a.j.now a.dest.now l.x-iterator.at l.out l.gone l.dest l.invariant.1 c.in-Some.x w
          _ p.new.dest p.result c.gone_by-gone.result n.2 p.ensures.1 p.ensures.0 c.gone_by-gone.ensures,
    )

pub returns : goal.returns
returns c =
    let l = c.loop-x in
    let a = c.args in
    going_end a.view a.j.now a.dest.now l.x-iterator.at l.out l.gone l.dest l.invariant.1 (rw l.invariant.0 at c.in-None.ensures.steps.0)
