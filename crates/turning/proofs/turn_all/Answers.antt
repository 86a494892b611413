-- `turning::turn_all` meets its contract. The loop's invariant is `Turning`. Assumes nothing.
use mathlib.Core.Path.{refl, ◌∙◌}
use native.Mathlib.Omega.{arith}
use Rattle.turning.proofs.Turning.{turning-start, turning-end, turning-asks, stretch-after, turning-stretch, parted-asks, turning-one}
use Rattle.turning.proofs.turn_all.Goals as goal

pub loop-at-init : goal.loop-at-init
loop-at-init c =
    (refl, turning-start c.args.j.now c.args.dest.now c.requires.0 c.requires.1 c.requires.2 c.requires.3)

pub turn_stretch-at-requires : goal.turn_stretch-at-requires
turn_stretch-at-requires c =
    let a = c.args in
    let l = c.loop-at in
    turning-asks a.j.now a.dest.now l.at l.dest l.invariant.1

pub turn_one-at-requires : goal.turn_one-at-requires
turn_one-at-requires c =
    let a = c.args in
    let l = c.loop-at in
    let p = c.turn_stretch-at in
    parted-asks a.j.now a.dest.now p.result p.new.dest (turning-stretch a.j.now a.dest.now l.at l.dest l.invariant.1 p.result p.new.dest p.ensures) (omega arith)

pub loop-at-smaller-then-at-j : goal.loop-at-smaller-then-at-j
loop-at-smaller-then-at-j c =
    let a = c.args in
    let l = c.loop-at in
    let p = c.turn_stretch-at in
    let q = c.turn_one-at in
    omega (
      arith,
      stretch-after a.j.now a.dest.now l.at l.dest l.invariant.1 p.result p.new.dest p.ensures,
      (turning-one a.j.now a.dest.now p.result p.new.dest (turning-stretch a.j.now a.dest.now l.at l.dest l.invariant.1 p.result p.new.dest p.ensures) (omega arith)
          q.result q.new.dest q.ensures).1,
    )

pub loop-at-preserved-then-at-j : goal.loop-at-preserved-then-at-j
loop-at-preserved-then-at-j c =
    let a = c.args in
    let l = c.loop-at in
    let p = c.turn_stretch-at in
    let q = c.turn_one-at in (
      q.auto.dest ∙ p.auto.dest ∙ l.invariant.0,
      (turning-one a.j.now a.dest.now p.result p.new.dest (turning-stretch a.j.now a.dest.now l.at l.dest l.invariant.1 p.result p.new.dest p.ensures) (omega arith)
          q.result q.new.dest q.ensures).0,
    )

pub loop-at-preserved : goal.loop-at-preserved
loop-at-preserved c =
    let a = c.args in
    let l = c.loop-at in
    let p = c.turn_stretch-at in
    (p.auto.dest ∙ l.invariant.0, (turning-stretch a.j.now a.dest.now l.at l.dest l.invariant.1 p.result p.new.dest p.ensures).state)

pub shape_of-dest : goal.shape_of-dest
shape_of-dest c = c.loop-at.invariant.0

pub returns : goal.returns
returns c =
    let a = c.args in
    let l = c.loop-at in
    turning-end a.j.now a.dest.now l.at l.dest l.invariant.1 (omega arith)
