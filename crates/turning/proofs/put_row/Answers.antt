-- `turning::put_row` meets its contract. The loop's invariant is `Writes`. Assumes nothing.
use mathlib.Core.Path.{refl, sym, ◌∙◌}
use native.Mathlib.Omega.{arith}
use Rattle.journal.proofs.Here.{in-places}
use Rattle.turning.proofs.Walks.{within-nowhere, writes_start, writes_end, writes-other, writes-asks, writes-next}
use Rattle.turning.proofs.put_row.Goals as goal

pub loop-at-init : goal.loop-at-init
loop-at-init c =
    let a = c.args in
    (refl, writes_start a.b a.c a.j.now a.dest.now a.from a.out c.requires.0 c.requires.1 c.requires.2)

pub shape_of-dest-then-j-at : goal.shape_of-dest-then-j-at
shape_of-dest-then-j-at c = c.loop-at.invariant.0

pub returns-then-j-at : goal.returns-then-j-at
returns-then-j-at c =
    let a = c.args in
    let l = c.loop-at in
    writes-other a.b a.c a.j.now a.dest.now a.from a.out l.at l.next l.dest l.invariant.1 (omega arith) c.if-j-at.true

pub shape_of-dest-in_default : goal.shape_of-dest-in_default
shape_of-dest-in_default c = c.loop-at.invariant.0

pub returns-in_default : goal.returns-in_default
returns-in_default c =
    let a = c.args in
    let l = c.loop-at in
    absurd (within-nowhere a.b a.j.now a.from l.at l.invariant.1.row (omega arith) (sym c.in_default.ensures))

pub overflow_add-at : goal.overflow_add-at
overflow_add-at c = omega (arith, in-places _ _ _ (sym c.in-Some.ensures))

pub overflow_add-x : goal.overflow_add-x
overflow_add-x c = omega (arith, in-places _ _ _ (sym c.in-Some.ensures))

pub slice_bounds-put_marked-count : goal.slice_bounds-put_marked-count
slice_bounds-put_marked-count c = omega (arith, in-places _ _ _ (sym c.in-Some.ensures))

pub slice_bounds-put_marked-start : goal.slice_bounds-put_marked-start
slice_bounds-put_marked-start c = omega (arith, in-places _ _ _ (sym c.in-Some.ensures))

pub slice_bounds-put_marked-end : goal.slice_bounds-put_marked-end
slice_bounds-put_marked-end c = omega (arith, in-places _ _ _ (sym c.in-Some.ensures))

pub put_marked-next-requires : goal.put_marked-next-requires
put_marked-next-requires c =
    let a = c.args in
    let l = c.loop-at in
    (writes-asks a.b a.c a.j.now a.dest.now a.from a.out l.at l.next l.dest l.invariant.1 c.in-Some.x (sym c.in-Some.ensures) c.if-j-at.false).2

pub overflow_add-at-in-loop-at : goal.overflow_add-at-in-loop-at
overflow_add-at-in-loop-at c = omega (arith, in-places _ _ _ (sym c.in-Some.ensures))

pub loop-at-smaller : goal.loop-at-smaller
loop-at-smaller c = omega (arith, in-places _ _ _ (sym c.in-Some.ensures))

pub loop-at-preserved : goal.loop-at-preserved
loop-at-preserved c =
    let a = c.args in
    let l = c.loop-at in
    let p = c.put_marked-next in (
      p.auto.dest ∙ l.invariant.0,
      writes-next a.b a.c a.j.now a.dest.now a.from a.out l.at l.next l.dest l.invariant.1 c.in-Some.x (sym c.in-Some.ensures) c.if-j-at.false
          p.new.dest p.result p.ensures,
    )

pub shape_of-dest : goal.shape_of-dest
shape_of-dest c = c.loop-at.invariant.0

pub returns : goal.returns
returns c =
    let a = c.args in
    let l = c.loop-at in
    writes_end a.b a.c a.j.now a.dest.now a.from a.out l.at l.next l.dest l.invariant.1 (omega arith)
