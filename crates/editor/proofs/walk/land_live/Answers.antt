use mathlib.Core.Path.{refl, ◌∙◌}
use native.Mathlib.Omega.{arith}
use Rattle.editor.proofs.Held.{placed_by, stays_on, stays-still}
use Rattle.editor.proofs.Walking.{way-start, passable, land-goes, land-ends, land-stops}
use Rattle.editor.proofs.walk.land_live.Goals as goal

pub loop-j-init : goal.loop-j-init
loop-j-init c = (way-start, stays-still, refl)

pub bounds-j-at : goal.bounds-j-at
bounds-j-at c = c.if-at-j.false

pub pass_record-s-requires : goal.pass_record-s-requires
pass_record-s-requires c = passable ((c.loop-j.invariant.0 c.requires.0 c.requires.1 c.requires.2)).holds c.if-at-j.false

pub loop-j-smaller : goal.loop-j-smaller
loop-j-smaller c =
    let r = c.pass_record-s in
    omega (arith, c.if-at-j.false, r.auto.j, r.ensures.2)

pub loop-j-preserved : goal.loop-j-preserved
loop-j-preserved c =
    let l = c.loop-j in
    let r = c.pass_record-s in (
      (λ b a h. land-goes (l.invariant.0 b a h) c.if-at-j.false c.if-j-at-ne45.false r.ensures),
      stays_on l.invariant.1 r.ensures.1,
      r.auto.j ∙ l.invariant.2,
    )

pub shape_of-j-then-at-j : goal.shape_of-j-then-at-j
shape_of-j-then-at-j c = c.loop-j.invariant.2

pub returns-then-at-j : goal.returns-then-at-j
returns-then-at-j c =
    let l = c.loop-j in
    ((λ b a h. land-ends (l.invariant.0 b a h) c.if-at-j.true _ (placed_by _ _ _)), l.invariant.1.furthest, l.invariant.1.lines, refl)

pub shape_of-j-then-j-at-ne45 : goal.shape_of-j-then-j-at-ne45
shape_of-j-then-j-at-ne45 c = c.loop-j.invariant.2

pub returns-then-j-at-ne45 : goal.returns-then-j-at-ne45
returns-then-j-at-ne45 c =
    let l = c.loop-j in
    ((λ b a h. land-stops (l.invariant.0 b a h) c.if-at-j.false c.if-j-at-ne45.true _ (placed_by _ _ _)), l.invariant.1.furthest, l.invariant.1.lines, refl)
