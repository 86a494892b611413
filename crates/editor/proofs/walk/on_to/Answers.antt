use mathlib.Core.Path.{refl, ◌∙◌}
use mathlib.Core.Logic.{inl, inr}
use native.Mathlib.Omega.{arith}
use Rattle.editor.proofs.Held.{stays_on, stays-still}
use Rattle.editor.proofs.Walking.{way-start, passable, on-goes, on-stops, on-ends}
use Rattle.editor.proofs.walk.on_to.Goals as goal
use Rattle.editor.proofs.walk.on_to.Goals.{then-s-k+else-j-at-ne43, else-s-k}

pub loop-j-init : goal.loop-j-init
loop-j-init c = (way-start, stays-still, refl)

pub shape_of-j-then-at-j : goal.shape_of-j-then-at-j
shape_of-j-then-at-j c = c.loop-j.invariant.2

pub returns-then-at-j : goal.returns-then-at-j
returns-then-at-j c =
    let l = c.loop-j in
    ((λ b a h. on-ends _ (l.invariant.0 b a h) c.if-at-j.true), l.invariant.1)

pub bounds-j-at : goal.bounds-j-at
bounds-j-at c = c.if-at-j.false

pub shape_of-j-then-j-at-ne43 : goal.shape_of-j-then-j-at-ne43
shape_of-j-then-j-at-ne43 c = c.loop-j.invariant.2

pub returns-then-j-at-ne43 : goal.returns-then-j-at-ne43
returns-then-j-at-ne43 c =
    let l = c.loop-j in
    ((λ b a h. on-stops _ (l.invariant.0 b a h) c.if-at-j.false c.if-s-k.true c.if-j-at-ne43.true), l.invariant.1)

pub pass_record-s-requires : goal.pass_record-s-requires
pass_record-s-requires c = passable ((c.loop-j.invariant.0 c.requires.0 c.requires.1 c.requires.2)).holds c.if-at-j.false

pub loop-j-smaller : goal.loop-j-smaller
loop-j-smaller c =
    let r = c.pass_record-s in
    omega (arith, c.if-at-j.false, r.auto.j, r.ensures.2)

pub loop-j-preserved : goal.loop-j-preserved
loop-j-preserved c =
    let l = c.loop-j in
    let r = c.pass_record-s in
    let more = c.if-at-j.false in (
      (λ b a h. on-goes _ (l.invariant.0 b a h) more (elim c.if-s-k.branch [ then-s-k+else-j-at-ne43 w ↦ inr w.if-j-at-ne43.false | else-s-k w ↦ inl w.if-s-k.false ]) r.ensures),
      stays_on l.invariant.1 r.ensures.1,
      r.auto.j ∙ l.invariant.2,
    )
