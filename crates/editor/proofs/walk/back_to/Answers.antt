use mathlib.Core.Path.{refl, ◌∙◌}
use native.Mathlib.Omega.{arith}
use Rattle.editor.proofs.Held.{stays_on, stays-still}
use Rattle.editor.proofs.Walking.{way-start, unpassable, past-some, back-goes, back-ends}
use Rattle.editor.proofs.walk.back_to.Goals as goal

pub loop-s-init : goal.loop-s-init
loop-s-init c = (way-start, stays-still, refl)

pub unpass_record-s-requires : goal.unpass_record-s-requires
unpass_record-s-requires c = unpassable ((c.loop-s.invariant.0 c.requires.0 c.requires.1 c.requires.2)).holds ((past-some ((c.loop-s.invariant.0 c.requires.0 c.requires.1 c.requires.2)).holds (let h = c.loop-s-test.true in omega arith)))

pub loop-s-smaller : goal.loop-s-smaller
loop-s-smaller c = c.unpass_record-s.ensures.2

pub loop-s-preserved : goal.loop-s-preserved
loop-s-preserved c =
    let l = c.loop-s in
    let r = c.unpass_record-s in (
      (λ b a h. back-goes _ (l.invariant.0 b a h) c.loop-s-test.true r.ensures),
      stays_on l.invariant.1 r.ensures.1,
      r.auto.j ∙ l.invariant.2,
    )

pub shape_of-j : goal.shape_of-j
shape_of-j c = c.loop-s.invariant.2

pub returns : goal.returns
returns c =
    let l = c.loop-s in
    ((λ b a h. back-ends _ (l.invariant.0 b a h) (let z = c.loop-s-test.false in omega arith)), l.invariant.1)
