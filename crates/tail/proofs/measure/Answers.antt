use mathlib.Core.Path.{refl}
use native.Mathlib.Omega.{arith}
use Rattle.editor.proofs.Held.{held-drop, held-length}
use Rattle.editor.proofs.Parts.{handed}
use Rattle.tail.proofs.Behind.{kept-asks, behind-end, behind-kept, behind-long, behind-full, behind-on}
use Rattle.tail.proofs.measure.Goals as goal

pub overflow_sub-room : goal.overflow_sub-room
overflow_sub-room c = c.requires.1.2.order

pub loop-at-init : goal.loop-at-init
loop-at-init c = ((λ ls d stands q good. record { rest = ls; bytes = q; good = good; same = refl }), omega (arith, held-length c.requires.1.2))

pub grows_by-requires : goal.grows_by-requires
grows_by-requires c = (c.requires.0, behind-kept ((c.loop-at.invariant.0 c.requires.1.1 c.requires.0.0 c.requires.0.1 (held-drop c.requires.1.2) c.requires.1.2.good)) c.loop-at-test.true)

pub returns-in_err-n : goal.returns-in_err-n
returns-in_err-n c =
    let l = c.loop-at in
    let r = c.grows_by in
    λ b ls d stands h.
    rw (handed _ _ c.from_residual.ensures.1) (behind-long (l.invariant.0 ls d stands (held-drop h) h.good) c.loop-at-test.true _ _ stands _ r.ensures _ c.in_err-n.was)

pub returns-then-room-n : goal.returns-then-room-n
returns-then-room-n c =
    let l = c.loop-at in
    let r = c.grows_by in
    λ b ls d stands h. behind-full (l.invariant.0 ls d stands (held-drop h) h.good) c.loop-at-test.true _ _ stands _ r.ensures _ c.in_ok-n.was c.if-room-n.true

pub record_end-at-requires : goal.record_end-at-requires
record_end-at-requires c = c.loop-at.invariant.1

pub loop-at-smaller : goal.loop-at-smaller
loop-at-smaller c =
    let l = c.loop-at in
    let k = kept-asks c.args.j.now l.at (behind-kept ((c.loop-at.invariant.0 c.requires.1.1 c.requires.0.0 c.requires.0.1 (held-drop c.requires.1.2) c.requires.1.2.good)) c.loop-at-test.true) in
    omega (arith, k.0, k.1, c.record_end-at.ensures)

pub loop-at-preserved : goal.loop-at-preserved
loop-at-preserved c =
    let l = c.loop-at in
    let r = c.grows_by in
    let more = c.loop-at-test.true in
    let k = kept-asks c.args.j.now l.at (behind-kept ((c.loop-at.invariant.0 c.requires.1.1 c.requires.0.0 c.requires.0.1 (held-drop c.requires.1.2) c.requires.1.2.good)) more) in
    let room = c.if-room-n.false in (
      (λ ls d stands q good.
          behind-on (l.invariant.0 ls d stands q good) more _ _ stands _ r.ensures _ c.in_ok-n.was _ c.record_end-at.ensures (omega arith)),
      omega (arith, k.2, c.record_end-at.ensures),
    )

pub returns : goal.returns
returns c =
    let end = c.loop-at-test.false in
    λ b ls d stands h. behind-end (c.loop-at.invariant.0 ls d stands (held-drop h) h.good) (omega arith)
