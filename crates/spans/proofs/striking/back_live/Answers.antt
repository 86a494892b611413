use mathlib.Core.Path.{refl, ◌∙◌}
use native.Mathlib.Omega.{arith}
use Rattle.editor.proofs.Walking.{unpassable}
use Rattle.editor.proofs.Held.{stays-still, stays_on}
use Rattle.spans.proofs.Struck.{withdrawing-start, withdrawn-start, withdrawn-all, withdrawing-in, withdrawing-live, withdrawing-dead}
use Rattle.spans.proofs.striking.back_live.Goals as goal

pub loop-left-init : goal.loop-left-init
loop-left-init c = (withdrawing-start _, stays-still, refl)

pub shape_of-j-then-s-eq0 : goal.shape_of-j-then-s-eq0
shape_of-j-then-s-eq0 c = c.loop-left.invariant.2

pub returns-then-s-eq0 : goal.returns-then-s-eq0
returns-then-s-eq0 c =
    let l = c.loop-left in
    ((λ b a h. withdrawn-start (l.invariant.0 b a h) c.if-s-eq0.true), l.invariant.1)

pub unpass_record-s-requires : goal.unpass_record-s-requires
unpass_record-s-requires c = unpassable (c.loop-left.invariant.0 c.requires.0 c.requires.1 c.requires.2).holds (omega arith)

pub bounds-j-at : goal.bounds-j-at
bounds-j-at c = withdrawing-in (c.loop-left.invariant.0 c.requires.0 c.requires.1 c.requires.2) (omega arith) (omega arith) c.unpass_record-s.ensures.0

pub overflow_sub-left : goal.overflow_sub-left
overflow_sub-left c = (omega arith)

pub loop-left-smaller-then-j-at-ne45 : goal.loop-left-smaller-then-j-at-ne45
loop-left-smaller-then-j-at-ne45 c = c.unpass_record-s.ensures.2

pub loop-left-preserved-then-j-at-ne45 : goal.loop-left-preserved-then-j-at-ne45
loop-left-preserved-then-j-at-ne45 c =
    let l = c.loop-left in
    let r = c.unpass_record-s in (
      (λ b a h. withdrawing-live (l.invariant.0 b a h) (omega arith) (omega arith) r.ensures.0 c.if-j-at-ne45.true),
      stays_on l.invariant.1 r.ensures.1,
      r.auto.j ∙ l.invariant.2,
    )

pub loop-left-smaller : goal.loop-left-smaller
loop-left-smaller c = c.unpass_record-s.ensures.2

pub loop-left-preserved : goal.loop-left-preserved
loop-left-preserved c =
    let l = c.loop-left in
    let r = c.unpass_record-s in (
      (λ b a h. withdrawing-dead (l.invariant.0 b a h) (omega arith) (omega arith) r.ensures.0 c.if-j-at-ne45.false),
      stays_on l.invariant.1 r.ensures.1,
      r.auto.j ∙ l.invariant.2,
    )

pub shape_of-j : goal.shape_of-j
shape_of-j c = c.loop-left.invariant.2

pub returns : goal.returns
returns c =
    let l = c.loop-left in
    ((λ b a h. withdrawn-all (l.invariant.0 b a h) (omega arith)), l.invariant.1)
