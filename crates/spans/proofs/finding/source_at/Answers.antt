use native.Mathlib.Omega.{arith}
use Rattle.spans.proofs.Standing.{stands-held, held-most, scanning-start, scanning-in, scanning-found, scanning-source, scanning-inserted, scanning-less}
use Rattle.spans.proofs.finding.source_at.Goals.{then-j-at-ne43+else-n-b, else-j-at-ne43}
use Rattle.spans.proofs.finding.source_at.Goals as goal

pub loop-at-init : goal.loop-at-init
loop-at-init c = ((λ b a q m h. scanning-start b a q h), c.requires.1)

pub bounds-j-at : goal.bounds-j-at
bounds-j-at c =
    let most = held-most c.requires.0.2 c.requires.2 in
    let shown = c.loop-at.invariant.0 c.requires.0.0 c.requires.0.1 c.requires.0.2.past most (stands-held c.requires.0.2) in
    scanning-in shown _ c.loop-at.invariant.1 most

pub returns-then-n-b : goal.returns-then-n-b
returns-then-n-b c =
    let l = c.loop-at in
    λ b a h.
    let m = held-most h c.requires.2 in
    scanning-found (l.invariant.0 b a h.past m (stands-held h)) _ l.invariant.1 m c.if-j-at-ne43.true (omega (arith, c.if-n-b.true))

pub record_end-at-requires : goal.record_end-at-requires
record_end-at-requires c =
    let most = held-most c.requires.0.2 c.requires.2 in
    let shown = c.loop-at.invariant.0 c.requires.0.0 c.requires.0.1 c.requires.0.2.past most (stands-held c.requires.0.2) in
    omega (arith, scanning-in shown _ c.loop-at.invariant.1 most)

pub loop-at-smaller : goal.loop-at-smaller
loop-at-smaller c =
    let most = held-most c.requires.0.2 c.requires.2 in
    let shown = c.loop-at.invariant.0 c.requires.0.0 c.requires.0.1 c.requires.0.2.past most (stands-held c.requires.0.2) in
    let w = scanning-less shown _ c.loop-at.invariant.1 most _ c.record_end-at.ensures in
    omega (arith, w.0, w.1)

pub loop-at-preserved : goal.loop-at-preserved
loop-at-preserved c =
    let l = c.loop-at in
    let is = c.record_end-at.ensures in (
      (λ b a q m h.
          let w = l.invariant.0 b a q m h in
          elim c.if-j-at-ne43.branch [
            | then-j-at-ne43+else-n-b v ↦ scanning-source w _ l.invariant.1 m _ _ is v.if-j-at-ne43.true v.n-is
            | else-j-at-ne43 v ↦ scanning-inserted w _ l.invariant.1 m _ _ is v.if-j-at-ne43.false v.n-is
          ]),
      elim c.if-j-at-ne43.branch [ then-j-at-ne43+else-n-b v ↦ omega (arith, v.if-n-b.false, v.n-is) | else-j-at-ne43 v ↦ omega (arith, v.n-is, l.invariant.1) ],
    )
