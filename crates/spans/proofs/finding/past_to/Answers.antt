use mathlib.Core.Path.{◌∙◌}
use native.Mathlib.Omega.{arith}
use Rattle.theorems.specs.RecordLaws.{sources-append}
use Rattle.editor.proofs.Records.{sourced, sources-cons, sources-nil}
use Rattle.spans.proofs.Standing.{stands-held, stands-in}
use Rattle.spans.proofs.Sums.{counting-first, counting-less, counting-done, counting-on, source_more, source-same}
use Rattle.spans.proofs.finding.past_to.Goals.{then-j-at-ne43, else-j-at-ne43}
use Rattle.spans.proofs.finding.past_to.Goals as goal

pub loop-at-init : goal.loop-at-init
loop-at-init c = λ b m d q h is. record { left = m; stands = h; sum = omega arith }

pub bounds-j-at : goal.bounds-j-at
bounds-j-at c =
    let shown = c.loop-at.invariant c.requires.0 c.requires.1 c.requires.2 c.requires.3.past (stands-held c.requires.3) c.requires.4 in
    stands-in (counting-first shown _ c.requires.4 c.loop-at-test.true).2

pub overflow_add-n : goal.overflow_add-n
overflow_add-n c =
    let shown = c.loop-at.invariant c.requires.0 c.requires.1 c.requires.2 c.requires.3.past (stands-held c.requires.3) c.requires.4 in
    let w = c.requires in
    omega (arith, shown.sum, sources-append w.1 w.2, w.3.lines, w.3.few)

pub record_end-at-requires : goal.record_end-at-requires
record_end-at-requires c =
    let shown = c.loop-at.invariant c.requires.0 c.requires.1 c.requires.2 c.requires.3.past (stands-held c.requires.3) c.requires.4 in
    omega (arith, stands-in (counting-first shown _ c.requires.4 c.loop-at-test.true).2)

pub loop-at-smaller : goal.loop-at-smaller
loop-at-smaller c =
    let shown = c.loop-at.invariant c.requires.0 c.requires.1 c.requires.2 c.requires.3.past (stands-held c.requires.3) c.requires.4 in
    let w = counting-less shown _ c.requires.4 c.loop-at-test.true _ c.record_end-at.ensures in
    omega (arith, w.0, w.1)

pub loop-at-preserved : goal.loop-at-preserved
loop-at-preserved c =
    λ b m d q h is.
    counting-on (c.loop-at.invariant b m d q h is) _ is sourced sources-cons c.loop-at-test.true _ _ c.record_end-at.ensures
    (λ r rs s to. elim c.if-j-at-ne43.branch [ then-j-at-ne43 w ↦ w.n-is ∙ source_more _ w.if-j-at-ne43.true r rs s | else-j-at-ne43 w ↦ w.n-is ∙ source-same _ w.if-j-at-ne43.false r rs s ])

pub returns : goal.returns
returns c =
    let l = c.loop-at in
    λ b m d h is. counting-done (l.invariant b m d h.past (stands-held h) is) _ is sources-nil (λ x. let y = c.loop-at-test.false in omega arith)
