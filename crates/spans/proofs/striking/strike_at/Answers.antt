use native.Mathlib.Omega.{arith}
use Rattle.editor.proofs.Held.{stays-still}
use Rattle.spans.proofs.Erasing.{at-inside, at-ends, hole-inserted, hole-changed, erased-inserted, erased-kept, erased-changed, stays-wider}
use Rattle.spans.proofs.striking.strike_at.Goals as goal

pub bounds-j-at : goal.bounds-j-at
bounds-j-at c = omega (arith, at-inside c.args.at c.requires)

pub close_hole-requires : goal.close_hole-requires
close_hole-requires c = hole-inserted c.requires _ c.record_end-next.ensures

pub returns-then-m-eq43 : goal.returns-then-m-eq43
returns-then-m-eq43 c =
    let q = c.close_hole.ensures in (
      λ b m x a. erased-inserted _ _ _ b m _ c.if-m-eq43.true c.record_end-next.ensures q x a,
      stays-wider _ q.1,
    )

pub overflow_sub-end : goal.overflow_sub-end
overflow_sub-end c = omega (arith, at-ends c.requires _ c.record_end-end.ensures)

pub mark_deleted-requires : goal.mark_deleted-requires
mark_deleted-requires c = omega (arith, at-inside c.args.at c.requires)

pub close_hole-requires-then-m-eq60 : goal.close_hole-requires-then-m-eq60
close_hole-requires-then-m-eq60 c =
    let w = hole-changed c.args.at c.if-m-eq60.true c.requires _ _ c.record_end-end.ensures c.zero_after-z.ensures in
    (w.0, w.1, omega (arith, w.2, c.mark_deleted.auto.j))

pub returns-then-m-eq60 : goal.returns-then-m-eq60
returns-then-m-eq60 c =
    let q = c.close_hole-then-m-eq60.ensures in (
      λ b m x a. erased-changed _ _ _ b m _ _ c.if-m-eq60.true c.record_end-end.ensures c.zero_after-z.ensures c.mark_deleted.ensures q x a,
      stays-wider _ q.1,
    )

pub mark_deleted-requires-2 : goal.mark_deleted-requires-2
mark_deleted-requires-2 c = omega (arith, at-inside c.args.at c.requires)

pub returns : goal.returns
returns c = (λ b m x a. erased-kept _ _ _ b m c.if-m-eq43.false c.if-m-eq60.false c.mark_deleted-2.ensures x a, stays-still)
