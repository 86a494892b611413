-- `searches::alternatives`, `searches::conjunction` and `searches::part`, which call each other, meet their contracts. Assumes nothing.
use mathlib.Core.Path.{◌∙◌, sym}
use native.Mathlib.Omega.{arith}
use Rattle.answers.proofs.Taking.{passed}
use Rattle.searches.proofs.Answering.{operated}
use Rattle.searches.proofs.Steps.{alternates, conjoins}
use Rattle.searches.proofs.Joining.{first-refused, begins, joined-ends, right-refused, joins}
use Rattle.searches.proofs.Parts.{one-string, bracket-within, too_deep, inner_room, inner-refused, inner-open, inner-closed}
use Rattle.searches.proofs.+alternatives_conjunction_part.Goals as goal

pub alternatives-returns-in_err-left : goal.alternatives-returns-in_err-left
alternatives-returns-in_err-left t c = rw (passed _ _ c.from_residual.ensures.1) (first-refused (alternates c.args.deep c.args.s.now) 2 (omega arith) c.args.at _ (omega arith) _ _ c.in_err-left.ensures)

pub alternatives-loop-next-init : goal.alternatives-loop-next-init
alternatives-loop-next-init t c = begins (alternates c.args.deep c.args.s.now) 2 (omega arith) c.args.at _ (omega arith) c.in_ok-left.ensures

pub alternatives-returns-in_err-right : goal.alternatives-returns-in_err-right
alternatives-returns-in_err-right t c = rw (passed _ _ c.from_residual-in_err-right.ensures.1) (right-refused (alternates c.args.deep c.args.s.now) 2 (omega arith) c.args.at _ (omega arith) c.loop-next.invariant (operated c.args.s.now 124 c.loop-next.left.next _ c.in-Some.ensures.operator c.in-Some.ensures.right) _ _ c.in_err-right.ensures)

pub alternatives-loop-next-preserved : goal.alternatives-loop-next-preserved
alternatives-loop-next-preserved t c = rw c.joint.ensures (joins (alternates c.args.deep c.args.s.now) 2 (omega arith) c.args.at _ (omega arith) c.loop-next.invariant (operated c.args.s.now 124 c.loop-next.left.next _ c.in-Some.ensures.operator c.in-Some.ensures.right) c.in_ok-right.ensures c.conjunction-in-Some.auto.w)

pub alternatives-returns : goal.alternatives-returns
alternatives-returns t c = joined-ends (alternates c.args.deep c.args.s.now) 2 (omega arith) c.args.at _ (omega arith) c.loop-next.invariant c.args.w.now (sym c.in_default.ensures.operator) c.in_ok-left.ensures.kept

pub conjunction-returns-in_err-left : goal.conjunction-returns-in_err-left
conjunction-returns-in_err-left t c = rw (passed _ _ c.from_residual.ensures.1) (first-refused (conjoins c.args.deep c.args.s.now) 1 (omega arith) c.args.at _ (omega arith) _ _ c.in_err-left.ensures)

pub conjunction-loop-next-init : goal.conjunction-loop-next-init
conjunction-loop-next-init t c = begins (conjoins c.args.deep c.args.s.now) 1 (omega arith) c.args.at _ (omega arith) c.in_ok-left.ensures

pub conjunction-returns-in_err-right : goal.conjunction-returns-in_err-right
conjunction-returns-in_err-right t c = rw (passed _ _ c.from_residual-in_err-right.ensures.1) (right-refused (conjoins c.args.deep c.args.s.now) 1 (omega arith) c.args.at _ (omega arith) c.loop-next.invariant (operated c.args.s.now 38 c.loop-next.left.next _ c.in-Some.ensures.operator c.in-Some.ensures.right) _ _ c.in_err-right.ensures)

pub conjunction-loop-next-preserved : goal.conjunction-loop-next-preserved
conjunction-loop-next-preserved t c = rw c.joint.ensures (joins (conjoins c.args.deep c.args.s.now) 1 (omega arith) c.args.at _ (omega arith) c.loop-next.invariant (operated c.args.s.now 38 c.loop-next.left.next _ c.in-Some.ensures.operator c.in-Some.ensures.right) c.in_ok-right.ensures c.part-in-Some.auto.w)

pub conjunction-returns : goal.conjunction-returns
conjunction-returns t c = joined-ends (conjoins c.args.deep c.args.s.now) 1 (omega arith) c.args.at _ (omega arith) c.loop-next.invariant c.args.w.now (sym c.in_default.ensures.operator) c.in_ok-left.ensures.kept

pub part-returns-then-next_byte-ne40 : goal.part-returns-then-next_byte-ne40
part-returns-then-next_byte-ne40 t c =
    one-string c.args.s.now c.args.at c.args.deep c.skip_spaces-i.ensures.place c.skip_spaces-i.ensures.within.0 _ _ _ _ (λ e. c.if-next_byte-ne40.true (c.next_byte.ensures ∙ e)) c.string_part.ensures

pub part-returns-then-deep-eq0 : goal.part-returns-then-deep-eq0
part-returns-then-deep-eq0 t c = rw c.at.ensures (too_deep c.args.s.now c.args.at c.args.deep c.skip_spaces-i.ensures.place c.skip_spaces-i.ensures.within.0 (sym c.next_byte.ensures ∙ c.if-next_byte-ne40.false) c.if-deep-eq0.true)

pub part-alternatives-requires : goal.part-alternatives-requires
part-alternatives-requires t c =
    (omega (arith, c.decreases, bracket-within c.args.s.now c.args.at c.args.deep c.skip_spaces-i.ensures.place c.skip_spaces-i.ensures.within.0 (sym c.next_byte.ensures ∙ c.if-next_byte-ne40.false), c.skip_spaces-i.ensures.within.0), inner_room c.args.s.now c.args.at c.args.deep c.skip_spaces-i.ensures.place c.skip_spaces-i.ensures.within.0 (sym c.next_byte.ensures ∙ c.if-next_byte-ne40.false) c.requires)

pub part-returns-in_err-inner : goal.part-returns-in_err-inner
part-returns-in_err-inner t c = rw (passed _ _ c.from_residual.ensures.1) (inner-refused c.args.s.now c.args.at c.args.deep c.skip_spaces-i.ensures.place c.skip_spaces-i.ensures.within.0 (sym c.next_byte.ensures ∙ c.if-next_byte-ne40.false) c.if-deep-eq0.false _ _ c.in_err-inner.ensures)

pub part-returns-in_err-next : goal.part-returns-in_err-next
part-returns-in_err-next t c = rw (passed _ _ c.from_residual-in_err-next.ensures.1) (inner-open c.args.s.now c.args.at c.args.deep c.skip_spaces-i.ensures.place c.skip_spaces-i.ensures.within.0 (sym c.next_byte.ensures ∙ c.if-next_byte-ne40.false) c.if-deep-eq0.false c.in_ok-inner.ensures _ _ c.in_err-next.ensures)

pub part-returns : goal.part-returns
part-returns t c = inner-closed c.args.s.now c.args.at c.args.deep c.skip_spaces-i.ensures.place c.skip_spaces-i.ensures.within.0 (sym c.next_byte.ensures ∙ c.if-next_byte-ne40.false) c.if-deep-eq0.false c.in_ok-inner.ensures _ c.in_ok-next.ensures
