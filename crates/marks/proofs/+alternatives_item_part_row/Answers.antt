-- `marks::alternatives`, `marks::item`, `marks::part` and `marks::row`, which call each other, meet their contracts. Assumes nothing.
use mathlib.Core.Path.{sym, ap, ◌∙◌}
use native.Mathlib.Omega.{arith}
use Rattle.patterns.proofs.Places.{next-within}
use Rattle.marks.specs.Sweeping.{never}
use Rattle.marks.specs.Written.{both}
use Rattle.marks.specs.declared.Flow.{Flow}
use Rattle.marks.proofs.Looping.{alternatives-begin, alternatives-end, another-room, another-past, alternatives-on, row-begins, row_ends, item_room, item-past, row_on}
use Rattle.marks.proofs.Parts.{once-room, once-flows, mark-inside, body-room, many-flows, inner_room, close-inside, bracket-flows}
use Rattle.marks.proofs.Places.{ends-inside}
use Rattle.marks.proofs.+alternatives_item_part_row.Goals as goal

pub alternatives-loop-f-init : goal.alternatives-loop-f-init
alternatives-loop-f-init t c = alternatives-begin _ _ _ _

pub alternatives-row-requires : goal.alternatives-row-requires
alternatives-row-requires t c =
    let loop = c.loop-f.invariant in
    (omega (arith, c.decreases, loop.far), another-room loop c.requires)

pub alternatives-shape_of-marks-then-not-is_next : goal.alternatives-shape_of-marks-then-not-is_next
alternatives-shape_of-marks-then-not-is_next t c = c.row.auto.marks ∙ c.loop-f.invariant.same

pub alternatives-returns-then-not-is_next : goal.alternatives-returns-then-not-is_next
unfolding never both
alternatives-returns-then-not-is_next t c =
    let loop = c.loop-f.invariant in
    let row = c.row in
    let joined = c.joined-g.ensures in
    let last = sym c.is_next.ensures ∙ c.if-not-is_next.true in
    rw joined (alternatives-end loop row.ensures (record { old = omega arith; new = omega arith }) (rw joined at last))

pub alternatives-overflow_add-g : goal.alternatives-overflow_add-g
alternatives-overflow_add-g t c =
    let bar = sym c.is_next.ensures ∙ c.if-not-is_next.false in
    omega (arith, next-within c.args.s.now c.joined-g.result.at 124 (omega arith) bar)

pub alternatives-loop-f-smaller : goal.alternatives-loop-f-smaller
unfolding both
alternatives-loop-f-smaller t c =
    let loop = c.loop-f.invariant in
    let row = c.row in
    let bar = sym c.is_next.ensures ∙ c.if-not-is_next.false in
    omega (
      arith,
      next-within c.args.s.now c.joined-g.result.at 124 (omega arith) bar,
      another-past loop row.ensures c.requires,
      ap (λ (h : Flow). h.at) c.joined-g.ensures,
    )

pub alternatives-loop-f-preserved : goal.alternatives-loop-f-preserved
unfolding both
alternatives-loop-f-preserved t c =
    let loop = c.loop-f.invariant in
    let row = c.row in
    let joined = c.joined-g.ensures in
    let bar = sym c.is_next.ensures ∙ c.if-not-is_next.false in
    rw joined (alternatives-on loop row.ensures c.requires row.auto.marks (rw joined at bar))

pub item-part-requires : goal.item-part-requires
item-part-requires t c =
    (omega (arith, c.decreases), once-room (sym c.is_next.ensures ∙ c.if-not-is_next.true) c.requires)

pub item-returns-then-not-is_next : goal.item-returns-then-not-is_next
item-returns-then-not-is_next t c =
    once-flows (sym c.is_next.ensures ∙ c.if-not-is_next.true) c.part.ensures

pub item-bounds-marks-slot : goal.item-bounds-marks-slot
item-bounds-marks-slot t c = mark-inside (sym c.is_next.ensures ∙ c.if-not-is_next.false) c.requires

pub item-overflow_add-f : goal.item-overflow_add-f
item-overflow_add-f t c =
    let there = sym c.is_next.ensures ∙ c.if-not-is_next.false in
    omega (arith, next-within c.args.s.now c.args.f.at 35 (omega arith) there)

pub item-overflow_add-slot : goal.item-overflow_add-slot
item-overflow_add-slot t c =
    let there = sym c.is_next.ensures ∙ c.if-not-is_next.false in
    omega (arith, mark-inside there c.requires)

pub item-part-body-requires : goal.item-part-body-requires
item-part-body-requires t c =
    let there = sym c.is_next.ensures ∙ c.if-not-is_next.false in
    (omega (arith, c.decreases, next-within c.args.s.now c.args.f.at 35 (omega arith) there), body-room there c.requires _ _)

pub item-bounds-marks-slot-2 : goal.item-bounds-marks-slot-2
item-bounds-marks-slot-2 t c =
    let there = sym c.is_next.ensures ∙ c.if-not-is_next.false in
    omega (arith, mark-inside there c.requires, c.part-body.auto.marks)

pub item-returns : goal.item-returns
unfolding never
item-returns t c =
    let there = sym c.is_next.ensures ∙ c.if-not-is_next.false in
    many-flows there (mark-inside there c.requires) c.min-again.ensures c.part-body.ensures _ c.min.ensures

pub part-single-requires : goal.part-single-requires
part-single-requires t c = (c.requires, sym c.is_next.ensures ∙ c.if-not-is_next.true)

pub part-returns-then-not-is_next : goal.part-returns-then-not-is_next
part-returns-then-not-is_next t c = c.single.ensures

pub part-overflow_add-inner : goal.part-overflow_add-inner
part-overflow_add-inner t c =
    let opens = sym c.is_next.ensures ∙ c.if-not-is_next.false in
    omega (arith, next-within c.args.s.now c.args.f.at 40 (omega arith) opens)

pub part-alternatives-g-requires : goal.part-alternatives-g-requires
part-alternatives-g-requires t c =
    let opens = sym c.is_next.ensures ∙ c.if-not-is_next.false in
    (omega (arith, c.decreases, next-within c.args.s.now c.args.f.at 40 (omega arith) opens), inner_room opens c.requires)

pub part-overflow_add-g : goal.part-overflow_add-g
part-overflow_add-g t c =
    let opens = sym c.is_next.ensures ∙ c.if-not-is_next.false in
    omega (arith, close-inside opens c.alternatives-g.ensures c.requires)

pub part-returns : goal.part-returns
part-returns t c =
    let opens = sym c.is_next.ensures ∙ c.if-not-is_next.false in
    bracket-flows opens c.alternatives-g.ensures

pub row-loop-marks-init : goal.row-loop-marks-init
row-loop-marks-init t c = row-begins _ _ _ _

pub row-item-g-requires : goal.row-item-g-requires
row-item-g-requires t c =
    let loop = c.loop-marks in
    let more = sym c.ends_row.ensures ∙ c.loop-marks-test.true in
    (omega (arith, c.decreases, loop.invariant.far), item_room loop.invariant more c.requires)

pub row-loop-marks-smaller : goal.row-loop-marks-smaller
row-loop-marks-smaller t c =
    let loop = c.loop-marks in
    let more = sym c.ends_row.ensures ∙ c.loop-marks-test.true in
    omega (arith, ends-inside c.args.s.now loop.g.at more, item-past loop.invariant more c.item-g.ensures c.requires)

pub row-loop-marks-preserved : goal.row-loop-marks-preserved
row-loop-marks-preserved t c =
    let loop = c.loop-marks in
    let more = sym c.ends_row.ensures ∙ c.loop-marks-test.true in
    row_on loop.invariant more c.item-g.ensures c.requires c.item-g.auto.marks

pub row-shape_of-marks : goal.row-shape_of-marks
row-shape_of-marks t c = c.loop-marks.invariant.same

pub row-returns : goal.row-returns
row-returns t c = row_ends c.loop-marks.invariant (sym c.ends_row.ensures ∙ c.loop-marks-test.false)
