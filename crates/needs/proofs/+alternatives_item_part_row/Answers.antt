-- `needs::alternatives`, `needs::item`, `needs::part` and `needs::row`, which call each other, meet their contracts. Assumes nothing.
use mathlib.Core.Path.{sym, ◌∙◌}
use native.Mathlib.Omega.{arith}
use Rattle.patterns.proofs.Places.{next-within}
use Rattle.needs.proofs.Looping.{row-there, alternatives-begin, alternatives-end, another-there, another-past, alternatives-on, row-begins, row_ends, item-there, item-past, row_on}
use Rattle.needs.proofs.Parts.{once-there, once-needs, body-there, many-needs, inner-there, close-inside, bracket-needs}
use Rattle.needs.proofs.Joining.{or-later}
use Rattle.marks.proofs.Places.{ends-inside}
use Rattle.needs.proofs.+alternatives_item_part_row.Goals as goal

pub alternatives-row-g-requires : goal.alternatives-row-g-requires
alternatives-row-g-requires t c = (omega (arith, c.decreases), row-there c.requires)

pub alternatives-loop-next-init : goal.alternatives-loop-next-init
alternatives-loop-next-init t c = alternatives-begin c.row-g.ensures c.requires

pub alternatives-overflow_add-g : goal.alternatives-overflow_add-g
alternatives-overflow_add-g t c =
    let bar = sym c.is_next.ensures ∙ c.loop-next-test.true in
    omega (arith, next-within c.args.s.now c.loop-next.g.at 124 (omega arith) bar)

pub alternatives-row-next-requires : goal.alternatives-row-next-requires
alternatives-row-next-requires t c =
    let loop = c.loop-next in
    let bar = sym c.is_next.ensures ∙ c.loop-next-test.true in
    (omega (arith, c.decreases, loop.invariant.far, next-within c.args.s.now loop.g.at 124 (omega arith) bar), another-there loop.invariant bar c.requires)

pub alternatives-loop-next-smaller : goal.alternatives-loop-next-smaller
alternatives-loop-next-smaller t c =
    let loop = c.loop-next in
    let bar = sym c.is_next.ensures ∙ c.loop-next-test.true in
    omega (arith, next-within c.args.s.now loop.g.at 124 (omega arith) bar, another-past loop.invariant bar c.row-next.ensures c.requires)

pub alternatives-loop-next-preserved : goal.alternatives-loop-next-preserved
alternatives-loop-next-preserved t c =
    let bar = sym c.is_next.ensures ∙ c.loop-next-test.true in
    alternatives-on c.loop-next.invariant bar c.row-next.ensures _ c.same_byte.ensures c.requires

pub alternatives-returns : goal.alternatives-returns
alternatives-returns t c = alternatives-end c.loop-next.invariant (sym c.is_next.ensures ∙ c.loop-next-test.false)

pub item-part-requires : goal.item-part-requires
item-part-requires t c =
    (omega (arith, c.decreases), once-there (sym c.is_next.ensures ∙ c.if-not-is_next.true) c.requires)

pub item-returns-then-not-is_next : goal.item-returns-then-not-is_next
item-returns-then-not-is_next t c = once-needs (sym c.is_next.ensures ∙ c.if-not-is_next.true) c.part.ensures

pub item-overflow_add-at : goal.item-overflow_add-at
item-overflow_add-at t c =
    let sign = sym c.is_next.ensures ∙ c.if-not-is_next.false in
    omega (arith, next-within c.args.s.now c.args.at 35 (omega arith) sign)

pub item-part-body-requires : goal.item-part-body-requires
item-part-body-requires t c =
    let sign = sym c.is_next.ensures ∙ c.if-not-is_next.false in
    (omega (arith, c.decreases, next-within c.args.s.now c.args.at 35 (omega arith) sign), body-there sign c.requires)

pub item-returns : goal.item-returns
item-returns t c = many-needs (sym c.is_next.ensures ∙ c.if-not-is_next.false) c.part-body.ensures

pub part-single-requires : goal.part-single-requires
part-single-requires t c = (c.requires, sym c.is_next.ensures ∙ c.if-not-is_next.true)

pub part-returns-then-not-is_next : goal.part-returns-then-not-is_next
part-returns-then-not-is_next t c = c.single.ensures

pub part-overflow_add-at : goal.part-overflow_add-at
part-overflow_add-at t c =
    let opens = sym c.is_next.ensures ∙ c.if-not-is_next.false in
    omega (arith, next-within c.args.s.now c.args.at 40 (omega arith) opens)

pub part-alternatives-inner-requires : goal.part-alternatives-inner-requires
part-alternatives-inner-requires t c =
    let opens = sym c.is_next.ensures ∙ c.if-not-is_next.false in
    (omega (arith, c.decreases, next-within c.args.s.now c.args.at 40 (omega arith) opens), inner-there opens c.requires)

pub part-overflow_add-result : goal.part-overflow_add-result
part-overflow_add-result t c =
    let opens = sym c.is_next.ensures ∙ c.if-not-is_next.false in
    omega (arith, close-inside opens c.alternatives-inner.ensures c.requires)

pub part-returns : goal.part-returns
part-returns t c = bracket-needs (sym c.is_next.ensures ∙ c.if-not-is_next.false) c.alternatives-inner.ensures

pub row-loop-next-init : goal.row-loop-next-init
row-loop-next-init t c = row-begins _ _

pub row-item-next-requires : goal.row-item-next-requires
row-item-next-requires t c =
    let loop = c.loop-next in
    let more = sym c.ends_row.ensures ∙ c.loop-next-test.true in
    (omega (arith, c.decreases, loop.invariant.far), item-there loop.invariant more c.requires)

pub row-loop-next-smaller : goal.row-loop-next-smaller
row-loop-next-smaller t c =
    let loop = c.loop-next in
    let more = sym c.ends_row.ensures ∙ c.loop-next-test.true in
    omega (arith, ends-inside c.args.s.now loop.g.at more, item-past loop.invariant more c.item-next.ensures c.requires)

pub row-loop-next-preserved : goal.row-loop-next-preserved
row-loop-next-preserved t c =
    let loop = c.loop-next in
    let more = sym c.ends_row.ensures ∙ c.loop-next-test.true in
    row_on loop.invariant more c.item-next.ensures c.requires _ (c.or.ensures ∙ or-later c.loop-next.g.byte c.item-next.result.byte)

pub row-returns : goal.row-returns
row-returns t c = row_ends c.loop-next.invariant (sym c.ends_row.ensures ∙ c.loop-next-test.false)
