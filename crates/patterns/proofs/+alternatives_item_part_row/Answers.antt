-- `patterns::alternatives`, `patterns::item`, `patterns::part` and `patterns::row`, which call each other, meet their contracts. Assumes nothing.
use mathlib.Core.Path.{sym, ◌∙◌}
use native.Mathlib.Omega.{arith}
use Rattle.patterns.proofs.Places.{next-within}
use Rattle.patterns.proofs.Rows.{starts, row-fault, row_within, alternatives-end, alternatives-go, row_ends, item-fault, item-within, row_goes}
use Rattle.std.proofs.lemmas.Result.{err_from_is_err_and}
use Rattle.patterns.proofs.Parts.{no_number, number-fault, number-solid, no-bracket, ninth-bracket, inner-fault, inner-within, inner-closed}
use Rattle.patterns.proofs.+alternatives_item_part_row.Goals as goal

pub alternatives-loop-one-init : goal.alternatives-loop-one-init
alternatives-loop-one-init t c = starts _ c.requires

pub alternatives-row-requires : goal.alternatives-row-requires
alternatives-row-requires t c = (omega (arith, c.decreases, c.loop-one.invariant.after, c.loop-one.invariant.within), c.loop-one.invariant.within)

pub alternatives-returns-in_err-one : goal.alternatives-returns-in_err-one
alternatives-returns-in_err-one t c =
    let p = err_from_is_err_and c.from_residual.result c.from_residual.ensures.1 in
    rw (p.1, p.2) (row-fault _ c.loop-one.invariant c.in_err-one.ensures)

pub alternatives-returns-then-not-is_next : goal.alternatives-returns-then-not-is_next
alternatives-returns-then-not-is_next t c =
    let loop = c.loop-one in
    alternatives-end _ loop.invariant c.in_ok-one.ensures (sym c.is_next.ensures ∙ c.if-not-is_next.true)

pub alternatives-overflow_add-i : goal.alternatives-overflow_add-i
alternatives-overflow_add-i t c =
    let within = next-within _ _ 124 (omega arith) (sym c.is_next.ensures ∙ c.if-not-is_next.false) in
    omega (arith, within)

pub alternatives-loop-one-smaller : goal.alternatives-loop-one-smaller
alternatives-loop-one-smaller t c =
    let loop = c.loop-one in
    let within = next-within _ _ 124 (omega arith) (sym c.is_next.ensures ∙ c.if-not-is_next.false) in
    let far = row_within _ loop.invariant c.in_ok-one.ensures in
    omega (arith, within, far.0)

pub alternatives-loop-one-preserved : goal.alternatives-loop-one-preserved
alternatives-loop-one-preserved t c =
    let loop = c.loop-one in
    alternatives-go _ loop.invariant c.in_ok-one.ensures (sym c.is_next.ensures ∙ c.if-not-is_next.false)

pub item-part-requires : goal.item-part-requires
item-part-requires t c = (omega (arith, c.decreases), c.requires)

pub item-returns-then-not-is_next : goal.item-returns-then-not-is_next
item-returns-then-not-is_next t c = no_number _ _ _ (sym c.is_next.ensures ∙ c.if-not-is_next.true) c.part.ensures

pub item-overflow_add-at : goal.item-overflow_add-at
item-overflow_add-at t c =
    let within = next-within _ _ 35 (omega arith) (sym c.is_next.ensures ∙ c.if-not-is_next.false) in
    omega (arith, within)

pub item-part-requires-2 : goal.item-part-requires-2
item-part-requires-2 t c =
    let within = next-within _ _ 35 (omega arith) (sym c.is_next.ensures ∙ c.if-not-is_next.false) in
    (omega (arith, c.decreases, within), omega (arith, within))

pub item-returns-in_err-one : goal.item-returns-in_err-one
item-returns-in_err-one t c =
    let p = err_from_is_err_and c.from_residual.result c.from_residual.ensures.1 in
    rw (p.1, p.2) (number-fault _ _ _ (sym c.is_next.ensures ∙ c.if-not-is_next.false) c.in_err-one.ensures)

pub item-returns : goal.item-returns
item-returns t c = rw c.solid.ensures (number-solid _ _ _ (sym c.is_next.ensures ∙ c.if-not-is_next.false) c.in_ok-one.ensures)

pub part-single-requires : goal.part-single-requires
part-single-requires t c = c.requires

pub part-returns-then-not-is_next : goal.part-returns-then-not-is_next
part-returns-then-not-is_next t c = no-bracket _ _ _ (sym c.is_next.ensures ∙ c.if-not-is_next.true) c.single.ensures

pub part-returns-then-deep-eq0 : goal.part-returns-then-deep-eq0
part-returns-then-deep-eq0 t c = ninth-bracket _ _ _ (sym c.is_next.ensures ∙ c.if-not-is_next.false) c.if-deep-eq0.true

pub part-overflow_add-at : goal.part-overflow_add-at
part-overflow_add-at t c =
    let within = next-within _ _ 40 (omega arith) (sym c.is_next.ensures ∙ c.if-not-is_next.false) in
    omega (arith, within)

pub part-alternatives-requires : goal.part-alternatives-requires
part-alternatives-requires t c =
    let within = next-within _ _ 40 (omega arith) (sym c.is_next.ensures ∙ c.if-not-is_next.false) in
    (omega (arith, c.decreases, within), omega (arith, within))

pub part-returns-in_err-inner : goal.part-returns-in_err-inner
part-returns-in_err-inner t c =
    let p = err_from_is_err_and c.from_residual.result c.from_residual.ensures.1 in
    rw (p.1, p.2) (inner-fault _ _ _ (sym c.is_next.ensures ∙ c.if-not-is_next.false) c.if-deep-eq0.false c.in_err-inner.ensures)

pub part-close_bracket-requires : goal.part-close_bracket-requires
part-close_bracket-requires t c =
    let is-next = c.is_next in
    let else1 = c.if-not-is_next in
    let else2 = c.if-deep-eq0 in
    (inner-within _ _ _ (sym is-next.ensures ∙ else1.false) else2.false c.in_ok-inner.ensures).1

pub part-returns : goal.part-returns
part-returns t c =
    let is-next = c.is_next in
    let else1 = c.if-not-is_next in
    let else2 = c.if-deep-eq0 in
    inner-closed _ _ _ (sym is-next.ensures ∙ else1.false) else2.false c.in_ok-inner.ensures c.close_bracket.ensures

pub row-loop-at-init : goal.row-loop-at-init
row-loop-at-init t c = starts _ c.requires

pub row-returns-then-ends_row : goal.row-returns-then-ends_row
row-returns-then-ends_row t c = row_ends _ c.loop-at.invariant (sym c.ends_row.ensures ∙ c.if-ends_row.true)

pub row-item-requires : goal.row-item-requires
row-item-requires t c =
    let loop = c.loop-at in
    (omega (arith, c.decreases, loop.invariant.after, loop.invariant.within), loop.invariant.within)

pub row-returns-in_err-one : goal.row-returns-in_err-one
row-returns-in_err-one t c =
    let p = err_from_is_err_and c.from_residual.result c.from_residual.ensures.1 in
    rw (p.1, p.2) (item-fault _ c.loop-at.invariant (sym c.ends_row.ensures ∙ c.if-ends_row.false) c.in_err-one.ensures)

pub row-loop-at-smaller : goal.row-loop-at-smaller
row-loop-at-smaller t c =
    let loop = c.loop-at in
    let ends-row = c.ends_row in
    let else1 = c.if-ends_row in
    let far = item-within _ loop.invariant (sym ends-row.ensures ∙ else1.false) c.in_ok-one.ensures in
    omega (arith, far.0, far.1)

pub row-loop-at-preserved : goal.row-loop-at-preserved
row-loop-at-preserved t c =
    let loop = c.loop-at in
    let ends-row = c.ends_row in
    let else1 = c.if-ends_row in
    row_goes _ loop.invariant (sym ends-row.ensures ∙ else1.false) c.in_ok-one.ensures
