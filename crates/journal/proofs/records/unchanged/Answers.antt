-- `journal::records::unchanged` meets its contract. The record found gives the bounds. Assumes nothing.
use mathlib.Core.Path.{◌∙◌}
use native.Mathlib.Omega.{arith}
use Rattle.journal.proofs.Places.{is-changed, is-other}
use Rattle.journal.proofs.Here.{in-places, last-bounds, equal-changed, equal-other}
use Rattle.journal.proofs.records.unchanged.Goals as goal

pub overflow_add-x : goal.overflow_add-x
overflow_add-x c = omega (arith, in-places _ _ _ c.requires)

pub slice_bounds-same-count : goal.slice_bounds-same-count
slice_bounds-same-count c = (in-places _ _ _ c.requires).0

pub slice_bounds-same-start : goal.slice_bounds-same-start
slice_bounds-same-start c = omega (arith, in-places _ _ _ c.requires)

pub slice_bounds-same-end : goal.slice_bounds-same-end
slice_bounds-same-end c = omega (arith, in-places _ _ _ c.requires)

pub overflow_add-x-then-eq : goal.overflow_add-x-then-eq
overflow_add-x-then-eq c = omega (arith, in-places _ _ _ c.requires)

pub slice_bounds-same-count-then-eq : goal.slice_bounds-same-count-then-eq
slice_bounds-same-count-then-eq c = (last-bounds _ _ c.requires (is-changed _ c.if-eq.ensures)).0

pub slice_bounds-same-start-then-eq : goal.slice_bounds-same-start-then-eq
slice_bounds-same-start-then-eq c = omega (arith, last-bounds _ _ c.requires (is-changed _ c.if-eq.ensures))

pub slice_bounds-same-end-then-eq : goal.slice_bounds-same-end-then-eq
slice_bounds-same-end-then-eq c = omega (arith, last-bounds _ _ c.requires (is-changed _ c.if-eq.ensures))

pub returns-then-eq : goal.returns-then-eq
returns-then-eq c = c.same.ensures ∙ equal-changed _ _ (is-changed _ c.if-eq.ensures)

pub returns-else-eq : goal.returns-else-eq
returns-else-eq c = c.if-eq.false ∙ equal-other _ _ (is-other _ c.if-eq.ensures)
