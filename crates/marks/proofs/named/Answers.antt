-- `marks::named` meets its contract: one law for each way out. Assumes nothing.
use mathlib.Core.Path.{sym, ◌∙◌}
use native.Mathlib.Omega.{arith}
use Rattle.marks.proofs.Naming.{named-inside, quote-inside, quote-covers, range_inside, range-covers, byte-covers}
use Rattle.marks.proofs.named.Goals as goal

pub bounds-s-at : goal.bounds-s-at
bounds-s-at c = named-inside c.requires.2

pub overflow_add-x : goal.overflow_add-x
overflow_add-x c = omega (arith, quote-inside c.requires.2 c.if-c-eq34.true)

pub bounds-s-at-then-c-eq34 : goal.bounds-s-at-then-c-eq34
bounds-s-at-then-c-eq34 c = quote-inside c.requires.2 c.if-c-eq34.true

pub overflow_add-result : goal.overflow_add-result
overflow_add-result c = omega (arith, quote-inside c.requires.2 c.if-c-eq34.true)

pub returns-then-c-eq34 : goal.returns-then-c-eq34
returns-then-c-eq34 c x end names = quote-covers names c.if-c-eq34.true

pub overflow_add-at : goal.overflow_add-at
overflow_add-at c = omega (arith, named-inside c.requires.2)

pub overflow_add-result-then-is_next : goal.overflow_add-result-then-is_next
overflow_add-result-then-is_next c = omega (arith, range_inside c.requires.2 c.if-c-eq34.false (sym c.is_next.ensures ∙ c.if-is_next.true))

pub bounds-s-at-then-is_next : goal.bounds-s-at-then-is_next
bounds-s-at-then-is_next c =
    range_inside c.requires.2 c.if-c-eq34.false (sym c.is_next.ensures ∙ c.if-is_next.true)

pub overflow_add-result-then-is_next-2 : goal.overflow_add-result-then-is_next-2
overflow_add-result-then-is_next-2 c = omega (
  arith,
  range_inside c.requires.2 c.if-c-eq34.false (sym c.is_next.ensures ∙ c.if-is_next.true),
)

pub returns-then-is_next : goal.returns-then-is_next
returns-then-is_next c x end names = range-covers names c.if-c-eq34.false (sym c.is_next.ensures ∙ c.if-is_next.true)

pub overflow_add-result-2 : goal.overflow_add-result-2
overflow_add-result-2 c = omega (arith, named-inside c.requires.2)

pub returns : goal.returns
returns c x end names = byte-covers names c.if-c-eq34.false (sym c.is_next.ensures ∙ c.if-is_next.false)
