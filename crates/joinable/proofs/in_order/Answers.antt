-- `joinable::in_order` meets its contract. The loop's invariant is `Ordered`. Assumes nothing.
use mathlib.Core.Path.{sym, ap, ◌∙◌}
use mathlib.Core.Bool.{◌&&◌}
use Rattle.joinable.proofs.Order.{ordered-start, ordered_end, ordered-wrong, ordered-next}
use Rattle.joinable.proofs.in_order.Goals as goal

pub loop-x-init : goal.loop-x-init
loop-x-init c =
    let f = c.from_start-x-items in
    rw c.into_iter-x-iterator.ensures.into_iter_gives (f.ensures.bytes, rw f.ensures.start (ordered-start c.args.j.now c.requires.0 c.requires.1))

pub returns-then-came-is_left : goal.returns-then-came-is_left
returns-then-came-is_left c =
    let l = c.loop-x in
    ordered-wrong c.args.j.now l.x-iterator.at l.came l.invariant.1 c.in-Some.x (rw l.invariant.0 at c.in-Some.ensures.steps.0)
    (sym (ap (λ t. l.came && t) c.is_left.ensures) ∙ c.if-came-is_left.true)

pub loop-x-preserved : goal.loop-x-preserved
loop-x-preserved c =
    let l = c.loop-x in
    let n = c.in-Some.ensures.steps in (
      ap (λ s. s.now) n.1 ∙ l.invariant.0,
      ordered-next c.args.j.now l.x-iterator.at l.came l.invariant.1 c.in-Some.x (rw l.invariant.0 at n.0)
          (sym (ap (λ t. l.came && t) c.is_left.ensures) ∙ c.if-came-is_left.false) _ c.came_after-came.result n.2 c.came_after-came.ensures,
    )

pub returns : goal.returns
returns c =
    let l = c.loop-x in
    ordered_end c.args.j.now l.x-iterator.at l.came l.invariant.1 (rw l.invariant.0 at c.in-None.ensures.steps.0)
