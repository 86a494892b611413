-- `joinable::in_order` meets its contract. The loop's invariant is `Ordered`. Assumes nothing.
use mathlib.Core.Path.{◌≡◌}
use Rattle.joinable.proofs.Order.{Ordered}
use Rattle.joinable.proofs.in_order.Given as goal

abbrev pub invariant-loop-x : goal.invariant-loop-x
invariant-loop-x l = (l.x-iterator.j.now ≡ l.j) × Ordered l.j l.x-iterator.at l.came
