-- `joinable::is_left` meets its contract. By the mark. Assumes nothing.
use mathlib.Core.Path.{◌∙◌}
use Rattle.joinable.proofs.Order.{left-is}
use Rattle.joinable.proofs.is_left.Goals as goal

pub returns : goal.returns
returns c = c.eq.ensures ∙ left-is _
