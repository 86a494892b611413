-- `script::groups::end_group` meets its contract. Assumes nothing.
use native.Mathlib.Omega.{arith}
use Rattle.script.proofs.Nested.{ending-room, ends}
use Rattle.script.proofs.groups.end_group.Goals as goal

pub put_closes-requires : goal.put_closes-requires
put_closes-requires c =
    omega (arith, (ending-room _ _ _ _ _ c.requires.0.2 c.requires.1 _ c.requires.2).0)

pub overflow_add-value : goal.overflow_add-value
overflow_add-value c =
    omega (arith, (ending-room _ _ _ _ _ c.requires.0.2 c.requires.1 _ c.requires.2).0)

pub returns : goal.returns
returns c = λ s acc h less.
    ends s _ _ _ acc h less c.requires.1 c.requires.3 _ c.requires.2 _ c.put_closes.ensures
