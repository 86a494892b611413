-- `needs::equal_byte` meets its contract. Assumes nothing.
use Rattle.needs.proofs.Joining.{equal-is, equal_none}
use Rattle.needs.proofs.equal_byte.Goals as goal

pub returns-then-a-b : goal.returns-then-a-b
returns-then-a-b c = equal-is _ _ c.if-a-b.true

pub returns : goal.returns
returns c = equal_none _ _ c.if-a-b.false
