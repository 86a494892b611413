-- `script::counted` meets its contract. Assumes nothing.
use native.Mathlib.Omega.{arith}
use Rattle.script.proofs.Choosing.{room_of, count-is}
use Rattle.script.proofs.counted.Goals as goal

pub count-c-requires : goal.count-c-requires
count-c-requires c = (room_of _ _ _ _ _ _ c.requires.0.1 (omega arith) (omega (arith, c.requires.1)), c.requires.2)

pub finish-requires : goal.finish-requires
finish-requires c = (_, _, _, c.requires.0.0, _, c.requires.0.1, c.count-c.ensures)

pub returns : goal.returns
returns c = λ acc h. rw (count-is _ _ _ _ _) (c.finish.ensures _ _ _ acc _ h c.count-c.ensures)
