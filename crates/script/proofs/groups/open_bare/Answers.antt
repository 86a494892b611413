-- `script::groups::open_bare` meets its contract. Assumes nothing.
use native.Mathlib.Omega.{arith}
use lib.ListN.{length-set}
use Rattle.script.proofs.Keeping.{free}
use Rattle.script.proofs.Nested.{opens-bare}
use Rattle.script.proofs.groups.open_bare.Goals as goal

pub bounds-w-k-2 : goal.bounds-w-k-2
bounds-w-k-2 c = simp length-set (omega (arith, free _ _ _ _ _ c.requires.0.2))

pub bounds-w-top : goal.bounds-w-top
bounds-w-top c = simp length-set (omega (arith, free _ _ _ _ _ c.requires.0.2))

pub returns : goal.returns
returns c = λ s acc h less. opens-bare s _ _ _ acc h less c.requires.1 c.requires.2 _ c.head.ensures
