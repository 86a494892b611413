-- `gathering::middle` meets its contract. Assumes nothing.
use native.Mathlib.Omega.{arith}
use Rattle.gathering.proofs.Cuts.{middle-after, middle-before}
use Rattle.gathering.proofs.middle.Goals as goal

pub returns-then-m-s : goal.returns-then-m-s
returns-then-m-s c = middle-after c.args.s.now _ c.line_after-m.ensures (omega arith)

pub returns : goal.returns
returns c = middle-before c.args.s.now _ _ c.line_after-m.ensures (omega arith) c.line_start.ensures
