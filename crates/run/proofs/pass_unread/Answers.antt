-- `run::pass_unread` meets its contract. Assumes nothing.
use native.Mathlib.Omega.{arith}
use Rattle.run.proofs.Whole.{ends-stand, unread-kept, unread-passed, unread-stops}
use Rattle.run.proofs.pass_unread.Goals as goal

pub returns-then-number-gt0 : goal.returns-then-number-gt0
returns-then-number-gt0 c = unread-kept _ _ _ _ c.if-number-gt0.true

pub pass_rest-requires : goal.pass_rest-requires
pass_rest-requires c = let p = c.requires in ends-stand _ _ _ _ _ _ p.2

pub returns-in-Ok : goal.returns-in-Ok
returns-in-Ok c = unread-passed _ _ _ _ _ (omega (arith, c.if-number-gt0.false)) _ c.pass_rest.ensures _ c.in-Ok.is

pub returns-in-Err : goal.returns-in-Err
returns-in-Err c = rw c.from.ensures (unread-stops _ _ _ _ _ (omega (arith, c.if-number-gt0.false)) _ c.pass_rest.ensures _ _ c.in-Err.is)
