-- `script::commands::moves` meets its contract. Assumes nothing.
use native.Mathlib.Omega.{arith}
use Rattle.answers.proofs.Taking.{passed}
use Rattle.script.proofs.Items.{moves-refused, moves-written}
use Rattle.script.proofs.commands.moves.Goals as goal

pub returns-in_err-line : goal.returns-in_err-line
returns-in_err-line c = rw (passed _ _ c.from_residual.ensures.1) (moves-refused _ _ _ _ _ c.requires _ c.skip_spaces.ensures.place _ _ c.in_err-line.ensures)

pub overflow_cast-line : goal.overflow_cast-line
overflow_cast-line c = omega (arith, c.in_ok-line.ensures.1.0)

pub returns : goal.returns
returns c = rw (c.whole.ensures, c.put_two.ensures) (moves-written _ _ _ _ _ c.requires _ c.skip_spaces.ensures.place c.skip_spaces.ensures.within.0 _ _ _ c.head.ensures c.in_ok-line.ensures)
