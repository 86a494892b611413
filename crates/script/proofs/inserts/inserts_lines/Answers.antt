-- `script::inserts::inserts_lines` meets its contract. Assumes nothing.
use native.Mathlib.Omega.{arith}
use Rattle.answers.proofs.Taking.{passed}
use Rattle.script.proofs.Inserting.{spot-refused, spot-read, lines-refused, lines-read, inserts-written}
use Rattle.script.proofs.inserts.inserts_lines.Goals as goal

pub returns-in_err-spot : goal.returns-in_err-spot
returns-in_err-spot c = rw (passed _ _ c.from_residual.ensures.1) (spot-refused _ _ _ _ _ c.requires _ _ _ c.in_err-spot.ensures)

pub script_lines-requires : goal.script_lines-requires
script_lines-requires c = c.in_ok-spot.ensures.2

pub returns-in_err-lines : goal.returns-in_err-lines
returns-in_err-lines c = rw (passed _ _ c.from_residual-in_err-lines.ensures.1) (lines-refused _ _ _ _ _ c.requires _ _ _ _ (spot-read _ _ _ _ _ c.requires _ _ _ c.in_ok-spot.ensures.0) _ _ c.in_err-lines.ensures)

pub spot_word-requires : goal.spot_word-requires
spot_word-requires c = c.in_ok-spot.ensures.1.0

pub overflow_cast-part : goal.overflow_cast-part
overflow_cast-part c = let m = c.in_ok-lines.ensures in omega (arith, m.1.2, m.1.3, m.2, c.requires.fits.small)

pub overflow_cast-part-2 : goal.overflow_cast-part-2
overflow_cast-part-2 c = let m = c.in_ok-lines.ensures in omega (arith, m.1.3, m.2, c.requires.fits.small)

pub returns : goal.returns
returns c = let a = c.in_ok-spot.ensures in let m = c.in_ok-lines.ensures in rw (c.whole.ensures, c.put_four.ensures) (inserts-written _ _ _ _ _ c.requires _ _ _ _ _ _ _ a.1.0 c.head.ensures c.spot_word.ensures (lines-read _ _ _ _ _ c.requires _ _ _ _ (spot-read _ _ _ _ _ c.requires _ _ _ c.in_ok-spot.ensures.0) _ _ _ m.0) (omega (arith, a.1.1, m.1.1)) m.1.2 m.1.3 m.2)
