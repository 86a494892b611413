-- `script::inserts::replaces` meets its contract. Assumes nothing.
use native.Mathlib.Omega.{arith}
use Rattle.answers.proofs.Taking.{passed}
use Rattle.script.proofs.Inserting.{span-refused, span-read, lines-refused, lines-read, replaces-written}
use Rattle.script.proofs.inserts.replaces.Goals as goal

pub returns-in_err-span : goal.returns-in_err-span
returns-in_err-span c = rw (passed _ _ c.from_residual.ensures.1) (span-refused _ _ _ _ _ c.requires _ _ _ c.in_err-span.ensures)

pub script_lines-requires : goal.script_lines-requires
script_lines-requires c = c.in_ok-span.ensures.2

pub returns-in_err-lines : goal.returns-in_err-lines
returns-in_err-lines c = rw (passed _ _ c.from_residual-in_err-lines.ensures.1) (lines-refused _ _ _ _ _ c.requires _ _ _ _ (span-read _ _ _ _ _ c.requires _ _ _ _ c.in_ok-span.ensures.0) _ _ c.in_err-lines.ensures)

pub span_word-requires : goal.span_word-requires
span_word-requires c = let m = c.in_ok-span.ensures.1 in (omega (arith, m.0), m.1)

pub overflow_cast-part : goal.overflow_cast-part
overflow_cast-part c = let m = c.in_ok-lines.ensures in omega (arith, m.1.2, m.1.3, m.2, c.requires.fits.small)

pub overflow_cast-part-2 : goal.overflow_cast-part-2
overflow_cast-part-2 c = let m = c.in_ok-lines.ensures in omega (arith, m.1.3, m.2, c.requires.fits.small)

pub returns : goal.returns
returns c = let a = c.in_ok-span.ensures in let m = c.in_ok-lines.ensures in rw (c.whole.ensures, c.put_four.ensures) (replaces-written _ _ _ _ _ c.requires _ _ _ _ _ _ _ _ (omega (arith, a.1.0)) c.span_head.ensures c.span_word.ensures (lines-read _ _ _ _ _ c.requires _ _ _ _ (span-read _ _ _ _ _ c.requires _ _ _ _ c.in_ok-span.ensures.0) _ _ _ m.0) (omega (arith, a.1.2, m.1.1)) m.1.2 m.1.3 m.2)
