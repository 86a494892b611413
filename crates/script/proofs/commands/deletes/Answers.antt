-- `script::commands::deletes` meets its contract. Assumes nothing.
use native.Mathlib.Omega.{arith}
use Rattle.answers.proofs.Taking.{passed}
use Rattle.script.proofs.LineSpans.{deletes-refused, deletes-written}
use Rattle.script.proofs.commands.deletes.Goals as goal

pub returns-in_err-span : goal.returns-in_err-span
returns-in_err-span c = rw (passed _ _ c.from_residual.ensures.1) (deletes-refused _ _ _ _ _ c.requires _ _ c.in_err-span.ensures)

pub span_word-requires : goal.span_word-requires
span_word-requires c = let m = c.in_ok-span.ensures.1 in (omega (arith, m.0), m.1)

pub returns : goal.returns
returns c = rw (c.whole.ensures, c.put_two.ensures) (deletes-written _ _ _ _ _ c.requires _ _ _ _ _ c.span_head.ensures c.span_word.ensures c.in_ok-span.ensures)
