use mathlib.Core.Path.{sym, ◌∙◌}
use native.Mathlib.Omega.{arith}
use Rattle.answers.proofs.Taking.{passed}
use Rattle.lexer.proofs.Spans.{span_none, span-first, span_last, span-both}
use Rattle.lexer.proofs.targets.line_span.Goals as goal

pub returns-then-not-starts_target : goal.returns-then-not-starts_target
returns-then-not-starts_target c = span_none _ _ _ c.skip_spaces-i.ensures.place (omega arith) (omega arith) (sym c.starts_target.ensures ∙ c.if-not-starts_target.true)

pub returns-in_err-first : goal.returns-in_err-first
returns-in_err-first c = rw (passed _ _ c.from_residual.ensures.1) (span-first _ _ _ c.skip_spaces-i.ensures.place (omega arith) (omega arith) (sym c.starts_target.ensures ∙ c.if-not-starts_target.false) _ _ c.in_err-first.ensures)

pub returns-in_err-last : goal.returns-in_err-last
returns-in_err-last c = rw (passed _ _ c.from_residual-in_err-last.ensures.1) (span_last _ _ _ c.skip_spaces-i.ensures.place (omega arith) (omega arith) (sym c.starts_target.ensures ∙ c.if-not-starts_target.false) _ _ c.in_ok-first.ensures _ _ c.in_err-last.ensures)

pub returns : goal.returns
returns c = span-both _ _ _ c.skip_spaces-i.ensures.place (omega arith) (omega arith) (sym c.starts_target.ensures ∙ c.if-not-starts_target.false) _ _ c.in_ok-first.ensures _ _ c.in_ok-last.ensures
