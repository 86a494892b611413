use mathlib.Core.Path.{sym, ◌∙◌}
use native.Mathlib.Omega.{arith}
use Rattle.lexer.proofs.Spans.{option-none, option-some}
use Rattle.lexer.proofs.targets.optional_target.Goals as goal

pub returns-then-not-starts_target : goal.returns-then-not-starts_target
returns-then-not-starts_target c = option-none _ _ _ c.skip_spaces-i.ensures.place (omega arith) (omega arith) (sym c.starts_target.ensures ∙ c.if-not-starts_target.true)

pub returns : goal.returns
returns c = option-some _ _ _ c.skip_spaces-i.ensures.place (omega arith) (omega arith) _ (sym c.starts_target.ensures ∙ c.if-not-starts_target.false) c.target.ensures
