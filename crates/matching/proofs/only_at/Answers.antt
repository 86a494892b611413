use mathlib.Core.Path.{sym, ◌∙◌}
use Rattle.matching.proofs.Counts.{only_here, not-only}
use Rattle.matching.proofs.only_at.Goals as goal

pub returns-then-stands : goal.returns-then-stands
returns-then-stands c = only_here _ _ _ (sym c.stands.ensures ∙ c.if-stands.true)

pub returns-else-stands : goal.returns-else-stands
returns-else-stands c = not-only _ _ _ (sym c.stands.ensures ∙ c.if-stands.false)
