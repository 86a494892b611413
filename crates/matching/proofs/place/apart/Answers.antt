use mathlib.Core.Path.{sym, ◌∙◌}
use Rattle.matching.proofs.Bytes.{joined, apart_by}
use Rattle.matching.proofs.place.apart.Goals as goal

pub returns-then-is_free_before : goal.returns-then-is_free_before
returns-then-is_free_before c = sym (apart_by _ _ _ _ _ (sym c.is_free_before.ensures ∙ c.if-is_free_before.true) (sym c.is_free_at.ensures))

pub returns-else-is_free_before : goal.returns-else-is_free_before
returns-else-is_free_before c = c.if-is_free_before.false ∙ sym (joined _ _ _ _ (sym c.is_free_before.ensures ∙ c.if-is_free_before.false))
