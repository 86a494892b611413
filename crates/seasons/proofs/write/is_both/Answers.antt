-- `seasons::write::is_both` meets its contract. By the texts. Assumes nothing.
use mathlib.Core.Path.{sym, ◌∙◌}
use Rattle.seasons.proofs.Writing.{both-is, both-not}
use Rattle.seasons.proofs.write.is_both.Goals as goal

pub returns-then-is_some : goal.returns-then-is_some
returns-then-is_some c = c.is_some-then-is_some.ensures ∙ both-is c.args.line (sym c.if-is_some.ensures)

pub returns-else-is_some : goal.returns-else-is_some
returns-else-is_some c = c.if-is_some.false ∙ both-not c.args.line (sym c.if-is_some.ensures)
