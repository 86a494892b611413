use mathlib.Core.Path.{◌∙◌}
use Rattle.matching.proofs.Strings.{as-asked}
use Rattle.matching.proofs.place.starts.Goals as goal

pub returns-then-fold : goal.returns-then-fold
returns-then-fold c = c.same_folded.ensures ∙ as-asked _ _ _ _ c.if-fold.true

pub returns : goal.returns
returns c = c.same.ensures ∙ as-asked _ _ _ _ c.if-fold.false
