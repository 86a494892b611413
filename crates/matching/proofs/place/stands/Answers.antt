use mathlib.Core.Path.{sym, ◌∙◌}
use Rattle.matching.proofs.Strings.{not-here, here-apart, here}
use Rattle.matching.proofs.place.stands.Goals as goal

pub returns-then-not-starts : goal.returns-then-not-starts
returns-then-not-starts c = sym (not-here _ _ _ _ _ _ (sym c.starts.ensures ∙ c.if-not-starts.true))

pub returns-then-word : goal.returns-then-word
returns-then-word c =
    c.apart.ensures
    ∙ sym (here-apart _ _ _ _ _ _ (sym c.starts.ensures ∙ c.if-not-starts.false) c.if-word.true)

pub returns : goal.returns
returns c = sym (here _ _ _ _ _ _ (sym c.starts.ensures ∙ c.if-not-starts.false) c.if-word.false)
