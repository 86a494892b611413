use borrow.Author.Rules.{rules}
use Rattle.matching.proofs.Texts.{whole-window, cut-window}
use Rattle.matching.proofs.window.window_of.Goals as goal

pub returns-then-from-eq0 : goal.returns-then-from-eq0
returns-then-from-eq0 c = whole-window _ _ _ _ (search rules) c.if-from-eq0.true

pub returns : goal.returns
returns c =
    cut-window _ _ _ _ (search rules) (search rules) _ _ _ _
    c.max.ensures
    c.min-start.ensures
    c.min.ensures
    c.max-end.ensures
