use borrow.Author.Tests.{not-true, not-false}
use Rattle.matching.proofs.Texts.{no-skip, skip}
use Rattle.matching.proofs.window.text_of.Goals as goal

pub returns-then-not-q : goal.returns-then-not-q
returns-then-not-q c = no-skip _ _ _ c.window_of-t.ensures _ (not-true _ c.if-not-q.true)

pub returns : goal.returns
returns c = skip _ _ _ c.window_of-t.ensures _ (not-false _ c.if-not-q.false) _ c.past-first.ensures.0 c.past-first.ensures.1
