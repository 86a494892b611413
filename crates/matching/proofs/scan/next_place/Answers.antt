use mathlib.Core.Path.{◌∙◌}
use native.Mathlib.Omega.{arith}
use Rattle.matching.proofs.Scans.{no-first, first_plain, first-upper}
use borrow.Author.Rules.{rules}
use Rattle.matching.proofs.scan.next_place.Goals as goal

pub returns-then-s-eq0 : goal.returns-then-s-eq0
returns-then-s-eq0 c = no-first _ _ _ _ _ c.if-s-eq0.true

pub returns-then-fold : goal.returns-then-fold
returns-then-fold c = c.past_long.ensures.0 ∙ first-upper _ _ _ _ _ c.if-fold.true (omega arith) _ c.upper.ensures

pub returns : goal.returns
returns c = c.past_long-2.ensures.0 ∙ first_plain _ _ _ _ _ c.if-fold.false (search rules)
