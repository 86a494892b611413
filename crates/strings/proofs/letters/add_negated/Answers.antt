-- `strings::letters::add_negated` meets its contract. Assumes nothing.
use Rattle.strings.proofs.Adding.{negated-twice, negated-outside, negated-now}
use Rattle.strings.proofs.letters.add_negated.Goals as goal

pub returns-then-q : goal.returns-then-q
returns-then-q c = let a = c.args in negated-twice a.q a.in_search c.if-q.true

pub returns-then-in_search : goal.returns-then-in_search
returns-then-in_search c = let a = c.args in negated-now a.q a.in_search c.if-q.false c.if-in_search.true

pub returns : goal.returns
returns c = let a = c.args in negated-outside a.q a.in_search c.if-q.false c.if-in_search.false
