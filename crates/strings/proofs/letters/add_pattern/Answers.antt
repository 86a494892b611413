-- `strings::letters::add_pattern` meets its contract. Assumes nothing.
use Rattle.strings.proofs.Adding.{pattern-twice, pattern-folded, pattern-counted, pattern-now}
use Rattle.strings.proofs.letters.add_pattern.Goals as goal

pub returns-then-q : goal.returns-then-q
returns-then-q c = pattern-twice c.args.q c.if-q.true

pub returns-then-q-2 : goal.returns-then-q-2
returns-then-q-2 c = pattern-folded c.args.q c.if-q.false c.if-q-2.true

pub returns-then-q-ne0 : goal.returns-then-q-ne0
returns-then-q-ne0 c = pattern-counted c.args.q c.if-q.false c.if-q-2.false c.if-q-ne0.true

pub returns : goal.returns
returns c = pattern-now c.args.q c.if-q.false c.if-q-2.false c.if-q-ne0.false
