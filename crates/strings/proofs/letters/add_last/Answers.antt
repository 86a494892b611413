-- `strings::letters::add_last` meets its contract. Assumes nothing.
use Rattle.strings.proofs.Adding.{last-twice, last-at-start, last-whole, last-now}
use Rattle.strings.proofs.letters.add_last.Goals as goal

pub returns-then-q : goal.returns-then-q
returns-then-q c = last-twice c.args.q c.if-q.true

pub returns-then-q-eq1 : goal.returns-then-q-eq1
returns-then-q-eq1 c = last-at-start c.args.q c.if-q.false c.if-q-eq1.true

pub returns-then-q-gt2 : goal.returns-then-q-gt2
returns-then-q-gt2 c = last-whole c.args.q c.if-q.false c.if-q-gt2.true

pub returns : goal.returns
returns c = last-now c.args.q c.if-q.false c.if-q-eq1.false c.if-q-gt2.false
