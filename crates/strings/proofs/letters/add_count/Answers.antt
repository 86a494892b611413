-- `strings::letters::add_count` meets its contract. Assumes nothing.
use Rattle.strings.proofs.Adding.{count-anchored, count-pattern, count-counted, count-now}
use Rattle.strings.proofs.letters.add_count.Goals as goal

pub returns-then-q-ne0 : goal.returns-then-q-ne0
returns-then-q-ne0 c = let a = c.args in count-anchored a.q a.count c.if-q-ne0.true

pub returns-then-q : goal.returns-then-q
returns-then-q c = let a = c.args in count-pattern a.q a.count c.if-q-ne0.false c.if-q.true

pub returns-then-q-ne0-2 : goal.returns-then-q-ne0-2
returns-then-q-ne0-2 c = let a = c.args in count-counted a.q a.count c.if-q-ne0.false c.if-q.false c.if-q-ne0-2.true

pub returns : goal.returns
returns c = count-now c.args.q c.args.count c.if-q-ne0.false c.if-q.false c.if-q-ne0-2.false c.requires.0
