-- `strings::letters::add_fold` meets its contract. Assumes nothing.
use Rattle.strings.proofs.Adding.{fold-twice, fold-pattern, fold-now}
use Rattle.strings.proofs.letters.add_fold.Goals as goal

pub returns-then-q : goal.returns-then-q
returns-then-q c = fold-twice c.args.q c.if-q.true

pub returns-then-q-2 : goal.returns-then-q-2
returns-then-q-2 c = fold-pattern c.args.q c.if-q.false c.if-q-2.true

pub returns : goal.returns
returns c = fold-now c.args.q c.if-q.false c.if-q-2.false
