-- `strings::letters::add_word` meets its contract. Assumes nothing.
use Rattle.strings.proofs.Adding.{word-twice, word-now}
use Rattle.strings.proofs.letters.add_word.Goals as goal

pub returns-then-q : goal.returns-then-q
returns-then-q c = word-twice c.args.q c.if-q.true

pub returns : goal.returns
returns c = word-now c.args.q c.if-q.false
