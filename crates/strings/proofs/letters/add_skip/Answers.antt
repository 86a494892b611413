-- `strings::letters::add_skip` meets its contract. Assumes nothing.
use Rattle.strings.proofs.Adding.{skip-twice, skip-now}
use Rattle.strings.proofs.letters.add_skip.Goals as goal

pub returns-then-q : goal.returns-then-q
returns-then-q c = skip-twice c.args.q c.if-q.true

pub returns : goal.returns
returns c = skip-now c.args.q c.if-q.false
