-- `strings::qualifiers::columns_from` meets its contract. Assumes nothing.
use Rattle.answers.proofs.Taking.{passed}
use Rattle.strings.proofs.Reading.{columns-now, columns-refused}
use Rattle.strings.proofs.qualifiers.columns_from.Goals as goal

pub returns-in_err-second : goal.returns-in_err-second
returns-in_err-second c = rw (passed _ _ c.from_residual.ensures.1) (columns-refused c.args.s.now c.args.at c.args.n c.args.q _ _ c.in_err-second.ensures)

pub returns : goal.returns
returns c = columns-now c.args.s.now c.args.at c.args.n c.args.q _ _ c.in_ok-second.ensures c.requires.1 c.requires.2 c.requires.3
