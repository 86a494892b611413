-- `strings::qualifiers::read_count` meets its contract. Assumes nothing.
use Rattle.answers.proofs.Taking.{passed}
use Rattle.strings.proofs.Reading.{count-read, count-refused}
use Rattle.strings.proofs.qualifiers.read_count.Goals as goal

pub returns-in_err-count : goal.returns-in_err-count
returns-in_err-count c = rw (passed _ _ c.from_residual.ensures.1) (count-refused c.args.s.now c.args.at c.args.q _ _ c.in_err-count.ensures)

pub returns : goal.returns
returns c = count-read c.args.s.now c.args.at c.args.q _ _ _ _ c.in_ok-count.ensures c.add_count.ensures c.added_at.ensures c.requires.1
