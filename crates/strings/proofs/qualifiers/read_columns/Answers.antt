-- `strings::qualifiers::read_columns` meets its contract. Assumes nothing.
use Rattle.answers.proofs.Taking.{passed}
use Rattle.strings.proofs.Reading.{first_read, first-refused}
use Rattle.strings.proofs.qualifiers.read_columns.Goals as goal

pub returns-in_err-first : goal.returns-in_err-first
returns-in_err-first c = rw (passed _ _ c.from_residual.ensures.1) (first-refused c.args.s.now c.args.at c.args.q _ c.skip_spaces.ensures.place _ _ c.in_err-first.ensures)

pub returns : goal.returns
returns c = first_read c.args.s.now c.args.at c.args.q _ c.skip_spaces.ensures.place c.skip_spaces.ensures.within.0 _ _ _ c.in_ok-first.ensures c.columns_from.ensures
