-- `strings::qualifiers::second_column` meets its contract. Assumes nothing.
use Rattle.answers.proofs.Taking.{passed}
use Rattle.strings.proofs.Reading.{no-comma, no-number-there, too-low, no_end, column-read}
use Rattle.strings.proofs.qualifiers.second_column.Goals as goal

pub returns-in_err-after : goal.returns-in_err-after
returns-in_err-after c = rw (passed _ _ c.from_residual.ensures.1) (no-comma c.args.s.now c.args.at c.args.n _ c.skip_spaces.ensures.place _ _ c.in_err-after.ensures)

pub returns-in_err-column : goal.returns-in_err-column
returns-in_err-column c = rw (passed _ _ c.from_residual-in_err-column.ensures.1) (no-number-there c.args.s.now c.args.at c.args.n _ c.skip_spaces.ensures.place _ _ c.in_ok-after.ensures c.skip_spaces-from.ensures.place _ _ c.in_err-column.ensures)

pub returns-then-column-n : goal.returns-then-column-n
returns-then-column-n c = rw c.at.ensures (too-low c.args.s.now c.args.at c.args.n _ c.skip_spaces.ensures.place _ _ c.in_ok-after.ensures c.skip_spaces-from.ensures.place _ _ c.in_ok-column.ensures c.if-column-n.true)

pub returns-in_err-next : goal.returns-in_err-next
returns-in_err-next c = rw (passed _ _ c.from_residual-in_err-next.ensures.1) (no_end c.args.s.now c.args.at c.args.n _ c.skip_spaces.ensures.place _ _ c.in_ok-after.ensures c.skip_spaces-from.ensures.place _ _ c.in_ok-column.ensures c.if-column-n.false _ c.skip_spaces-2.ensures.place _ _ c.in_err-next.ensures)

pub returns : goal.returns
returns c = column-read c.args.s.now c.args.at c.args.n _ c.skip_spaces.ensures.place _ _ c.in_ok-after.ensures c.skip_spaces-from.ensures.place _ _ c.in_ok-column.ensures c.if-column-n.false _ c.skip_spaces-2.ensures.place c.skip_spaces.ensures.within.0 c.skip_spaces-from.ensures.within.0 c.skip_spaces-2.ensures.within.0 _ c.in_ok-next.ensures
