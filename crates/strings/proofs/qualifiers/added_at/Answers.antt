-- `strings::qualifiers::added_at` meets its contract. Assumes nothing.
use Rattle.strings.specs.Answers.{read_added}
use Rattle.strings.proofs.qualifiers.added_at.Goals as goal

pub returns-in-Ok : goal.returns-in-Ok
unfolding read_added
returns-in-Ok c = rw c.in-Ok.is

pub returns-in-Err : goal.returns-in-Err
unfolding read_added
returns-in-Err c = rw (c.in-Err.is, c.at.ensures)
