-- `text::copy` meets its contract. Assumes nothing.
use Rattle.text.proofs.Buffer.{laid-lent}
use Rattle.text.proofs.copy.Goals as goal

pub returns : goal.returns
returns c = rw c.copy_from_slice.ensures.after (laid-lent c.args.dest.now c.args.at c.args.src.now)
