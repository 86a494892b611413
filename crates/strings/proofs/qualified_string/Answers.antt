-- `strings::qualified_string` meets its contract. Assumes nothing.
use Rattle.answers.proofs.Taking.{passed}
use Rattle.strings.proofs.Quoting.{string-read, string-refused}
use Rattle.strings.proofs.qualified_string.Goals as goal

pub returns-in_err-quals : goal.returns-in_err-quals
returns-in_err-quals c = rw (passed _ _ c.from_residual.ensures.1) (string-refused c.args.s.now c.args.at c.args.in_search _ _ c.in_err-quals.ensures)

pub read_string-requires : goal.read_string-requires
read_string-requires c = (_, _, c.in_ok-quals.ensures)

pub returns : goal.returns
returns c = string-read c.args.s.now c.args.at c.args.in_search _ _ c.in_ok-quals.ensures _ c.read_string.ensures
