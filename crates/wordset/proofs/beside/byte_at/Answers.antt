use mathlib.Core.Path.{sym}
use lib.ListN.{get_or-eq_default}
use Rattle.wordset.proofs.beside.byte_at.Goals as goal

pub returns-else-i-line : goal.returns-else-i-line
returns-else-i-line c = sym (get_or-eq_default c.args.line.now 0 {n = c.args.i} c.if-i-line.false)
