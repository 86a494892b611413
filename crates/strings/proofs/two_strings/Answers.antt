-- `strings::two_strings` meets its contract. Assumes nothing.
use mathlib.Core.Path.{refl}
use Rattle.answers.proofs.Taking.{passed}
use Rattle.strings.proofs.Quoting.{both_read, both-refused, second-refused}
use Rattle.strings.proofs.two_strings.Goals as goal

pub returns-in_err-quals : goal.returns-in_err-quals
returns-in_err-quals c = rw (passed _ _ c.from_residual.ensures.1) (both-refused c.args.s.now c.args.at _ _ c.in_err-quals.ensures)

pub read_string-requires : goal.read_string-requires
read_string-requires c = (_, _, c.in_ok-quals.ensures)

pub returns-in_err-first : goal.returns-in_err-first
returns-in_err-first c = rw (passed _ _ c.from_residual-in_err-first.ensures.1) (second-refused c.args.s.now c.args.at _ _ c.in_ok-quals.ensures _ _ (c.in_err-first.ensures _ _ c.in_ok-quals.ensures))

pub bounds-s-open : goal.bounds-s-open
bounds-s-open c = c.in_ok-quals.ensures.1.inside

pub with_second-requires : goal.with_second-requires
with_second-requires c = (_, _, _, c.in_ok-first.ensures _ _ c.in_ok-quals.ensures)

pub returns : goal.returns
returns c = both_read c.args.s.now c.args.at _ _ c.in_ok-quals.ensures _ refl _ _ (c.with_second.ensures _ _ _ (c.in_ok-first.ensures _ _ c.in_ok-quals.ensures))
