-- `needs::only_byte` meets its contract. Assumes nothing.
use mathlib.Core.Path.{◌∙◌}
use Rattle.needs.proofs.Singles.{only-is}
use Rattle.needs.proofs.only_byte.Goals as goal

pub returns : goal.returns
returns c x end covers = c.equal_byte.ensures ∙ only-is c.args.c x end covers
