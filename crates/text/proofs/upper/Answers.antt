-- `text::upper` meets its contract. Assumes nothing.
use Rattle.std.proofs.Common.{rules}
use Rattle.definitions.specs.Bytes.{is_small}
use Rattle.text.proofs.Cases.{taken-fits, taken-within, upper-taken}
use Rattle.text.proofs.upper.Goals as goal

pub overflow_mul-result : goal.overflow_mul-result
overflow_mul-result c = search (rules, taken-fits)

pub overflow_sub-result : goal.overflow_sub-result
overflow_sub-result c = search (rules, taken-within)

pub returns : goal.returns
unfolding is_small
returns c = rw c.from.ensures (upper-taken c.args.b)
