use mathlib.Core.Path.{ap, ◌∙◌}
use mathlib.Core.Bool.{not}
use Rattle.wordset.specs.Sets.{in_set}
use Rattle.wordset.proofs.beside.is_free_before.Goals as goal

pub returns : goal.returns
returns c = ap not (c.is_in.ensures ∙ ap (in_set c.args.set.now 0) c.byte_before.ensures)
