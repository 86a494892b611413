use Rattle.globals.proofs.Counting.{first-tells}
use Rattle.globals.proofs.none_stands.Goals as goal

pub returns : goal.returns
returns c = first-tells _
