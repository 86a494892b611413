-- `marks::sweep` meets its contract. Assumes nothing.
use Rattle.marks.proofs.Whole.{whole_room, whole-swept}
use Rattle.marks.proofs.sweep.Goals as goal

pub alternatives-end-requires : goal.alternatives-end-requires
alternatives-end-requires c =
    whole_room c.args.pattern.now c.requires.0 c.args.marks.now c.requires.1 c.requires.2 c.args.enter 65535

pub returns : goal.returns
returns c =
    whole-swept c.args.pattern.now c.requires.0 c.args.marks.now c.requires.1 c.requires.2 c.args.enter 65535 c.alternatives-end.ensures
