-- `rotation::rotate` meets its contract. Assumes nothing.
use Rattle.rotation.specs.Rotation.{rotated}
use Rattle.rotation.proofs.rotate.Goals as goal

pub returns : goal.returns
unfolding rotated
returns c = c.rotate_left.ensures.after
