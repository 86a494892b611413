use mathlib.Core.Path.{refl}
use Rattle.marks.specs.Sweeping.{never, no_marks}
use Rattle.taking.proofs.find.Goals as goal

pub walk_line-requires : goal.walk_line-requires
unfolding no_marks never
walk_line-requires c =
    let pre = c.requires in
    (pre.0, pre.1, pre.2, pre.3, pre.4, refl, pre.5)
