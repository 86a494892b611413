use Rattle.std.proofs.Common.{sym, length-take-le}
use Rattle.text.proofs.is_same.Goals as goal

pub slice_bounds-same-end-2 : goal.slice_bounds-same-end-2
slice_bounds-same-end-2 c = sym (length-take-le _ _ c.requires.2)
