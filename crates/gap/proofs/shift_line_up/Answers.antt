-- `gap::shift_line_up` meets its contract. Assumes nothing.
use Prim.Native.Nat.{◌-◌}
use native.Mathlib.Omega.{arith}
use Rattle.text.proofs.LineFeeds.{start_fits}
use Rattle.gap.proofs.shift_line_up.Goals as goal

pub shift_up-requires : goal.shift_up-requires
shift_up-requires c =
    let a = c.args in
    let start = c.line_start-lo.ensures in
    (omega (arith, start, start_fits a.j.now (a.f - 1)), c.requires.1, c.requires.2, c.requires.3)
