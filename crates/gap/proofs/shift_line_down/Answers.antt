-- `gap::shift_line_down` meets its contract. Assumes nothing.
use Prim.Native.Nat.{◌-◌, ◌≤◌}
use native.Mathlib.Omega.{arith}
use lib.ListN.{length, drop, length-drop}
use Rattle.text.specs.Feeds.{line_length}
use Rattle.text.proofs.LineFeeds.{line-fits}
use Rattle.gap.proofs.shift_line_down.Goals as goal

pub shift_down-requires : goal.shift_down-requires
shift_down-requires c =
    let a = c.args in
    let fits : line_length (drop a.b a.j.now) ≤ length a.j.now - a.b = simp length-drop at (line-fits (drop a.b a.j.now)) in
    let end = c.line_after.ensures in
    (c.requires.0, omega (arith, fits, end), c.requires.2)
