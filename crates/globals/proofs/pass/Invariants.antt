use mathlib.Core.Path.{◌≡◌}
use lib.ListN.{length, take}
use Rattle.globals.proofs.Through.{Acted}
use Rattle.globals.proofs.pass.Given as goal

abbrev pub invariant-loop-i : goal.invariant-loop-i
invariant-loop-i l = Acted l.script l.w (take l.n l.initial.line) l.line l.len l.i × (length l.line ≡ length l.initial.line)
