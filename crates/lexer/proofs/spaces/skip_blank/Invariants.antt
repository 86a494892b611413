use mathlib.Core.Path.{◌≡◌}
use mathlib.Core.Bool.{false}
use Prim.Native.Nat.{◌-◌, ◌≤◌}
use lib.ListN.{length, drop}
use Rattle.definitions.specs.Reader.{skip_blank, blank_at}
use Rattle.lexer.specs.Places.{cursor_at}
use Rattle.lexer.proofs.spaces.skip_blank.Given as goal

abbrev pub invariant-loop-at : goal.invariant-loop-at
invariant-loop-at l = (l.at ≤ l.i) × (l.i ≤ length l.s) × (skip_blank (cursor_at l.s l.at) ≡ blank_at false l.i (drop l.i l.s))

abbrev pub decreases-loop-at : goal.decreases-loop-at
decreases-loop-at l = length l.s - l.i
