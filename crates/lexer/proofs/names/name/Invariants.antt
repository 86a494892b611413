use lib.ListN.{drop}
use mathlib.Core.Path.{◌≡◌}
use Prim.Native.Nat.{◌<◌}
use Rattle.definitions.specs.Reader.{name, letters_at}
use Rattle.lexer.specs.Places.{cursor_at}
use Rattle.lexer.specs.Steps.{limit}
use Rattle.lexer.proofs.names.name.Given as goal

abbrev pub invariant-loop-i : goal.invariant-loop-i
invariant-loop-i l = (l.n < limit l.left) × (name (cursor_at l.s l.at) ≡ letters_at l.left l.n l.i (drop l.i l.s))
