use mathlib.Core.Path.{◌≡◌}
use Prim.Native.Nat.{◌≤◌}
use lib.ListN.{drop}
use Rattle.definitions.specs.Reader.{digits, digits_at}
use Rattle.lexer.specs.Places.{cursor_at}
use Rattle.lexer.specs.Answers.{capped}
use Rattle.lexer.proofs.numbers.digits.Given as goal

abbrev pub invariant-loop-i : goal.invariant-loop-i
invariant-loop-i l = (l.n ≤ 65536) × (capped (digits (cursor_at l.s l.at)) ≡ capped (digits_at l.n l.i (drop l.i l.s)))
