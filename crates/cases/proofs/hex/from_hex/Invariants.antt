-- `cases::hex::from_hex`: the first n bytes are written.
use Rattle.std.proofs.Common.{◌≡◌}
use Rattle.cases.specs.Hex.{from_hex}
use Rattle.cases.proofs.Digits.{over}
use Rattle.cases.proofs.hex.from_hex.Given as goal

abbrev pub invariant-loop-n : goal.invariant-loop-n
invariant-loop-n l = l.out ≡ over l.initial.out (from_hex l.s) l.n
