-- `cases::hex::to_hex`: the digits of the first i bytes are written.
use Rattle.std.proofs.Common.{◌≡◌, ◌*◌}
use Rattle.cases.specs.Hex.{to_hex}
use Rattle.cases.proofs.Digits.{over}
use Rattle.cases.proofs.hex.to_hex.Given as goal

abbrev pub invariant-loop-i : goal.invariant-loop-i
invariant-loop-i l = l.out ≡ over l.initial.out (to_hex l.s) (2 * l.i)
