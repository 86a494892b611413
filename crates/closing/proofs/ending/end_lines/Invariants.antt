-- `closing::ending::end_lines`: the bytes that were passed are ended.
use Rattle.std.proofs.Common.{◌≡◌}
use Rattle.closing.proofs.Closing.{ended_to}
use Rattle.closing.proofs.ending.end_lines.Given as goal

abbrev pub invariant-loop-b : goal.invariant-loop-b
invariant-loop-b l = l.b-items ≡ ended_to l.b-index l.initial.b-items
