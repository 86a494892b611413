-- `needs::lacks_byte` meets its contract. Assumes nothing.
use Rattle.needs.proofs.Scanning.{Scanned}
use Rattle.needs.proofs.lacks_byte.Given as goal

abbrev pub invariant-loop-b : goal.invariant-loop-b
invariant-loop-b l = Scanned l.need l.bytes l.b-index l.without
