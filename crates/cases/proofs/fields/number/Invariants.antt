-- `cases::fields::number`: the value so far, and what the digits that are left make of it.
use Rattle.std.proofs.Common.{◌≡◌, ◌≤◌, min, drop}
use Rattle.cases.specs.Fields.{value_of}
use Rattle.cases.proofs.fields.number.Given as goal

abbrev pub invariant-loop-b : goal.invariant-loop-b
invariant-loop-b l = (l.n ≤ 65535) × (min 65535 (value_of 0 l.s) ≡ min 65535 (value_of l.n (drop l.b-index l.s)))
