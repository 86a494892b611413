-- `cases::fields::field`: the field after k spaces is the one after those that are left, from `start` on.
use Rattle.std.proofs.Common.{◌≡◌, ◌-◌, ◌≤◌, length}
use Rattle.cases.specs.Fields.{field_from}
use Rattle.cases.proofs.fields.field.Given as goal

abbrev pub invariant-loop : goal.invariant-loop
invariant-loop l = (l.start ≤ length l.s) × (field_from l.k l.s 0 ≡ field_from (l.k - l.counter) l.s l.start)
