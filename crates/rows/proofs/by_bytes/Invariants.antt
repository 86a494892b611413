-- `rows::by_bytes`: the next such line after the byte before place i is the one after place `at`.
use Rattle.std.proofs.Common.{◌≡◌, ◌-◌, ◌≤◌, false, length, eqb}
use Rattle.rows.proofs.Places.{next_from}
use Rattle.rows.proofs.by_bytes.Given as goal

abbrev pub invariant-loop-i : goal.invariant-loop-i
invariant-loop-i l = (l.i - 1 ≤ length l.s) × (next_from (λ b. eqb b l.c) false l.s l.at ≡ next_from (λ b. eqb b l.c) false l.s (l.i - 1))
