-- `rows::begins_in`: whether it begins after one of the first k bytes.
use Rattle.std.proofs.Common.{◌≡◌, drop, eqb}
use Rattle.rows.proofs.Places.{among}
use Rattle.rows.proofs.begins_in.Given as goal

abbrev pub invariant-loop-k : goal.invariant-loop-k
invariant-loop-k l = l.found ≡ among (λ b. eqb b l.c) l.k (drop l.at l.s)
