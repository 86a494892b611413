-- `rows::begins_in` meets its contract. Assumes nothing.
use Rattle.std.proofs.Common.{sym, eqb, arith}
use Rattle.rows.proofs.Places.{among_none, among_next}
use Rattle.rows.proofs.begins_in.Goals as goal

pub loop-k-init : goal.loop-k-init
loop-k-init c = let a = c.args in sym (among_none (λ b. eqb b a.c) a.s.now a.at (omega arith))

pub loop-k-preserved : goal.loop-k-preserved
loop-k-preserved c =
    let a = c.args in
    rw c.loop-k.invariant (sym (among_next (λ b. eqb b a.c) a.s.now a.at c.loop-k.k (omega arith)))
