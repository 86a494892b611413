-- `rows::by_bytes` meets its contract. Assumes nothing.
use Rattle.std.proofs.Common.{◌≡◌, ◌+◌, ◌-◌, sym, ◌∙◌, eqb, arith}
use Rattle.rows.proofs.Places.{pair-hit, pair-miss, pair-none}
use Rattle.rows.proofs.by_bytes.Goals as goal

pub returns-then-s-i : goal.returns-then-s-i
returns-then-s-i c =
    let l = c.loop-i in
    let a = c.args in
    let back : l.i - 1 + 1 ≡ l.i = omega arith in
    sym (l.invariant.1 ∙ rw back at (pair-hit (λ b. eqb b a.c) a.s.now (l.i - 1)) (omega arith) c.if-s-i.true)

pub loop-i-preserved : goal.loop-i-preserved
loop-i-preserved c =
    let l = c.loop-i in
    let a = c.args in
    let back : l.i - 1 + 1 ≡ l.i = omega arith in
    let on : l.i + 1 - 1 ≡ l.i = omega arith in
    (omega arith, rw on (l.invariant.1 ∙ rw back at (pair-miss (λ b. eqb b a.c) a.s.now (l.i - 1)) (omega arith) c.if-s-i.false))

pub returns : goal.returns
returns c =
    let l = c.loop-i in
    let a = c.args in
    sym (l.invariant.1 ∙ pair-none (λ b. eqb b a.c) a.s.now (l.i - 1) (omega arith) (omega arith))
