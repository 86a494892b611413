-- At each turn: what is left of the string, against what is left of the line. Assumes nothing.
use mathlib.Core.Path.{sym, ◌∙◌}
use mathlib.Core.Bool.{false}
use native.Mathlib.Omega.{arith}
use native.Mathlib.Nat.{add-zero}
use Rattle.matching.proofs.Strings.{whole, plain-differs, plain-agrees}
use Rattle.matching.proofs.place.same.Goals as goal

pub loop-k-init : goal.loop-k-init
loop-k-init c = (omega arith, rw add-zero)

pub returns-then-b-line : goal.returns-then-b-line
returns-then-b-line c =
    let l = c.loop-k in
    let a = c.args in
    sym (l.invariant.1 ∙ plain-differs a.s.now a.line.now a.at l.k (omega arith) (omega arith) c.if-b-line.true)

pub loop-k-preserved : goal.loop-k-preserved
loop-k-preserved c =
    let l = c.loop-k in
    let a = c.args in
    (omega arith, l.invariant.1 ∙ plain-agrees a.s.now a.line.now a.at l.k (omega arith) (omega arith) c.if-b-line.false)

pub returns : goal.returns
returns c =
    let l = c.loop-k in
    let a = c.args in
    sym (l.invariant.1 ∙ whole false a.s.now a.line.now a.at l.k (omega arith))
