-- At each turn: what is left of the string, against what is left of the line. Assumes nothing.
use mathlib.Core.Path.{sym, ◌∙◌}
use mathlib.Core.Bool.{true}
use native.Mathlib.Omega.{arith}
use native.Mathlib.Nat.{add-zero}
use Rattle.matching.proofs.Strings.{whole, upper-differs, upper-agrees}
use Rattle.matching.proofs.place.same_folded.Goals as goal

pub loop-k-init : goal.loop-k-init
loop-k-init c = (omega arith, rw add-zero)

pub returns-then-upper : goal.returns-then-upper
returns-then-upper c =
    let l = c.loop-k in
    let a = c.args in
    sym (l.invariant.1 ∙ upper-differs a.s.now a.line.now a.at l.k (omega arith) (omega arith) (λ e. c.if-upper.true (c.upper.ensures ∙ e ∙ sym c.upper-in-loop-k.ensures)))

pub loop-k-preserved : goal.loop-k-preserved
loop-k-preserved c =
    let l = c.loop-k in
    let a = c.args in
    (omega arith, l.invariant.1 ∙ upper-agrees a.s.now a.line.now a.at l.k (omega arith) (omega arith) (sym c.upper.ensures ∙ c.if-upper.false ∙ c.upper-in-loop-k.ensures))

pub returns : goal.returns
returns c =
    let l = c.loop-k in
    let a = c.args in
    sym (l.invariant.1 ∙ whole true a.s.now a.line.now a.at l.k (omega arith))
