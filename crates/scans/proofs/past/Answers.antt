use mathlib.Core.Path.{sym, ◌∙◌}
use native.Mathlib.Omega.{arith}
use Rattle.scans.specs.Leading.{is_of}
use Rattle.scans.proofs.Runs.{reach-end, reach-stop, reach-on}
use Rattle.scans.proofs.past.Goals as goal

pub returns-then-not-is_of : goal.returns-then-not-is_of
returns-then-not-is_of c =
    let l = c.loop-i in
    let a = c.args in
    let e = sym c.is_of.ensures ∙ c.if-not-is_of.true in
    (sym (l.invariant.2 ∙ reach-stop (is_of a.kind) a.s.now l.i a.end (omega arith) (omega arith) e), l.invariant.1)

pub loop-i-preserved : goal.loop-i-preserved
loop-i-preserved c =
    let l = c.loop-i in
    let a = c.args in
    let e = sym c.is_of.ensures ∙ c.if-not-is_of.false in
    (omega arith, omega arith, l.invariant.2 ∙ reach-on (is_of a.kind) a.s.now l.i a.end (omega arith) (omega arith) e)

pub returns : goal.returns
returns c =
    let l = c.loop-i in
    let a = c.args in
    (sym (l.invariant.2 ∙ reach-end (is_of a.kind) a.s.now l.i a.end (omega arith)), l.invariant.1)
