-- `leads::may_begin` meets its contract. Assumes nothing.
use native.Mathlib.Omega.{arith}
use lib.ListN.{length}
use Rattle.marks.specs.Slots.{slots-short}
use Rattle.leads.proofs.Beginning.{out-empty, out-begun}
use Rattle.leads.proofs.may_begin.Goals as goal

pub sweep-out-requires : goal.sweep-out-requires
sweep-out-requires c =
    let a = c.args in
    let p = c.requires.1 in
    (p.0, p.1, omega (arith, slots-short a.pattern.now p.0 p.1))

pub returns-then-out : goal.returns-then-out
returns-then-out c = λ p r.
    let a = c.args in
    let sweep = c.sweep-out in
    out-empty p a.b 256 (omega (arith, slots-short a.pattern.now p r)) sweep.result sweep.new.marks (sweep.ensures p r) c.if-out.true

pub returns : goal.returns
returns c = λ p r.
    let a = c.args in
    let short = slots-short a.pattern.now p r in
    let sweep = c.sweep-out in
    out-begun p a.b 256 (omega (arith, short)) sweep.result sweep.new.marks (sweep.ensures p r) c.if-out.false
    (length a.pattern.now) short c.is_idle.result c.is_idle.ensures
