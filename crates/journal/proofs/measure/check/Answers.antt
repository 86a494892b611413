-- `journal::measure::check` meets its contract. The loop's invariant: the verdict on all is that on what is left, with `m` measured. Assumes nothing.
use mathlib.Core.Path.{refl, sym, ap, ◌∙◌}
use native.Mathlib.Omega.{arith}
use Rattle.journal.proofs.Here.{here, in_order, found-again}
use Rattle.journal.proofs.Measures.{nothing-small, counted-small, check-start, check-nowhere, check-equal, check-step, check-end, verdict-is}
use Rattle.journal.proofs.measure.check.Goals as goal

pub loop-x-init : goal.loop-x-init
loop-x-init c =
    let f = c.from_start-left in
    rw (f.ensures.bytes, f.ensures.start) (refl, omega arith, nothing-small, check-start c.args.j.now)

pub unchanged-requires : goal.unchanged-requires
unchanged-requires c =
    let l = c.loop-x in
    let s = l.left in
    let j = c.args.j.now in
    found-again j s.at c.in-Some.x (rw l.invariant.0 at c.in-Some.ensures.steps.0)

pub returns-then-unchanged : goal.returns-then-unchanged
returns-then-unchanged c =
    let l = c.loop-x in
    let s = l.left in
    let j = c.args.j.now in
    let w = here j s.at c.in-Some.x (rw l.invariant.0 at c.in-Some.ensures.steps.0) in
    sym (l.invariant.3 ∙ check-equal j s.at l.m c.in-Some.x w (sym c.if-unchanged.ensures))

pub count-m-requires : goal.count-m-requires
count-m-requires c =
    let l = c.loop-x in
    let s = l.left in
    let j = c.args.j.now in
    let w = here j s.at c.in-Some.x (rw l.invariant.0 at c.in-Some.ensures.steps.0) in
    (in_order j s.at c.in-Some.x w (omega arith), rw w.place l.invariant.2)

pub loop-x-preserved : goal.loop-x-preserved
loop-x-preserved c =
    let l = c.loop-x in
    let s = l.left in
    let j = c.args.j.now in
    let n = c.in-Some.ensures.steps in
    let w = here j s.at c.in-Some.x (rw l.invariant.0 at n.0) in
    let i = w.inside in
    let k = c.count-m.ensures in (
      ap (λ t. t.now) n.1 ∙ l.invariant.0,
      omega (arith, n.2),
      rw (n.2, k) (counted-small c.in-Some.x (in_order j s.at c.in-Some.x w (omega arith)) l.m (rw w.place l.invariant.2)),
      l.invariant.3 ∙ check-step j s.at l.m c.in-Some.x w (sym c.if-unchanged.ensures) ∙ rw (n.2, k),
    )

pub returns-then-left-j : goal.returns-then-left-j
returns-then-left-j c =
    let l = c.loop-x in
    let n = c.in_default.ensures.steps in
    sym (l.invariant.3 ∙ check-nowhere c.args.j.now l.left.at l.m (omega (arith, ap (λ t. t.at) n.1)) (rw l.invariant.0 at n.0))

pub returns : goal.returns
returns c =
    let l = c.loop-x in
    let n = c.in_default.ensures.steps in
    c.then_some.ensures ∙ verdict-is l.m ∙ sym (l.invariant.3 ∙ check-end c.args.j.now l.left.at l.m (omega (arith, ap (λ t. t.at) n.1)))
