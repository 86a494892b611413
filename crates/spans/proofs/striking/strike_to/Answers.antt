use mathlib.Core.Path.{◌∙◌}
use mathlib.Core.List.{◌++◌}
use native.Mathlib.Omega.{arith}
use Rattle.definitions.specs.Journal.{erase}
use Rattle.editor.proofs.Held.{stays_on}
use Rattle.spans.proofs.Struck.{passing-start, passing-first, passing-on, passing-done, strike-one, strike-none, strike-still}
use Rattle.spans.proofs.striking.strike_to.Goals as goal

pub loop-s-init : goal.loop-s-init
loop-s-init c = passing-start

pub pass_record-past-requires : goal.pass_record-past-requires
pass_record-past-requires c = passing-first c.loop-s.invariant c.requires c.loop-s-test.true

pub strike_record-s-requires : goal.strike_record-s-requires
strike_record-s-requires c =
    let w = passing-first c.loop-s.invariant c.requires c.loop-s-test.true in
    (w.1, w.0, w.2, c.pass_record-past.ensures.0 w.0 w.1 w.2 w.3, w.3.front)

pub loop-s-smaller : goal.loop-s-smaller
loop-s-smaller c =
    let w = passing-first c.loop-s.invariant c.requires c.loop-s-test.true in
    let r = c.pass_record-past in
    let v = c.strike_record-s in
    let h = r.ensures.0 w.0 w.1 w.2 w.3 in
    omega (arith, c.loop-s-test.true, r.ensures.2, strike-still h (v.ensures.0 w.1 w.0 w.2 h w.3.front) v.auto.j)

pub loop-s-preserved : goal.loop-s-preserved
loop-s-preserved c =
    let l = c.loop-s in
    let r = c.pass_record-past in
    let v = c.strike_record-s in
    passing-on l.invariant (λ x b. erase x ++ b) strike-one c.loop-s-test.true
    (λ b x a i. v.ensures.0 x b a (r.ensures.0 b x a i) i.front) (stays_on r.ensures.1 v.ensures.1) (v.auto.j ∙ r.auto.j)

pub shape_of-j : goal.shape_of-j
shape_of-j c = c.loop-s.invariant.long

pub returns : goal.returns
returns c = passing-done c.loop-s.invariant strike-none (λ x. let y = c.loop-s-test.false in omega arith)
