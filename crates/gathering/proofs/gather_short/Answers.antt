-- `gathering::gather_short` meets its contract. The loop's invariant: the lines before `at` are gathered. Assumes nothing.
use mathlib.Core.Path.{refl}
use native.Mathlib.Omega.{arith}
use Rattle.gathering.proofs.Passes.{passed_none, line-inside, passed-minus, passed-other, passed-all}
use Rattle.gathering.proofs.gather_short.Goals as goal

pub loop-at-init : goal.loop-at-init
loop-at-init c = passed_none c.args.s.now _ refl

pub overflow_sub-n : goal.overflow_sub-n
overflow_sub-n c = let h = (line-inside _ _ _ _ _ _ c.loop-at.invariant (omega arith) c.line_after-e.ensures) in omega arith

pub overflow_add-p : goal.overflow_add-p
overflow_add-p c = let h = (line-inside _ _ _ _ _ _ c.loop-at.invariant (omega arith) c.line_after-e.ensures) in omega arith

pub copy_down-requires : goal.copy_down-requires
copy_down-requires c = let h = (line-inside _ _ _ _ _ _ c.loop-at.invariant (omega arith) c.line_after-e.ensures) in (omega arith, omega arith)

pub copy_in-requires : goal.copy_in-requires
copy_in-requires c = let h = (line-inside _ _ _ _ _ _ c.loop-at.invariant (omega arith) c.line_after-e.ensures) in (omega arith, omega arith)

pub loop-at-smaller-then-s-at-eq45 : goal.loop-at-smaller-then-s-at-eq45
loop-at-smaller-then-s-at-eq45 c = let h = (line-inside _ _ _ _ _ _ c.loop-at.invariant (omega arith) c.line_after-e.ensures) in omega (arith, c.copy_down.auto.d)

pub loop-at-preserved-then-s-at-eq45 : goal.loop-at-preserved-then-s-at-eq45
loop-at-preserved-then-s-at-eq45 c =
    let l = c.loop-at in
    let e = c.line_after-e.ensures in
    let d = c.copy_down in
    passed-minus _ l.s _ l.p l.at _ l.invariant (omega arith) e _ c.if-s-at-eq45.true d.ensures d.auto.d

pub loop-at-smaller : goal.loop-at-smaller
loop-at-smaller c = let h = (line-inside _ _ _ _ _ _ c.loop-at.invariant (omega arith) c.line_after-e.ensures) in omega arith

pub loop-at-preserved : goal.loop-at-preserved
loop-at-preserved c =
    let l = c.loop-at in
    let e = c.line_after-e.ensures in
    let d = c.copy_in in
    let short = c.requires in
    passed-other _ l.s _ l.p l.at _ l.invariant (omega arith) e _ short c.if-s-at-eq45.false d.ensures d.auto.d

pub copy_in-requires-2 : goal.copy_in-requires-2
copy_in-requires-2 c = (omega arith, omega arith)

pub returns : goal.returns
returns c =
    let l = c.loop-at in
    passed-all _ l.s _ _ l.p l.at l.invariant (omega arith) c.copy_in-2.ensures
