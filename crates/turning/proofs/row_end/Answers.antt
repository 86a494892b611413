-- `turning::row_end` meets its contract. The loop's invariant is `Within`. Assumes nothing.
use mathlib.Core.Path.{sym}
use native.Mathlib.Omega.{arith}
use Rattle.journal.proofs.Here.{in-places}
use Rattle.turning.proofs.Walks.{within-start, within-nowhere, within_end, within-other, within-next}
use Rattle.turning.proofs.row_end.Goals as goal

pub loop-i-init : goal.loop-i-init
loop-i-init c = within-start c.args.b c.args.j.now c.args.at c.requires.0 c.requires.1

pub returns-then-j-i : goal.returns-then-j-i
returns-then-j-i c =
    let a = c.args in
    let l = c.loop-i in
    within-other a.b a.j.now a.at l.i l.invariant (omega arith) c.if-j-i.true

pub returns-in_default : goal.returns-in_default
returns-in_default c =
    let a = c.args in
    let l = c.loop-i in
    absurd (within-nowhere a.b a.j.now a.at l.i l.invariant (omega arith) (sym c.in_default.ensures))

pub overflow_add-i : goal.overflow_add-i
overflow_add-i c = omega (arith, in-places _ _ _ (sym c.in-Some.ensures))

pub loop-i-smaller : goal.loop-i-smaller
loop-i-smaller c = omega (arith, in-places _ _ _ (sym c.in-Some.ensures))

pub loop-i-preserved : goal.loop-i-preserved
loop-i-preserved c =
    let a = c.args in
    let l = c.loop-i in
    within-next a.b a.j.now a.at l.i l.invariant c.in-Some.x (sym c.in-Some.ensures) c.if-j-i.false

pub returns : goal.returns
returns c =
    let a = c.args in
    let l = c.loop-i in
    within_end a.b a.j.now a.at l.i l.invariant (omega arith)
