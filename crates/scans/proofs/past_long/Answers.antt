-- `scans::past_long` meets its contract. The loop's invariant: the run from place i ends where the one from the start does. Assumes nothing.
use mathlib.Core.Path.{refl, sym, ◌∙◌}
use native.Mathlib.Omega.{arith}
use Rattle.scans.specs.Leading.{is_of}
use Rattle.scans.proofs.Runs.{pass-part, reach-over}
use Rattle.scans.proofs.past_long.Goals as goal
use Rattle.scans.proofs.past_long.Goals.{then-end-ge8+else-loop-i-test, then-end-ge8+then-loop-i-test+then-not-all_are_of, else-end-ge8}

pub loop-i-init : goal.loop-i-init
loop-i-init c = (omega arith, omega arith, refl)

pub loop-i-preserved : goal.loop-i-preserved
loop-i-preserved c =
    let l = c.loop-i in
    let a = c.args in
    let all = sym (c.all_are_of.ensures ∙ pass-part (is_of a.kind) a.s.now c.min-from.result 8 (omega arith)) ∙ c.if-not-all_are_of.false in
    (omega arith, omega arith, l.invariant.2 ∙ reach-over (is_of a.kind) a.s.now c.min-from.result 8 l.i a.end (omega arith) all (omega arith) (omega arith) (omega arith))

pub past-requires : goal.past-requires
past-requires c = (
  elim c.if-end-ge8.branch [
    | then-end-ge8+else-loop-i-test w ↦ rw w.i-is w.loop-i.invariant.1
    | then-end-ge8+then-loop-i-test+then-not-all_are_of w ↦ rw w.i-is w.loop-i.invariant.1
    | else-end-ge8 w ↦ rw w.i-is (omega arith)
  ],
  omega arith,
)

pub returns : goal.returns
returns c = (
  c.past.ensures.0 ∙ sym (elim c.if-end-ge8.branch [
    | then-end-ge8+else-loop-i-test w ↦ rw w.i-is w.loop-i.invariant.2
    | then-end-ge8+then-loop-i-test+then-not-all_are_of w ↦ rw w.i-is w.loop-i.invariant.2
    | else-end-ge8 w ↦ rw w.i-is
  ]),
  c.past.ensures.1,
)
