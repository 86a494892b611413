-- `text::lines_form` meets its contract. The loop's invariant: the form of all is that of what is left, after `n` lines. Assumes nothing.
use Rattle.std.proofs.Common.{sym, ◌∙◌, arith}
use Rattle.text.proofs.Ends.{ended}
use Rattle.text.proofs.Forms.{form-start, form-step, form-bad, form-end}
use Rattle.text.proofs.lines_form.Goals as goal

pub loop-at-init : goal.loop-at-init
loop-at-init c = (omega arith, omega arith, form-start c.args.s.now)

pub returns-in_err-e : goal.returns-in_err-e
returns-in_err-e c =
    let l = c.loop-at in
    c.from_residual.ensures ∙ sym (l.invariant.2 ∙ form-bad l.n l.at c.args.s.now (omega arith) (sym c.in_err-e.ensures))

pub overflow_add-at : goal.overflow_add-at
overflow_add-at c =
    let k = ended c.args.s.now c.loop-at.at c.in_ok-e.e (sym c.in_ok-e.ensures) in
    omega arith

pub loop-at-smaller : goal.loop-at-smaller
loop-at-smaller c =
    let k = ended c.args.s.now c.loop-at.at c.in_ok-e.e (sym c.in_ok-e.ensures) in
    omega arith

pub loop-at-preserved : goal.loop-at-preserved
loop-at-preserved c =
    let l = c.loop-at in
    let k = ended c.args.s.now l.at c.in_ok-e.e (sym c.in_ok-e.ensures) in
    (omega arith, omega arith, l.invariant.2 ∙ form-step l.n l.at c.in_ok-e.e c.args.s.now k)

pub returns : goal.returns
returns c =
    let l = c.loop-at in
    sym (l.invariant.2 ∙ form-end l.n l.at c.args.s.now (omega arith))
