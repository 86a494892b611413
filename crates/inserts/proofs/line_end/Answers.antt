use mathlib.Core.Path.{refl, sym, ◌∙◌}
use native.Mathlib.Omega.{arith}
use Rattle.inserts.proofs.Lines.{end_none, end-hit, end-miss}
use Rattle.inserts.proofs.line_end.Goals as goal

pub loop-i-init : goal.loop-i-init
loop-i-init c = (c.requires.0, refl)

pub returns-then-s-i-eq10 : goal.returns-then-s-i-eq10
returns-then-s-i-eq10 c =
    let l = c.loop-i in
    (sym (l.invariant.1 ∙ end-hit c.args.s.now l.i c.args.end (omega arith) c.requires.1 c.if-s-i-eq10.true), omega arith)

pub loop-i-preserved : goal.loop-i-preserved
loop-i-preserved c =
    let l = c.loop-i in
    (omega arith, l.invariant.1 ∙ end-miss c.args.s.now l.i c.args.end (omega arith) c.requires.1 c.if-s-i-eq10.false)

pub returns : goal.returns
returns c =
    let l = c.loop-i in
    (sym (l.invariant.1 ∙ end_none c.args.s.now l.i c.args.end (omega arith)), l.invariant.0)
