-- `rows::lines_below` meets its contract. The loop's invariant: the lines from i on end where those from `at` on do. Assumes nothing.
use mathlib.Core.Path.{refl, sym, ◌∙◌}
use mathlib.Core.Bool.{true}
use native.Mathlib.Omega.{arith}
use lib.ListN.{get_or}
use lib.Dec.{leb}
use borrow.Author.Tests.{le-leb, lt-leb}
use Rattle.rows.proofs.Places.{next_here, next-line, next-none}
use Rattle.rows.proofs.lines_below.Goals as goal

pub loop-i-init : goal.loop-i-init
loop-i-init c = (omega arith, omega arith, refl)

pub returns-then-limit-s : goal.returns-then-limit-s
returns-then-limit-s c =
    let l = c.loop-i in
    let a = c.args in
    let e = le-leb a.limit (get_or a.s.now l.i 0) (omega arith) in
    (sym (l.invariant.2 ∙ next_here (λ b. leb a.limit b) a.s.now l.i (omega arith) e), l.invariant.0, l.invariant.1)

pub loop-i-smaller : goal.loop-i-smaller
loop-i-smaller c =
    let l = c.loop-i in
    let a = c.args in
    let e = lt-leb a.limit (get_or a.s.now l.i 0) (omega arith) in
    let line = next-line (λ b. leb a.limit b) a.s.now l.i (omega arith) e c.line_after-i.result c.line_after-i.ensures in
    omega (arith, line.0, line.1)

pub loop-i-preserved : goal.loop-i-preserved
loop-i-preserved c =
    let l = c.loop-i in
    let a = c.args in
    let e = lt-leb a.limit (get_or a.s.now l.i 0) (omega arith) in
    let line = next-line (λ b. leb a.limit b) a.s.now l.i (omega arith) e c.line_after-i.result c.line_after-i.ensures in
    (omega (arith, line.0), line.1, l.invariant.2 ∙ line.2)

pub returns : goal.returns
returns c =
    let l = c.loop-i in
    let a = c.args in
    (sym (l.invariant.2 ∙ next-none (λ b. leb a.limit b) a.s.now l.i true (omega arith)), l.invariant.0, l.invariant.1)
