-- `rows::line_with` meets its contract. The loop's invariant: the next such line after place i is the one from `at` on. Assumes nothing.
use mathlib.Core.Path.{sym, ◌∙◌}
use mathlib.Core.Bool.{true, false}
use native.Mathlib.Omega.{arith}
use lib.ListN.{get_or}
use lib.Dec.{eqb}
use borrow.Author.Tests.{eq-eqb, ne_eqb}
use Rattle.rows.proofs.Places.{next_fits, next-none, next_here, next-inside, next-over}
use Rattle.rows.proofs.line_with.Goals as goal

pub returns-then-s-at : goal.returns-then-s-at
returns-then-s-at c =
    let a = c.args in
    (sym (next-none (λ b. eqb b a.c) a.s.now a.at true (omega arith)), omega arith)

pub returns-then-s-at-2 : goal.returns-then-s-at-2
returns-then-s-at-2 c =
    let a = c.args in
    let e = eq-eqb (get_or a.s.now a.at 0) a.c (omega arith) in
    (sym (next_here (λ b. eqb b a.c) a.s.now a.at (omega arith) e), omega arith)

pub loop-i-init : goal.loop-i-init
loop-i-init c =
    let a = c.args in
    let e = ne_eqb (get_or a.s.now a.at 0) a.c c.if-s-at-2.false in
    (omega arith, next-inside (λ b. eqb b a.c) a.s.now a.at (omega arith) e)

pub loop-i-preserved : goal.loop-i-preserved
loop-i-preserved c =
    let l = c.loop-i in
    let a = c.args in
    (omega arith, l.invariant.1 ∙ next-over (λ b. eqb b a.c) a.s.now l.i 16 (sym c.begins_in.ensures ∙ c.if-begins_in.false))

pub returns : goal.returns
returns c =
    let l = c.loop-i in
    let a = c.args in
    (c.by_bytes.ensures ∙ sym l.invariant.1, next_fits (λ b. eqb b a.c) a.s.now l.i false c.by_bytes.result l.invariant.0 c.by_bytes.ensures)
