-- `seasons::write::write` meets its contract. The loop's invariant is `Going`. Assumes nothing.
use Rattle.std.proofs.Common.{None, Ok, Err}
use borrow.Author.Rules.{rules}
use mathlib.Core.Path.{sym, ◌∙◌}
use native.Mathlib.Omega.{arith}
use Rattle.seasons.proofs.Writing.{going_end, going_next, going_less}
use Rattle.seasons.proofs.write.write.Goals as goal

pub loop-next-smaller : goal.loop-next-smaller
loop-next-smaller c =
    let l = c.loop-next in
    let a = c.args in
    let f = going_less a.j.now a.k.now a.dest.now l.p l.out l.dest l.invariant _ c.put_next-row.result (c.put_next-row.ensures l.invariant.rest l.invariant.due) in
    omega (arith, f.0, f.1)

pub loop-next-preserved : goal.loop-next-preserved
loop-next-preserved c =
    let l = c.loop-next in
    let a = c.args in
    going_next a.j.now a.k.now a.dest.now l.p l.out l.dest l.invariant _ c.put_next-row.result (c.put_next-row.ensures l.invariant.rest l.invariant.due)

pub returns-in_default : goal.returns-in_default
returns-in_default c =
    let l = c.loop-next in
    let a = c.args in
    going_end a.j.now a.k.now a.dest.now l.p l.out l.dest l.invariant (Ok None) (search rules) tt

pub returns-in_default-2 : goal.returns-in_default-2
returns-in_default-2 c =
    let l = c.loop-next in
    let a = c.args in
    going_end a.j.now a.k.now a.dest.now l.p l.out l.dest l.invariant (Err c.in_default.field-0) (sym c.in_default.is ∙ c.next_line.ensures) tt
