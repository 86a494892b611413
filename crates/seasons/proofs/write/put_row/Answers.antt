-- `seasons::write::put_row` meets its contract. The loop's invariant is `Rowing`. Assumes nothing.
use Rattle.std.proofs.Common.{None, Ok, Err}
use borrow.Author.Rules.{rules}
use mathlib.Core.Path.{sym, ap, ◌∙◌}
use native.Mathlib.Omega.{arith}
use Rattle.seasons.proofs.Writing.{rowing-end, rowing-both, rowing-stands, rowing-further, rowing-room, rowing-next}
use Rattle.seasons.proofs.write.put_row.Goals as goal

pub returns-then-is_both : goal.returns-then-is_both
returns-then-is_both c =
    let l = c.loop-next in
    let a = c.args in
    rowing-both a.kind a.j.now a.k.now a.p a.dest.now a.out l.at l.dest l.o l.invariant _ (sym c.in-Ok-Some.ensures ∙ ap Ok c.in-Ok-Some.field-0-is) (sym c.if-is_both.ensures)

pub put_of-o-requires : goal.put_of-o-requires
put_of-o-requires c =
    let l = c.loop-next in
    let a = c.args in (
      rowing-stands a.kind a.j.now a.k.now a.p a.dest.now a.out l.at l.dest l.o l.invariant _ (sym c.in-Ok-Some.ensures ∙ ap Ok c.in-Ok-Some.field-0-is),
      rowing-room a.kind a.j.now a.k.now a.p a.dest.now a.out l.at l.dest l.o l.invariant _ (sym c.in-Ok-Some.ensures ∙ ap Ok c.in-Ok-Some.field-0-is) (sym c.if-is_both.ensures),
    )

pub loop-next-smaller : goal.loop-next-smaller
loop-next-smaller c =
    let l = c.loop-next in
    let a = c.args in
    let f = rowing-further a.kind a.j.now a.k.now a.p a.dest.now a.out l.at l.dest l.o l.invariant c.in-Ok-Some.next (sym c.in-Ok-Some.ensures ∙ ap Ok c.in-Ok-Some.field-0-is) in
    omega (arith, f.0, f.1)

pub loop-next-preserved : goal.loop-next-preserved
loop-next-preserved c =
    let l = c.loop-next in
    let a = c.args in
    rowing-next a.kind a.j.now a.k.now a.p a.dest.now a.out l.at l.dest l.o l.invariant _ (sym c.in-Ok-Some.ensures ∙ ap Ok c.in-Ok-Some.field-0-is) (sym c.if-is_both.ensures) _ _ c.put_of-o.ensures

pub returns-in_default : goal.returns-in_default
returns-in_default c =
    let l = c.loop-next in
    let a = c.args in
    rowing-end a.kind a.j.now a.k.now a.p a.dest.now a.out l.at l.dest l.o l.invariant (Ok None) (search rules) tt

pub returns-in_default-2 : goal.returns-in_default-2
returns-in_default-2 c =
    let l = c.loop-next in
    let a = c.args in
    rowing-end a.kind a.j.now a.k.now a.p a.dest.now a.out l.at l.dest l.o l.invariant (Err c.in_default.field-0) (sym c.in_default.is ∙ c.next_line.ensures) tt
