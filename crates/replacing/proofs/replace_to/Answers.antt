use mathlib.Core.Path.{refl, ◌∙◌}
use Rattle.editor.proofs.Shown.{on-text, stop-text}
use mathlib.Core.List.{[]}
use native.Mathlib.Omega.{arith}
use Rattle.spans.proofs.Struck.{spanned-until}
use Rattle.replacing.proofs.Freed.{gap-fits}
use Rattle.replacing.proofs.Whole.{freed-is, replace-full, struck-ready, replace-on}
use Rattle.replacing.proofs.replace_to.Goals as goal
use Rattle.replacing.proofs.replace_to.Goals.{then-gap-room+else-gap-freed, else-gap-room}

pub lines_room-room-requires : goal.lines_room-room-requires
lines_room-room-requires c = c.requires.1

pub overflow_sub-gap : goal.overflow_sub-gap
overflow_sub-gap c =
    let w = c.requires.0 in
    omega (arith, w.3.holds.order)

pub freed_to-freed-requires : goal.freed_to-freed-requires
freed_to-freed-requires c = spanned-until c.requires.0

pub overflow_add-gap : goal.overflow_add-gap
overflow_add-gap c =
    let w = spanned-until c.requires.0 in
    omega (arith, gap-fits w.0 w.1 w.2 w.3, c.freed_to-freed.ensures w.0 w.1 w.2 w.3 w.4)

pub read_after-next-requires : goal.read_after-next-requires
read_after-next-requires c = c.requires.0

pub invariant_of-ed : goal.invariant_of-ed
invariant_of-ed c =
    let r = c.read_after-next.ensures in
    let room = c.lines_room-room.ensures in
    let w = c.requires.0 in
    record { shows = stop-text _ _ (replace-full _ w.0 w.1 w.2 w.3 w.4 _ _ _ c.freed_to-freed.ensures room (omega (arith, c.if-gap-freed.true)) r) }

pub returns-then-gap-freed : goal.returns-then-gap-freed
returns-then-gap-freed c =
    let r = c.read_after-next.ensures in
    let room = c.lines_room-room.ensures in
    record {
      keeps = refl;
      long = refl;
      does = λ e t i h w. replace-full _ e t i h w _ _ _ c.freed_to-freed.ensures room (omega (arith, c.if-gap-freed.true)) r;
    }

pub strike_span-l-requires : goal.strike_span-l-requires
strike_span-l-requires c = c.requires.0

pub put_lines-ed-requires : goal.put_lines-ed-requires
put_lines-ed-requires c =
    let pre = c.requires in
    let w = pre.0 in
    let r = c.strike_span-l in
    let room = c.lines_room-room in
    let z = struck-ready [] w.0 w.1 w.2 w.3 w.4 _ _ r.ensures r.auto.j room.result (elim c.if-gap-room.branch [ then-gap-room+else-gap-freed v ↦ omega (arith, freed-is w.0 w.1 w.2 w.3 w.4 v.freed_to-freed.ensures) | else-gap-room v ↦ omega arith ]) in
    (z.0, pre.1, omega (arith, z.1, room.ensures))

pub invariant_of-ed-2 : goal.invariant_of-ed-2
invariant_of-ed-2 c =
    let r = c.strike_span-l in
    let p = c.put_lines-ed in
    let w = c.requires.0 in
    record { shows = on-text _ (replace-on _ w.0 w.1 w.2 w.3 w.4 _ _ r.ensures r.auto.j _ _ p.auto.j p.ensures) }

pub returns : goal.returns
returns c =
    let r = c.strike_span-l in
    let p = c.put_lines-ed in
    record {
      keeps = refl;
      long = p.auto.j ∙ r.auto.j;
      does = λ e t i h w. replace-on _ e t i h w _ _ r.ensures r.auto.j _ _ p.auto.j p.ensures;
    }
