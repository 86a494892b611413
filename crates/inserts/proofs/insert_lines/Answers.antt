use mathlib.Core.Path.{refl}
use native.Mathlib.Omega.{arith}
use Rattle.definitions.specs.Given.{no_globals}
use Rattle.editor.proofs.Changing.{insert-full, insert-on}
use Rattle.editor.proofs.Shown.{shown, on-text}
use Rattle.inserts.proofs.insert_lines.Goals as goal

pub overflow_sub-room : goal.overflow_sub-room
overflow_sub-room c = (shown c.args.ed.now.shows).2.holds.order

pub returns-then-room-lines_room : goal.returns-then-room-lines_room
returns-then-room-lines_room c = record {
  keeps = refl;
  long = refl;
  does = λ x e t h. insert-full x _ e t h (omega (arith, c.if-room-lines_room.true, c.lines_room.ensures));
}

pub put_lines-ed-requires : goal.put_lines-ed-requires
put_lines-ed-requires c =
    let h = (shown c.args.ed.now.shows).2.holds in
    ((_, _, h), c.requires, omega (arith, c.if-room-lines_room.false, c.lines_room.ensures, h.order))

pub invariant_of-ed : goal.invariant_of-ed
invariant_of-ed c =
    let w = shown c.args.ed.now.shows in
    let r = c.put_lines-ed in
    record { shows = on-text _ (insert-on no_globals _ w.0 w.1 w.2 r.auto.j r.ensures) }

pub returns : goal.returns
returns c =
    let r = c.put_lines-ed in
    record { keeps = refl; long = r.auto.j; does = λ x e t h. insert-on x _ e t h r.auto.j r.ensures }
