use mathlib.Core.Path.{refl}
use lib.ListN.{take, drop}
use native.Mathlib.Omega.{arith}
use Rattle.definitions.specs.Given.{no_globals}
use Rattle.editor.proofs.Inserting.{text-length, text-short}
use Rattle.editor.proofs.Changing.{one-length, insert-full, insert-on}
use Rattle.editor.proofs.Shown.{shown, on-text}
use Rattle.editor.proofs.Editor.insert_line.Goals as goal

pub overflow_sub-room : goal.overflow_sub-room
overflow_sub-room c = (shown c.args.self.now.shows).2.holds.order

pub overflow_add-n : goal.overflow_add-n
overflow_add-n c =
    omega (arith, text-short c.args.s.now c.args.from c.args.n c.requires)

pub returns-then-room-n : goal.returns-then-room-n
returns-then-room-n c = record {
  keeps = refl;
  long = refl;
  does = λ x e t h. insert-full x _ e t h (omega (arith, c.if-room-n.true, one-length (take c.args.n (drop c.args.from c.args.s.now)), text-length c.args.s.now c.args.from c.args.n c.requires.0));
}

pub put_line-self-requires : goal.put_line-self-requires
put_line-self-requires c =
    let h = (shown c.args.self.now.shows).2.holds in
    ((_, _, h), c.requires, omega (arith, c.if-room-n.false, h.order))

pub invariant_of-self : goal.invariant_of-self
invariant_of-self c =
    let w = shown c.args.self.now.shows in
    let r = c.put_line-self in
    record { shows = on-text _ (insert-on no_globals _ w.0 w.1 w.2 r.auto.j r.ensures) }

pub returns : goal.returns
returns c =
    let r = c.put_line-self in
    record { keeps = refl; long = r.auto.j; does = λ x e t h. insert-on x _ e t h r.auto.j r.ensures }
