use mathlib.Core.Path.{refl}
use native.Mathlib.Omega.{arith}
use Rattle.editor.specs.Shows.{lent}
use Rattle.editor.proofs.Held.{held-length, held-gap}
use Rattle.editor.proofs.Moving.{eof-on}
use Rattle.editor.proofs.Shown.{shown, went-text}
use Rattle.editor.proofs.Editor.go_to_eof.Goals as goal

pub overflow_sub-n : goal.overflow_sub-n
overflow_sub-n c = omega (arith, held-length (shown c.args.self.now.shows).2.holds)

pub shift_down-requires : goal.shift_down-requires
shift_down-requires c =
    let h = (shown c.args.self.now.shows).2.holds in
    (h.order, omega (arith, held-length h), held-gap h)

pub invariant_of-self : goal.invariant_of-self
invariant_of-self c =
    let w = shown c.args.self.now.shows in
    record { shows = went-text _ (eof-on (lent c.args.self.now.journal.now) w.0 w.1 w.2 c.read_to-s.ensures c.shift_down.ensures refl refl refl refl refl refl refl refl) }

pub returns : goal.returns
returns c = record { keeps = refl; long = c.shift_down.auto.j; does = λ e t h. eof-on _ e t h c.read_to-s.ensures c.shift_down.ensures refl refl refl refl refl refl refl refl }
