use mathlib.Core.Path.{refl}
use native.Mathlib.Omega.{arith}
use Rattle.editor.proofs.Shown.{shown}
use Rattle.spans.proofs.ReadsAhead.{target-here, target-eof, target-line}
use Rattle.spans.proofs.ahead.read_target.Goals as goal

pub returns-then-target-eq0 : goal.returns-then-target-eq0
returns-then-target-eq0 c = record { keeps = refl; long = refl; does = λ e x t s h. target-here _ x e t _ _ _ c.if-target-eq0.true refl h }

pub overflow_add-last : goal.overflow_add-last
overflow_add-last c = omega (arith, (shown c.args.ed.now.shows).2.holds.few)

pub returns-then-target-eq65536 : goal.returns-then-target-eq65536
returns-then-target-eq65536 c =
    let r = c.read_to.ensures in
    record { keeps = r.keeps; long = r.long; does = λ e x t s h. target-eof _ x e t _ _ _ c.if-target-eq65536.true h (r.does e x t s h) }

pub returns : goal.returns
returns c =
    let r = c.read_to-2.ensures in
    record { keeps = r.keeps; long = r.long; does = λ e x t s h. target-line _ x e t _ _ _ c.if-target-eq0.false c.if-target-eq65536.false (r.does e x t s h) }
