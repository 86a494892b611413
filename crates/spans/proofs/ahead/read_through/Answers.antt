use mathlib.Core.Path.{refl}
use native.Mathlib.Omega.{arith}
use Rattle.editor.proofs.Shown.{shown}
use Rattle.spans.proofs.ReadsAhead.{through-20, through-one, through-eof, through-28, through-up_to}
use Rattle.spans.proofs.ahead.read_through.Goals as goal

pub returns-then-ed : goal.returns-then-ed
returns-then-ed c = record { keeps = refl; long = refl; does = λ e x t s h. through-20 _ x e t h _ c.if-ed.true }

pub returns-then-through-eq0 : goal.returns-then-through-eq0
returns-then-through-eq0 c = record { keeps = refl; long = refl; does = λ e x t s h. through-one _ x e t h c.if-ed.false _ c.if-through-eq0.true }

pub overflow_add-last : goal.overflow_add-last
overflow_add-last c = omega (arith, (shown c.args.ed.now.shows).2.holds.few)

pub returns-then-through-eq65536 : goal.returns-then-through-eq65536
returns-then-through-eq65536 c =
    let r = c.read_to.ensures in
    record { keeps = r.keeps; long = r.long; does = λ e x t s h. through-eof _ x e t h c.if-ed.false _ c.if-through-eq65536.true _ _ (r.does e x t s h) }

pub returns-then-through-ed : goal.returns-then-through-ed
returns-then-through-ed c =
    record { keeps = refl; long = refl; does = λ e x t s h. through-28 _ x e t h c.if-ed.false _ c.if-through-eq0.false c.if-through-eq65536.false c.if-through-ed.true }

pub returns : goal.returns
returns c =
    let r = c.read_to-2.ensures in
    record {
      keeps = r.keeps;
      long = r.long;
      does = λ e x t s h. through-up_to _ x e t h c.if-ed.false _ c.if-through-eq0.false c.if-through-eq65536.false c.if-through-ed.false _ _ (r.does e x t s h);
    }
