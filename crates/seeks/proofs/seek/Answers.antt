use mathlib.Core.Path.{refl, ap, ◌∙◌}
use native.Mathlib.Omega.{arith}
use Rattle.std.specs.Prelude.{Ok}
use Rattle.editor.proofs.Parts.{lent_same}
use Rattle.seeks.specs.Edited.{looked_by}
use Rattle.seeks.proofs.Carrying.{look-leaves}
use Rattle.seeks.proofs.Seeking.{seeking-start, seeking-spent, seeking-ends, seeking-on, ends-stopped}
use Rattle.seeks.proofs.seek.Goals as goal

pub loop-made-init : goal.loop-made-init
loop-made-init c = ((λ se e x t w g h. seeking-start _ _ _ _ e x t h), omega arith, refl, refl)

pub overflow_add-passed : goal.overflow_add-passed
overflow_add-passed c = omega (arith, c.requires.2)

pub look-looked-requires : goal.look-looked-requires
look-looked-requires c =
    let p = c.requires in
    let w = c.loop-made.invariant.0 p.1.0.0 p.1.1.0 p.0.0 p.1.1.1 p.1.0.1 p.0.1 p.1.1.2 in
    (p.0, (p.1.0, (w.now, w.unread, w.ready)))

pub loop-made-preserved : goal.loop-made-preserved
loop-made-preserved c =
    let l = c.loop-made in
    let f = c.look-looked.ensures in (
      (λ se e x t w g h.
          let y = l.invariant.0 se e x t w g h in
          seeking-on _ (look-leaves _ se) y c.if-made-left.false _ _ (lent_same _ _ l.invariant.2) _ _ (ap (λ r. looked_by r c.look-looked.new.ed.st) (c.in-Ok.is ∙ ap Ok c.if-here.false)) (f.looks se y.now x y.unread w g y.ready)),
      omega arith,
      f.long ∙ l.invariant.2,
      f.keeps ∙ l.invariant.3,
    )

pub returns-then-made-left : goal.returns-then-made-left
returns-then-made-left c =
    let l = c.loop-made.invariant in
    record { keeps = l.3; long = l.2; seeks = λ se e x t w g h. seeking-spent (l.0 se e x t w g h) c.if-made-left.true l.1 }

pub returns-in_default : goal.returns-in_default
returns-in_default c =
    let l = c.loop-made.invariant in
    let f = c.look-looked.ensures in
    record {
      keeps = f.keeps ∙ l.3;
      long = f.long ∙ l.2;
      seeks = λ se e x t w g h.
          let y = l.0 se e x t w g h in
          seeking-ends _ (look-leaves _ se) y c.if-made-left.false _ _ (lent_same _ _ l.2) _ (ends-stopped _ _ (ap (λ r. looked_by r c.look-looked.new.ed.st) c.in_default.is)) (f.looks se y.now x y.unread w g y.ready);
    }

pub returns-then-here : goal.returns-then-here
returns-then-here c =
    let l = c.loop-made.invariant in
    let f = c.look-looked.ensures in
    record {
      keeps = f.keeps ∙ l.3;
      long = f.long ∙ l.2;
      seeks = λ se e x t w g h.
          let y = l.0 se e x t w g h in
          seeking-ends _ (look-leaves _ se) y c.if-made-left.false _ _ (lent_same _ _ l.2) _ c.if-here.true (rw c.in-Ok.is at (f.looks se y.now x y.unread w g y.ready));
    }
