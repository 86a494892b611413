use mathlib.Core.Path.{refl, sym, ◌∙◌}
use native.Mathlib.Omega.{arith}
use Rattle.definitions.specs.Editor.{before_of}
use Rattle.definitions.specs.Given.{no_globals}
use Rattle.editor.specs.Shows.{rest_of, lent}
use Rattle.editor.proofs.Held.{stays_on, stays-still}
use Rattle.editor.proofs.Parts.{came-as}
use Rattle.editor.proofs.Walking.{way-start, way-away, unpassable, back_in}
use Rattle.editor.proofs.Moving.{dead_goes, back_on, back-stop}
use Rattle.editor.proofs.Shown.{shown, went-text, text-as}
use Rattle.editor.proofs.Editor.go_back.Goals as goal

pub loop-s-init : goal.loop-s-init
loop-s-init c = ((λ e t h. way-start (before_of e) (rest_of e t) h.holds), stays-still, refl)

pub unpass_record-s-requires : goal.unpass_record-s-requires
unpass_record-s-requires c =
    let w = shown c.args.self.now.shows in
    unpassable (c.loop-s.invariant.0 w.0 w.1 w.2).holds c.loop-s-test.true

pub bounds-j-at : goal.bounds-j-at
bounds-j-at c =
    let w = shown c.args.self.now.shows in
    back_in (c.loop-s.invariant.0 w.0 w.1 w.2) c.loop-s-test.true c.unpass_record-s.ensures

pub invariant_of-self : goal.invariant_of-self
invariant_of-self c =
    let w = shown c.args.self.now.shows in
    let l = c.loop-s in
    let r = c.unpass_record-s in
    record {
      shows = went-text _ (back_on (lent c.args.self.now.journal.now) no_globals w.0 w.1 w.2 (l.invariant.0 w.0 w.1 w.2) c.loop-s-test.true r.ensures c.if-j-at-ne45.true (stays_on l.invariant.1 r.ensures.1));
    }

pub returns-then-j-at-ne45 : goal.returns-then-j-at-ne45
returns-then-j-at-ne45 c =
    let l = c.loop-s in
    let r = c.unpass_record-s in
    record {
      keeps = refl;
      long = r.auto.j ∙ l.invariant.2;
      does = λ x e t h. back_on _ x e t h (l.invariant.0 e t h) c.loop-s-test.true r.ensures c.if-j-at-ne45.true (stays_on l.invariant.1 r.ensures.1);
    }

pub loop-s-smaller : goal.loop-s-smaller
loop-s-smaller c = c.unpass_record-s.ensures.2

pub loop-s-preserved : goal.loop-s-preserved
loop-s-preserved c =
    let l = c.loop-s in
    let r = c.unpass_record-s in (
      (λ e t h. dead_goes (l.invariant.0 e t h) c.loop-s-test.true r.ensures c.if-j-at-ne45.false),
      stays_on l.invariant.1 r.ensures.1,
      r.auto.j ∙ l.invariant.2,
    )

pub gap_to-requires : goal.gap_to-requires
gap_to-requires c =
    let w = shown c.args.self.now.shows in
    (c.args.self.now.journal.now, way-away w.2.holds (c.loop-s.invariant.0 w.0 w.1 w.2) (sym c.loop-s.invariant.2))

pub invariant_of-self-2 : goal.invariant_of-self-2
invariant_of-self-2 c =
    let w = shown c.args.self.now.shows in
    let back = c.gap_to.ensures _ (way-away w.2.holds (c.loop-s.invariant.0 w.0 w.1 w.2) (sym c.loop-s.invariant.2)) in
    record { shows = text-as back c.args.self.now.shows }

pub returns : goal.returns
returns c =
    let l = c.loop-s in
    let none = c.loop-s-test.false in
    record {
      keeps = refl;
      long = c.gap_to.auto.j ∙ c.loop-s.invariant.2;
      does = λ x e t h.
          came-as (c.gap_to.ensures _ (way-away h.holds (l.invariant.0 e t h) (sym l.invariant.2))) _ _
          (back-stop _ x e t h (l.invariant.0 e t h) (omega arith));
    }
