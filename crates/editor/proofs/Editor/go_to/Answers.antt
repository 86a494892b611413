use mathlib.Core.Path.{refl}
use Rattle.editor.proofs.Moving.{target-eof, target-line, here-as, target-by}
use Rattle.editor.proofs.Shown.{point-text, numbers-as}
use Rattle.editor.proofs.Editor.go_to.Goals as goal

pub invariant_of-self : goal.invariant_of-self
invariant_of-self c = record { shows = numbers-as c.go_here-self.ensures (point-text 0 c.args.self.now.shows) }

pub returns-then-target-eq0 : goal.returns-then-target-eq0
returns-then-target-eq0 c = record {
  keeps = refl;
  long = refl;
  does = λ e t h. here-as _ _ e t _ h c.if-target-eq0.true c.go_here-self.ensures;
}

pub returns-then-target-eq65536 : goal.returns-then-target-eq65536
returns-then-target-eq65536 c = record {
  keeps = c.go_to_eof.ensures.keeps;
  long = c.go_to_eof.ensures.long;
  does = λ e t h. target-by _ _ e t _ _ _ (target-eof _ c.if-target-eq65536.true) (c.go_to_eof.ensures.does e t h);
}

pub returns : goal.returns
returns c = record {
  keeps = c.go_to_line.ensures.keeps;
  long = c.go_to_line.ensures.long;
  does = λ e t h. target-by _ _ e t _ _ _ (target-line _ c.if-target-eq0.false c.if-target-eq65536.false) (c.go_to_line.ensures.does e t h);
}
