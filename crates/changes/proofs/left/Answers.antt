use mathlib.Core.Path.{refl}
use Rattle.editor.proofs.Shown.{point-text}
use Rattle.changes.proofs.Commands.{left-eof, left-start, left-on}
use Rattle.changes.proofs.left.Goals as goal

pub returns-then-ed : goal.returns-then-ed
returns-then-ed c = record { keeps = refl; long = refl; does = (refl, λ x e t h. left-eof x e t h c.if-ed.true) }

pub returns-then-ed-eq0 : goal.returns-then-ed-eq0
returns-then-ed-eq0 c = record { keeps = refl; long = refl; does = (refl, λ x e t h. left-start x e t h c.if-ed.false c.if-ed-eq0.true) }

pub invariant_of-ed : goal.invariant_of-ed
invariant_of-ed c =
    record { shows = point-text _ c.args.ed.now.shows }

pub returns : goal.returns
returns c = record { keeps = refl; long = refl; does = (refl, λ x e t h. left-on x e t h c.if-ed.false c.if-ed-eq0.false _ refl) }
