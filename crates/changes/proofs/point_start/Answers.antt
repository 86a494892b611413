use mathlib.Core.Path.{refl}
use Rattle.editor.proofs.Shown.{point-text}
use Rattle.changes.proofs.Commands.{start-eof, start-on}
use Rattle.changes.proofs.point_start.Goals as goal

pub returns-then-ed : goal.returns-then-ed
returns-then-ed c = record { keeps = refl; long = refl; does = (refl, λ x e t h. start-eof x e t h c.if-ed.true) }

pub invariant_of-ed : goal.invariant_of-ed
invariant_of-ed c =
    record { shows = point-text _ c.args.ed.now.shows }

pub returns : goal.returns
returns c = record { keeps = refl; long = refl; does = (refl, λ x e t h. start-on x e t h c.if-ed.false _ refl) }
