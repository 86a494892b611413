use mathlib.Core.Path.{refl}
use Rattle.spans.proofs.Founds.{finds-text, finds-stop-text}
use Rattle.spans.proofs.finding.span_end.Goals as goal

pub invariant_of-ed : goal.invariant_of-ed
invariant_of-ed c = record { shows = finds-text _ _ c.args.ed.now.shows (rw c.in-Ok.is at c.find_end.ensures) }

pub returns-in-Ok : goal.returns-in-Ok
returns-in-Ok c = record { keeps = refl; same = refl; finds = rw c.in-Ok.is at c.find_end.ensures }

pub invariant_of-ed-in-Err : goal.invariant_of-ed-in-Err
invariant_of-ed-in-Err c = record { shows = finds-stop-text _ _ c.args.ed.now.shows (rw c.in-Err.is at c.find_end.ensures) }

pub returns-in-Err : goal.returns-in-Err
returns-in-Err c = record { keeps = refl; same = refl; finds = rw c.in-Err.is at c.find_end.ensures }
