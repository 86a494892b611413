use mathlib.Core.Path.{refl}
use Rattle.matching.proofs.Leads.{way_end, way-other}
use Rattle.matching.proofs.pattern.way_of.Goals as goal

pub returns-then-q-eq2 : goal.returns-then-q-eq2
returns-then-q-eq2 c = (way_end _ c.if-q-eq2.true, refl, refl)

pub returns : goal.returns
returns c = (way-other _ c.if-q-eq2.false, refl, refl)
