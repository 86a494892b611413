use native.Mathlib.Omega.{arith}
use Rattle.cases.proofs.Places.{next-is}
use Rattle.cases.proofs.fields.field_end.Goals as goal

pub returns : goal.returns
returns c = (next-is _ _ _ _ c.past.ensures.0, omega arith, c.past.ensures.1)
