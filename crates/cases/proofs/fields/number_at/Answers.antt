use native.Mathlib.Omega.{arith}
use Rattle.cases.proofs.Places.{number-in}
use Rattle.cases.proofs.fields.number_at.Goals as goal

pub returns : goal.returns
returns c =
    let is = number-in c.args.k c.args.s.now _ c.field-f.ensures.0 in
    (is _ c.number.ensures, omega (arith, c.number.ensures))
