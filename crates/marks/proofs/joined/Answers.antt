-- `marks::joined` meets its contract. Assumes nothing.
use mathlib.Core.Path.{ap₂}
use Rattle.marks.specs.Written.{both}
use Rattle.marks.specs.declared.Flow.{Flow}
use Rattle.marks.proofs.joined.Goals as goal

pub returns : goal.returns
unfolding both
returns c =
    let h = c.args.h in
    ap₂ {C = Flow} (λ v w. record { at = h.at; slot = h.slot; old = v; new = w }) c.min.ensures c.min-2.ensures
