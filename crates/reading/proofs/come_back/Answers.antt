use mathlib.Core.Path.{refl}
use native.Mathlib.Omega.{arith}
use Rattle.reading.proofs.Back.{back-far, back-moves, back-holds}
use Rattle.reading.proofs.come_back.Goals as goal

pub shift_up-requires : goal.shift_up-requires
shift_up-requires c =
    let w = c.requires in
    back-moves w.1 w.2 w.3 w.4 w.5 w.6

pub overflow_sub-result : goal.overflow_sub-result
overflow_sub-result c =
    let w = c.requires in
    omega (arith, back-far w.1 w.2 w.3 w.4 w.5 w.6)

pub overflow_sub-result-2 : goal.overflow_sub-result-2
overflow_sub-result-2 c =
    let w = c.requires in
    omega (arith, w.6.order, back-far w.1 w.2 w.3 w.4 w.5 w.6)

pub returns : goal.returns
returns c = ((λ i b m a x was h. back-holds b m a x was h _ _ c.shift_up.ensures refl refl refl refl refl refl), refl, refl)
