use mathlib.Core.Path.{refl}
use native.Mathlib.Omega.{arith}
use Rattle.spans.proofs.Erasing.{cleared-gap}
use Rattle.spans.proofs.striking.close_hole.Goals as goal

pub shift_up-requires : goal.shift_up-requires
shift_up-requires c =
    let k = c.clear in
    (c.requires.0, c.requires.1, omega (arith, c.requires.2, k.auto.j), rw k.ensures (cleared-gap c.args.j.now c.args.from c.args.to c.requires.1 c.requires.2))

pub returns : goal.returns
returns c = (rw (← c.clear.ensures) c.shift_up.ensures, refl)
