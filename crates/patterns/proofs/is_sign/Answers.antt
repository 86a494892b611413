-- `patterns::is_sign` meets its contract. Assumes nothing.
use mathlib.Core.Path.{refl}
use Rattle.definitions.specs.Patterns.{is_sign}
use Rattle.patterns.proofs.is_sign.Goals as goal

pub returns : goal.returns
unfolding is_sign
returns c = refl
