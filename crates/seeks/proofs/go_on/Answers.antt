use mathlib.Core.Path.{refl}
use Rattle.seeks.proofs.Finding.{reserve-in, none-goes}
use Rattle.seeks.proofs.go_on.Goals as goal

pub none_stands-requires : goal.none_stands-requires
none_stands-requires c = reserve-in _ _ c.requires.0

pub returns-then-none_stands : goal.returns-then-none_stands
returns-then-none_stands c =
    let g = c.go_ahead.ensures in
    record { keeps = g.keeps; long = g.long; does = none-goes _ _ _ _ _ _ refl refl _ c.none_stands.ensures c.if-none_stands.true g.does }
