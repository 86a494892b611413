-- The values of a string without qualifiers. Assumes nothing.
use mathlib.Core.Path.{◌≡◌, refl}
use Rattle.definitions.specs.Strings.{no_qualifiers}
use Rattle.matching.specs.Quals.{anchor_of, columns_of, plain, qualifiers_of}

pub plain-none : qualifiers_of plain ≡ no_qualifiers
unfolding qualifiers_of no_qualifiers anchor_of columns_of
plain-none = refl
