-- Runs of bytes of one kind.
use Rattle.std.specs.Prelude.{Bool, true, false, not, ◌||◌, List, [], ◌∷◌, ℕ, zero, suc, eqb}
use Rattle.definitions.specs.Bytes.{upper}
use Rattle.scans.specs.declared.Kind.{Kind}
use Rattle.scans.specs.declared.Kind.TheVariants.{Only, Not, NotFolded, Either, Neither}

-- how many of the first n bytes pass the test before one that does not
unfoldable pub leading : (ℕ → Bool) → ℕ → List ℕ → ℕ
leading test zero bs = 0
leading test (suc n) [] = 0
leading test (suc n) (b ∷ bs) = elim (test b) [ true ↦ suc (leading test n bs) | false ↦ 0 ]

-- the byte b is of the kind
unfoldable pub is_of : Kind → ℕ → Bool
is_of (Only a) b = eqb b a
is_of (Not a) b = not (eqb b a)
is_of (NotFolded a) b = not (eqb (upper b) a)
is_of (Either a c) b = eqb b a || eqb b c
is_of (Neither a c) b = not (eqb b a || eqb b c)
