-- The byte of two that are both needed, or of which one is. Assumes nothing.
use Rattle.std.specs.Prelude.{Option, Some, None}
use Rattle.std.specs.Option.{option_or}
use mathlib.Core.Path.{◌≡◌, refl, sym, ap, ◌∙◌}
use mathlib.Core.Bool.{Bool, true, false}
use Prim.Native.Nat.{ℕ}
use lib.Dec.{eqb}
use borrow.Author.Tests.{eqb-true, eqb-false, eq-eqb, ne_eqb}
use Rattle.needs.specs.Needing.{equal_byte, later_byte, same_byte}

-- ---- both are needed

pub later_first : (b : Option ℕ) → later_byte None b ≡ b
unfolding later_byte
later_first None = refl
later_first (Some b) = refl

pub later-later : (a b c : Option ℕ) → later_byte (later_byte a b) c ≡ later_byte a (later_byte b c)
unfolding later_byte
later-later a b None = refl
later-later a b (Some c) = refl

pub or-later : (a b : Option ℕ) → option_or b a ≡ later_byte a b
unfolding later_byte
or-later a None = refl
or-later a (Some b) = refl

-- ---- one is needed

pub equal-is : (a b : ℕ) → a ≡ b → Some a ≡ equal_byte a b
unfolding equal_byte
equal-is a b e = rw (eq-eqb a b e)

pub equal_none : (a b : ℕ) → (a ≡ b → ⊥) → None ≡ equal_byte a b
unfolding equal_byte
equal_none a b h = rw (ne_eqb a b h)

-- where one is not known the two are not
pub none-second : (a : Option ℕ) → same_byte a None ≡ None
unfolding same_byte
none-second None = refl
none-second (Some a) = refl

pub first-none : (a b : Option ℕ) → a ≡ None → None ≡ same_byte a b
unfolding same_byte
first-none a b e = rw e

pub second-none : (a b : Option ℕ) → b ≡ None → None ≡ same_byte a b
second-none a b e = sym (ap (same_byte a) e ∙ none-second a)

pub both-known : (a b : Option ℕ) (m n : ℕ) → a ≡ Some m → b ≡ Some n → equal_byte m n ≡ same_byte a b
unfolding same_byte
both-known a b m n e f = rw (e, f)

pub same-same : (a b c : Option ℕ) → same_byte (same_byte a b) c ≡ same_byte a (same_byte b c)
unfolding same_byte
same-same None b c = refl
same-same (Some a) None c = refl
same-same (Some a) (Some b) None = none-second (equal_byte a b)
same-same (Some a) (Some b) (Some c) = go (eqb a b) refl (eqb b c) refl
  where
    go : (t : Bool) → eqb a b ≡ t → (u : Bool) → eqb b c ≡ u → same_byte (equal_byte a b) (Some c) ≡ same_byte (Some a) (equal_byte b c)
    go true e true f =
        let first = eqb-true a b e in
        let second = eqb-true b c f in
        ap (λ (n : Option ℕ). same_byte n (Some c)) (sym (equal-is a b first)) ∙ ap (equal_byte a) (sym second) ∙ ap (same_byte (Some a)) (equal-is b c second)
    go true e false f =
        let first = eqb-true a b e in
        let other = eqb-false b c f in
        ap (λ (n : Option ℕ). same_byte n (Some c)) (sym (equal-is a b first)) ∙ ap (λ (n : ℕ). equal_byte n c) first ∙ sym (equal_none b c other)
        ∙ ap (same_byte (Some a)) (equal_none b c other)
    go false e true f =
        let other = eqb-false a b e in
        ap (λ (n : Option ℕ). same_byte n (Some c)) (sym (equal_none a b other)) ∙ equal_none a b other ∙ ap (same_byte (Some a)) (equal-is b c (eqb-true b c f))
    go false e false f =
        ap (λ (n : Option ℕ). same_byte n (Some c)) (sym (equal_none a b (eqb-false a b e))) ∙ ap (same_byte (Some a)) (equal_none b c (eqb-false b c f))
