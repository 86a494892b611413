-- One step of each definition that has fuel, where some is left. Assumes nothing.
use mathlib.Core.Path.{◌≡◌, refl}
use mathlib.Core.Bool.{true, false}
use Prim.Native.Nat.{ℕ, zero, suc, ◌-◌, ◌≤◌, ◌<◌}
use native.Mathlib.Numerals.{sub-one}
use native.Mathlib.Omega.{arith}
use Rattle.definitions.specs.Reader.{Cursor, Got, got, refused, and_then, after_byte, is_next}
use Rattle.definitions.specs.Patterns.{Pattern, empty_row, in_row, either_of, any_number, cannot_stand, read_single, ends_row, close_bracket, read_alternatives, read_row, read_item, read_part}

-- what holds with one more of the fuel holds with enough of it
pub fuelled : {need : ℕ} (P : ℕ → Type 0) → 0 < need → ((n : ℕ) → need ≤ suc n → P (suc n)) → (n : ℕ) → need ≤ n → P n
fuelled P pos f zero h = let z : ⊥ = omega arith in absurd z
fuelled P pos f (suc n) h = f n h

-- as the definitions write it
then_is : (f : Pattern → Cursor → Got Pattern) (x : Got Pattern) → elim x [ got q c ↦ f q c | refused n at ↦ refused n at ] ≡ and_then x f
unfolding and_then
then_is f (got q c) = refl
then_is f (refused n at) = refl

-- ---- a part

pub part-inner : (n deep : ℕ) (c : Cursor) → is_next 40 c ≡ true → (deep ≡ 0 → ⊥)
    → read_part (suc n) deep c ≡ and_then (read_alternatives n (deep - 1) (after_byte c)) close_bracket
unfolding read_part
part-inner n zero c e some_left = absurd (some_left refl)
part-inner n (suc deep) c e some_left = rw (e, read_part, sub-one) (then_is close_bracket (read_alternatives n deep (after_byte c)))

module _ (n deep : ℕ) (c : Cursor) where
  pub part-single : is_next 40 c ≡ false → read_part (suc n) deep c ≡ read_single c
  unfolding read_part
  part-single e = rw (e, read_part)

  pub part-too-deep : is_next 40 c ≡ true → deep ≡ 0 → read_part (suc n) deep c ≡ cannot_stand c
  unfolding read_part
  part-too-deep e d = rw (e, d, read_part)

  -- ---- an item

  pub item-part : is_next 35 c ≡ false → read_item (suc n) deep c ≡ read_part n deep c
  unfolding read_item
  item-part e = rw (e, read_item)

  pub item-number : is_next 35 c ≡ true → read_item (suc n) deep c ≡ and_then (read_part n deep (after_byte c)) (λ p c₁. got (any_number p) c₁)
  unfolding read_item
  item-number e = rw (e, read_item) (then_is (λ p c₁. got (any_number p) c₁) (read_part n deep (after_byte c)))

  -- ---- a row

  pub row-empty : ends_row c ≡ true → read_row (suc n) deep c ≡ got empty_row c
  unfolding read_row
  row-empty e = rw (e, read_row)

  module _ (goes_on : ends_row c ≡ false) where
    pub row-item : (p : Pattern) (c₁ : Cursor) → read_item n deep c ≡ got p c₁
        → read_row (suc n) deep c ≡ and_then (read_row n deep c₁) (λ q c₂. got (in_row p q) c₂)
    unfolding read_row
    row-item p c₁ e = rw (goes_on, e, read_row) (then_is (λ q c₂. got (in_row p q) c₂) (read_row n deep c₁))

    pub row-refused : (k at : ℕ) → read_item n deep c ≡ refused k at → read_row (suc n) deep c ≡ refused k at
    unfolding read_row
    row-refused k at e = rw (goes_on, e, read_row)

  -- ---- alternatives

  pub alternatives-refused : (k at : ℕ) → read_row n deep c ≡ refused k at → read_alternatives (suc n) deep c ≡ refused k at
  unfolding read_alternatives
  alternatives-refused k at e = rw (e, read_alternatives)

  module _ (p : Pattern) (c₁ : Cursor) (first : read_row n deep c ≡ got p c₁) where
    pub alternatives-last : is_next 124 c₁ ≡ false → read_alternatives (suc n) deep c ≡ got p c₁
    unfolding read_alternatives
    alternatives-last e = rw (first, e, read_alternatives)

    pub alternatives-more : is_next 124 c₁ ≡ true
        → read_alternatives (suc n) deep c ≡ and_then (read_alternatives n deep (after_byte c₁)) (λ q c₂. got (either_of p q) c₂)
    unfolding read_alternatives
    alternatives-more e = rw (first, e, read_alternatives) (then_is (λ q c₂. got (either_of p q) c₂) (read_alternatives n deep (after_byte c₁)))
