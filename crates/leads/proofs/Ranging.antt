-- The first and the last byte that a match can begin with, as the loops find them. Assumes nothing.
use mathlib.Core.Path.{◌≡◌, ap, ap₂, ◌∙◌}
use mathlib.Core.Bool.{Bool, true, false}
use Prim.Native.Nat.{ℕ, zero, suc, ◌+◌, ◌-◌, ◌<◌}
use native.Mathlib.Omega.{arith}
use Rattle.definitions.specs.Patterns.{Pattern}
use Rattle.leads.specs.Leading.{may_begin, first_lead, last_lead, leads_of}

-- the first from b on, before `end`: t says whether it is b
module _ (p : Pattern) (b end : ℕ) where
  pub first_step : b < end → (t : Bool) → may_begin p b ≡ t
      → first_lead p b (end - b) ≡ elim t [ true ↦ b | false ↦ first_lead p (b + 1) (end - (b + 1)) ]
  unfolding first_lead
  first_step h t e =
      let more : end - b ≡ suc (end - (b + 1)) = omega arith in
      let next : suc b ≡ b + 1 = omega arith in
      ap (first_lead p b) more
      ∙ ap₂ (λ (u : Bool) (a : ℕ). elim u [ true ↦ b | false ↦ first_lead p a (end - (b + 1)) ]) e next

  pub first-none : b ≡ end → first_lead p b (end - b) ≡ end
  unfolding first_lead
  first-none h = let none : end - b ≡ zero = omega arith in ap (first_lead p b) none ∙ h

-- the last of the first n: t says whether it is the last of these
pub last_step : (p : Pattern) (n : ℕ) → 0 < n → (t : Bool) → may_begin p (n - 1) ≡ t
    → last_lead p n ≡ elim t [ true ↦ n - 1 | false ↦ last_lead p (n - 1) ]
unfolding last_lead
last_step p n h t e =
    let more : n ≡ suc (n - 1) = omega arith in
    ap (last_lead p) more ∙ ap (λ (u : Bool). elim u [ true ↦ n - 1 | false ↦ last_lead p (n - 1) ]) e

pub last_none : (p : Pattern) (n : ℕ) → n ≡ 0 → last_lead p n ≡ 0
unfolding last_lead
last_none p n h = ap (last_lead p) h

pub both_ends : (p : Pattern) (a b : ℕ) → a ≡ first_lead p 32 96 → b ≡ last_lead p 128 → record { low = a; high = b } ≡ leads_of p
unfolding leads_of
both_ends p a b e f = ap₂ (λ (x y : ℕ). record { low = x; high = y }) e f
