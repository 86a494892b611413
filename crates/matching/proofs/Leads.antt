-- Laws of the number of what a pattern's matches can begin with, and of what its qualifiers ask for. Assumes nothing.
use mathlib.Core.Path.{◌≡◌, refl, ap₂}
use mathlib.Core.Bool.{Bool, true, false, not}
use Prim.Native.Nat.{ℕ, zero, suc, ◌+◌, ◌/◌, ◌%◌, ◌≤◌}
use native.Mathlib.Omega.{arith}
use lib.Dec.{eqb, ltb}
use borrow.Author.Tests.{lt-ltb, ne_eqb}
use Rattle.definitions.specs.Patterns.{Pattern}
use Rattle.leads.specs.Leading.{may_begin, first_lead, last_lead, leads_of}
use Rattle.leads.specs.declared.Leads.{Leads}
use Rattle.taking.specs.Ways.{anchor_by}
use Rattle.matching.specs.Quals.{anchor_of, lead_number}

-- ---- the number

first-most : (p : Pattern) (b n : ℕ) → first_lead p b n ≤ b + n
unfolding first_lead
first-most p b zero = omega arith
first-most p b (suc n) = go (may_begin p b) (first-most p (suc b) n)
  where
    go : (t : Bool) → first_lead p (suc b) n ≤ suc b + n → elim t [ true ↦ b | false ↦ first_lead p (suc b) n ] ≤ b + suc n
    go true h = omega arith
    go false h = omega (arith, h)

last-most : (p : Pattern) (n : ℕ) → last_lead p n ≤ n
unfolding last_lead
last-most p zero = omega arith
last-most p (suc n) = go (may_begin p n) (last-most p n)
  where
    go : (t : Bool) → last_lead p n ≤ n → elim t [ true ↦ n | false ↦ last_lead p n ] ≤ suc n
    go true h = omega arith
    go false h = omega (arith, h)

pub number_small : (p : Pattern) → lead_number (leads_of p) ≤ 65535
unfolding lead_number leads_of
number_small p = omega (arith, first-most p 32 96, last-most p 128)

pub leads-back : (p : Pattern) (n : ℕ) → n ≡ lead_number (leads_of p) → ◌≡◌ {A = Leads} (record { low = n % 256; high = n / 256 }) (leads_of p)
unfolding lead_number leads_of
leads-back p n e =
    let low : n % 256 ≡ first_lead p 32 96 = omega (arith, e, first-most p 32 96) in
    let high : n / 256 ≡ last_lead p 128 = omega (arith, e, first-most p 32 96) in
    ap₂ (λ (a b : ℕ). record { low = a; high = b }) low high

-- ---- B, E and P

pub way_end : (n : ℕ) → n ≡ 2 → anchor_by false true ≡ anchor_of n
unfolding anchor_by anchor_of
way_end n e = rw e

pub way-other : (n : ℕ) → (n ≡ 2 → ⊥) → anchor_by (not (eqb n 0)) (ltb 2 n) ≡ anchor_of n
unfolding anchor_by anchor_of
way-other zero h = refl
way-other (suc zero) h = refl
way-other (suc (suc zero)) h = absurd (h refl)
way-other (suc (suc (suc n))) h = rw (ne_eqb (suc (suc (suc n))) 0 (λ e. omega (arith, e)), lt-ltb 2 (suc (suc (suc n))) (omega arith))
