-- How many globals stand, counted word by word; the first word alone says whether any does. Assumes nothing.
use mathlib.Core.Path.{◌≡◌, refl, sym, ap, ◌∙◌}
use mathlib.Core.Bool.{Bool, true, false, cond}
use mathlib.Core.List.{List}
use Prim.Native.Nat.{ℕ, zero, suc, ◌+◌, ◌-◌, ◌≤◌, ◌<◌}
use native.Mathlib.Nat.{add-zero}
use native.Mathlib.Omega.{arith}
use lib.ListN.{length, get_or, set}
use lib.Dec.{eqb, ltb}
use borrow.Author.Tests.{eq-eqb, ne_eqb, eqb-true, eqb-false, lt-ltb, le-ltb}
use Rattle.items.specs.Reserve.{reserve}
use Rattle.globals.specs.Standing.{most, count_from, standing, kept_at, Keeps}

module _ (w : List ℕ) where
  at_none : (i m : ℕ) → get_or w i 0 ≡ 0 → count_from w i m ≡ 0
  unfolding count_from
  at_none i zero e = refl
  at_none i (suc m) e = rw (eq-eqb (get_or w i 0) 0 e, count_from)

  at_one : (i m : ℕ) → (get_or w i 0 ≡ 0 → ⊥) → count_from w i (suc m) ≡ suc (count_from w (suc i) m)
  unfolding count_from
  at_one i m e = rw (ne_eqb (get_or w i 0) 0 e, count_from)

  -- n of them are counted
  pub record Counted (n : ℕ) : Type 0 where
    pub few : n ≤ most
    pub whole : standing w ≡ n + count_from w (length w - reserve + n) (most - n)

  pub counted_none : Counted 0
  counted_none = record { few = omega arith; whole = ap (λ (i : ℕ). count_from w i most) (sym (add-zero (length w - reserve))) ∙ omega arith }

  module _ (n : ℕ) (c : Counted n) where
    pub counted-end : get_or w (length w - reserve + n) 0 ≡ 0 → n ≡ standing w
    counted-end e = omega (arith, c.whole, at_none (length w - reserve + n) (most - n) e)

    pub counted-all : most ≤ n → n ≡ standing w
    unfolding count_from
    counted-all h =
        let z : most - n ≡ 0 = omega (arith, h) in
        omega (arith, c.whole, ap (count_from w (length w - reserve + n)) z)

    pub counted-one : n < most → (get_or w (length w - reserve + n) 0 ≡ 0 → ⊥) → Counted (n + 1)
    counted-one h e =
        let m : most - n ≡ suc (most - (n + 1)) = omega (arith, h) in
        let i : suc (length w - reserve + n) ≡ length w - reserve + (n + 1) = omega arith in
        let x : count_from w (length w - reserve + n) (most - n) ≡ suc (count_from w (length w - reserve + (n + 1)) (most - (n + 1))) =
        ap (count_from w (length w - reserve + n)) m ∙ at_one (length w - reserve + n) (most - (n + 1)) e ∙ ap (λ (i : ℕ). suc (count_from w i (most - (n + 1)))) i in
        record { few = omega (arith, h); whole = omega (arith, c.whole, x) }

  -- the first word tells
  pub first-tells : eqb (get_or w (length w - reserve) 0) 0 ≡ eqb (standing w) 0
  first-tells = go (eqb (get_or w (length w - reserve) 0) 0) refl
    where
      go : (t : Bool) → eqb (get_or w (length w - reserve) 0) 0 ≡ t → t ≡ eqb (standing w) 0
      go true e = sym (eq-eqb (standing w) 0 (at_none (length w - reserve) most (eqb-true _ _ e)))
      go false e =
          let x = at_one (length w - reserve) 15 (eqb-false _ _ e) in
          sym (ne_eqb (standing w) 0 (λ z. omega (arith, z, x)))

  -- ---- one more is kept, or not

  module _ (k n : ℕ) (is : n ≡ standing w) where
    pub kept-none : n ≡ 16 → Keeps w k w false
    kept-none e = record { does = sym (le-ltb (standing w) most (omega (arith, e, is))); words = refl }

    module _ (few : n ≤ 16) (not-all : n ≡ 16 → ⊥) where
      some_more : ltb (standing w) most ≡ true
      some_more = lt-ltb (standing w) most (omega (arith, is, few, not-all))

      pub kept-ended : n + 1 < 16 → Keeps w k (set (set w (length w - reserve + n) (k + 1)) (length w - reserve + n + 1) 0) true
      unfolding kept_at
      kept-ended h = record {
        does = sym some_more;
        words = ap (λ (t : Bool). cond t (set (set w (length w - reserve + n) (k + 1)) (length w - reserve + n + 1) 0) (set w (length w - reserve + n) (k + 1))) (sym (lt-ltb (n + 1) most h))
            ∙ ap (λ (n : ℕ). kept_at w n k) is;
      }

      pub kept-sixteenth : 16 ≤ n + 1 → Keeps w k (set w (length w - reserve + n) (k + 1)) true
      unfolding kept_at
      kept-sixteenth h = record {
        does = sym some_more;
        words = ap (λ (t : Bool). cond t (set (set w (length w - reserve + n) (k + 1)) (length w - reserve + n + 1) 0) (set w (length w - reserve + n) (k + 1))) (sym (le-ltb (n + 1) most h))
            ∙ ap (λ (n : ℕ). kept_at w n k) is;
      }
