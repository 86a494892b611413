-- Places where the first byte differs may be passed: no occurrence is lost. Assumes nothing.
use mathlib.Core.Path.{◌≡◌, refl, sym, ap, ◌∙◌, subst}
use mathlib.Core.Bool.{Bool, true, false, not}
use mathlib.Core.List.{List, [], ◌∷◌}
use Prim.Native.Nat.{ℕ, zero, suc, ◌+◌, ◌-◌, ◌≤◌}
use native.Mathlib.Nat.{suc-sub-suc, sub-zero, add-zero, add-suc, suc-add}
use native.Mathlib.Numerals.{add-one}
use native.Mathlib.Omega.{arith}
use lib.ListN.{drop}
use lib.Seq.{drop-drop}
use lib.Dec.{eqb}
use borrow.Author.Tests.{eqb-false, ne_eqb}
use Rattle.definitions.specs.Matching.{folded, stands_first, stands_at, occurrence}
use Rattle.scans.specs.Leading.{leading}
use Rattle.scans.proofs.Runs.{leading-here, leading-later, leading-most}
use Rattle.matching.specs.Scan.{is_other, other_places}
use Rattle.matching.proofs.Counts.{not-here, from}

rest : (x : ℕ) (d l : List ℕ) (i : ℕ) → drop i l ≡ x ∷ d → drop (suc i) l ≡ d
rest x d l i e = rw (← add-one i) (sym (drop-drop 1 i l) ∙ ap (drop 1) e)

abbrev stand : (ℕ → Bool) → Bool → Bool → List ℕ → List ℕ → ℕ → ℕ → Bool
stand isWord w u s l start j = stands_at isWord w u s l (start + j)

module _ (isWord : ℕ → Bool) (w u : Bool) (b : ℕ) (s l : List ℕ) (start width k : ℕ) where
  differs : (j x : ℕ) (d : List ℕ) → drop (start + j) l ≡ x ∷ d → (folded u x ≡ folded u b → ⊥) → stand isWord w u (b ∷ s) l start j ≡ false
  unfolding stands_at stands_first
  differs j x d e ne = rw (e, ne_eqb (folded u b) (folded u x) (λ h. ne (sym h)))

  -- n more places, m of them passed
  Passes : ℕ → ℕ → ℕ → Type 0
  Passes n j m =
      occurrence (stand isWord w u (b ∷ s) l start) width k 0 (suc n) j ≡ occurrence (stand isWord w u (b ∷ s) l start) width k 0 (suc (n - m)) (j + m)

  none_passed : (n j m : ℕ) → m ≡ 0 → Passes n j m
  unfolding Passes
  none_passed n j m e = rw (e, sub-zero, add-zero)

  one-passed : (n j m m' : ℕ) → m' ≡ suc m → stand isWord w u (b ∷ s) l start j ≡ false → Passes n (suc j) m → Passes (suc n) j m'
  unfolding Passes
  one-passed n j m m' c e h =
      rw (c, suc-sub-suc, add-suc, ← suc-add) (not-here (stand isWord w u (b ∷ s) l start) width k (suc n) j e ∙ h)

  passes : (n j : ℕ) → Passes n j (leading (is_other u b) n (drop (start + j) l))
  unfolding leading is_other
  passes zero j = none_passed zero j 0 refl
  passes (suc n) j = go (drop (start + j) l) refl (passes n (suc j))
    where
      go : (d : List ℕ) → drop (start + j) l ≡ d → Passes n (suc j) (leading (is_other u b) n (drop (start + suc j) l)) → Passes (suc n) j (leading (is_other u b) (suc n) d)
      go [] e h = none_passed (suc n) j 0 refl
      go (x ∷ d) e h = by (eqb (folded u x) (folded u b)) refl
        where
          by : (t : Bool) → eqb (folded u x) (folded u b) ≡ t → Passes (suc n) j (leading (is_other u b) (suc n) (x ∷ d))
          by true y = none_passed (suc n) j _ (leading-here (is_other u b) (suc n) x d (ap not y))
          by false y =
              let ne = eqb-false _ _ y in
              let same : drop (start + suc j) l ≡ d = ap (λ (i : ℕ). drop i l) (add-suc start j) ∙ rest x d l (start + j) e in
              one-passed n j (leading (is_other u b) n d) _ (leading-later (is_other u b) n x d (ap not y)) (differs j x d e ne)
              (subst (λ (d : List ℕ). Passes n (suc j) (leading (is_other u b) n d)) same h)

moved : (isWord : ℕ → Bool) (w u : Bool) (b : ℕ) (s l : List ℕ) (start width k n j m n' j' : ℕ) → Passes isWord w u b s l start width (k - 1) n j m → n - m ≡ n' → j + m ≡ j'
    → from (λ j. start + j) (stands_at isWord w u (b ∷ s) l) width k n j ≡ from (λ j. start + j) (stands_at isWord w u (b ∷ s) l) width k n' j'
unfolding Passes
moved isWord w u b s l start width k n j m n' j' h c d = rw (h, c, d)

-- the search goes on at the next place r whose first byte is the string's
module _ (isWord : ℕ → Bool) (w u : Bool) (s l : List ℕ) (start top i r width k : ℕ) (lo : start ≤ i) (hi : i ≤ top) (is : r ≡ i + other_places u s (top - i) (drop i l)) where
  pub goes_on : from (λ j. start + j) (stands_at isWord w u s l) width k (top - i) (i - start) ≡ from (λ j. start + j) (stands_at isWord w u s l) width k (top - r) (r - start)
  unfolding other_places
  goes_on = go s is
    where
      go : (s : List ℕ) → r ≡ i + other_places u s (top - i) (drop i l)
          → from (λ j. start + j) (stands_at isWord w u s l) width k (top - i) (i - start) ≡ from (λ j. start + j) (stands_at isWord w u s l) width k (top - r) (r - start)
      go [] e =
          let same : r ≡ i = omega (arith, e) in
          rw same
      go (b ∷ s) e =
          let back : start + (i - start) ≡ i = omega arith in
          moved isWord w u b s l start width k (top - i) (i - start) (leading (is_other u b) (top - i) (drop i l)) (top - r) (r - start)
          (subst (λ (d : ℕ). Passes isWord w u b s l start width (k - 1) (top - i) (i - start) (leading (is_other u b) (top - i) (drop d l))) back
          (passes isWord w u b s l start width (k - 1) (top - i) (i - start)))
          (omega (arith, e)) (omega (arith, e))

  pub stays : (i ≤ r) × (r ≤ top)
  unfolding other_places
  stays = go s is
    where
      go : (s : List ℕ) → r ≡ i + other_places u s (top - i) (drop i l) → (i ≤ r) × (r ≤ top)
      go [] e = omega (arith, e)
      go (b ∷ s) e = omega (arith, e, leading-most (is_other u b) (top - i) (drop i l))
