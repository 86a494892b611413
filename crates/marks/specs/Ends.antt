-- What comes out of a pattern after some bytes: the least that was entered where a part begins that ends with them and is in the language (W9.3).
use Rattle.std.specs.Prelude.{◌≡◌, Bool, ◌⊎◌, length, get_or, leb}
use Rattle.std.proofs.Math.Path.{refl, sym, ap, subst}
use Rattle.std.proofs.Common.{◌∙◌, le_trans, not-suc-le-zero, arith, leb-true, leb-false}
use Rattle.std.proofs.Math.Bool.{true, false, cond}
use mathlib.Core.List.{List, [], ◌∷◌, ◌++◌, append-nil, append_assoc}
use Rattle.std.proofs.Math.Logic.{inl, inr}
use Prim.Native.Nat.{ℕ, zero, suc, ◌≤◌, ◌<◌, min}
use Rattle.std.proofs.Math.Nat.{min-le_left, min-le_right}
use Rattle.std.proofs.Math.ListN.{length-append}
use Rattle.std.proofs.Math.Dec.{T}
use Rattle.definitions.specs.WordSet.{Named}
use Rattle.definitions.specs.Patterns.{Pattern, one_byte, empty_row, in_row, either_of, any_number, fits}
use Rattle.theorems.specs.Each.{Each, each_append}
use Rattle.theorems.specs.PatternLanguage.{joined, InLanguage}
use Rattle.marks.specs.Sweeping.{never, slots, out_of, swept, no_marks, marks_from, marks_after}
use Rattle.marks.specs.Idle.{idle}
use Rattle.marks.specs.After.{out_from, out_after, out-at, out-after-row, out-after-either, before, before-is, before-only, out-after-any}

-- the bytes end in a part that is in the language and begins where at most t is entered
unfoldable pub Ends : (ℕ → ℕ) → Pattern → List ℕ → ℕ → Type 0
Ends enter p s t = (y : List ℕ) × (z : List ℕ) × (s ≡ y ++ z) × (enter (length y) ≤ t) × InLanguage p z

-- ---- the least of two

least-of : (a b t : ℕ) → min a b ≤ t → (a ≤ t) ⊎ (b ≤ t)
least-of a b t h = go (leb a b) refl
  where
    go : (u : Bool) → leb a b ≡ u → (a ≤ t) ⊎ (b ≤ t)
    go true e = inl (omega (arith, leb-true a b e))
    go false e = inr (omega (arith, leb-false a b e))

-- ---- one byte

module _ (mismatch : Bool) (x : Named) (t : ℕ) where
  -- the mark is there from the first, or it is of the last byte
  one-sound : (enter : ℕ → ℕ) (ms s : List ℕ) → t < never → get_or (marks_from enter (one_byte mismatch x) ms s) 0 never ≤ t
      → ((get_or ms 0 never ≤ t) × (s ≡ [])) ⊎ Ends enter (one_byte mismatch x) s t
  unfolding marks_from swept Ends InLanguage
  one-sound enter ms [] l h = inl (h, refl)
  one-sound enter ms (b ∷ s) l h = go (one-sound (λ j. enter (suc j)) (cond (fits mismatch x b) (enter 0) never ∷ []) s l h)
    where
      first : (u : Bool) → fits mismatch x b ≡ u → cond u (enter 0) never ≤ t → s ≡ [] → Ends enter (one_byte mismatch x) (b ∷ s) t
      first true f k e = ([], b ∷ s, refl, k, (b, ap (λ z. b ∷ z) e, subst T (sym f) tt))
      first false f k e = absurd (omega (arith, l, k))

      go : ((cond (fits mismatch x b) (enter 0) never ≤ t) × (s ≡ [])) ⊎ Ends (λ j. enter (suc j)) (one_byte mismatch x) s t
          → ((get_or ms 0 never ≤ t) × (b ∷ s ≡ [])) ⊎ Ends enter (one_byte mismatch x) (b ∷ s) t
      go (inl k) = inr (first (fits mismatch x b) refl k.0 k.1)
      go (inr k) = inr (b ∷ k.0, k.1, ap (λ z. b ∷ z) k.2, k.3, k.4)

  one-complete : (enter : ℕ → ℕ) (ms y : List ℕ) (b : ℕ) → T (fits mismatch x b) → enter (length y) ≤ t
      → get_or (marks_from enter (one_byte mismatch x) ms (y ++ (b ∷ []))) 0 never ≤ t
  unfolding marks_from swept
  one-complete enter ms [] b f h = go (fits mismatch x b) f
    where
      go : (u : Bool) → T u → cond u (enter 0) never ≤ t
      go true k = h
      go false k = absurd k
  one-complete enter ms (c ∷ y) b f h = one-complete (λ j. enter (suc j)) (cond (fits mismatch x c) (enter 0) never ∷ []) y b f h

-- ---- any number

joined-append : (xs ys : List (List ℕ)) → joined (xs ++ ys) ≡ joined xs ++ joined ys
unfolding joined
joined-append [] ys = refl
joined-append (x ∷ xs) ys = ap (λ z. x ++ z) (joined-append xs ys) ∙ sym (append_assoc x (joined xs) (joined ys))

-- one more
any-more : (p : Pattern) (x y : List ℕ) → InLanguage (any_number p) x → InLanguage p y → InLanguage (any_number p) (x ++ y)
unfolding InLanguage joined
any-more p x y (parts, e, h) k = (parts ++ (y ∷ []), is, each_append (InLanguage p) parts (y ∷ []) h (k, tt))
  where
    is : x ++ y ≡ joined (parts ++ (y ∷ []))
    is = ap (λ z. z ++ y) e ∙ sym (joined-append parts (y ∷ []) ∙ ap (λ z. joined parts ++ z) (append-nil y))

abbrev Sound : Pattern → Type 0
Sound p = (enter : ℕ → ℕ) (s : List ℕ) (t : ℕ) → t < never → out_after enter p s ≤ t → Ends enter p s t

abbrev Complete : Pattern → Type 0
Complete p = (enter : ℕ → ℕ) (s : List ℕ) (t : ℕ) → Ends enter p s t → out_after enter p s ≤ t

module _ (enter : ℕ → ℕ) (p : Pattern) (t : ℕ) where
  -- what goes into the item at each place before the end
  entered : List ℕ → ℕ → ℕ
  entered s = before (length s) (out_from enter (any_number p) (idle (any_number p)) s)

  entered_at : (s y z : List ℕ) → s ≡ y ++ z → length y < length s → entered s (length y) ≡ out_after enter (any_number p) y
  unfolding entered
  entered_at s y z e l =
      before-is (length s) (out_from enter (any_number p) (idle (any_number p)) s) (length y) l ∙ out-at enter (any_number p) s y z e

  any-sound : Sound p → t < never → (n : ℕ) (s : List ℕ) → length s < n → out_after enter (any_number p) s ≤ t → Ends enter (any_number p) s t
  unfolding Ends entered InLanguage joined
  any-sound sound l zero s le h = absurd (not-suc-le-zero le)
  any-sound sound l (suc n) s le h =
      elim (least-of (enter (length s)) (out_after (entered s) p s) t (subst (λ v. v ≤ t) (out-after-any enter p s) h)) [
        | inl k ↦ (s, [], sym (append-nil s), k, ([], refl, tt))
        | inr k ↦ last (sound (entered s) s t l k) (any-sound sound l n)
      ]
    where
      more : (y z : List ℕ) → s ≡ y ++ z → InLanguage p z → Ends enter (any_number p) y t → Ends enter (any_number p) s t
      more y z e k (x, w, f, g, m) = (x, w ++ z, e ∙ ap (λ v. v ++ z) f ∙ append_assoc x w z, g, any-more p w z m k)

      last : Ends (entered s) p s t → ((y : List ℕ) → length y < n → out_after enter (any_number p) y ≤ t → Ends enter (any_number p) y t)
          → Ends enter (any_number p) s t
      last (y, z, e, g, k) rest =
          let below : length y < length s =
          before-only (length s) (out_from enter (any_number p) (idle (any_number p)) s) (length y) t l g in
          more y z e k (rest y (omega (arith, below, le)) (subst (λ v. v ≤ t) (entered_at s y z e below) g))

  -- one more, of a byte at least
  goes_on : Complete p → (y z : List ℕ) → length y < length (y ++ z) → InLanguage p z → out_after enter (any_number p) y ≤ t
      → out_after enter (any_number p) (y ++ z) ≤ t
  unfolding Ends entered
  goes_on complete y z l k h =
      subst (λ v. v ≤ t) (sym (out-after-any enter p (y ++ z)))
      (le_trans (min-le_right (enter (length (y ++ z))) (out_after (entered (y ++ z)) p (y ++ z)))
      (complete (entered (y ++ z)) (y ++ z) t (y, z, refl, subst (λ v. v ≤ t) (sym (entered_at (y ++ z) y z refl l)) h, k)))

  any-goes : Complete p → (y : List ℕ) (parts : List (List ℕ)) → Each (InLanguage p) parts → out_after enter (any_number p) y ≤ t
      → out_after enter (any_number p) (y ++ joined parts) ≤ t
  unfolding joined
  any-goes complete y [] h k = subst (λ s. out_after enter (any_number p) s ≤ t) (sym (append-nil y)) k
  any-goes complete y ([] ∷ parts) h k = any-goes complete y parts h.1 k
  any-goes complete y ((b ∷ x) ∷ parts) h k =
      subst (λ s. out_after enter (any_number p) s ≤ t) (append_assoc y (b ∷ x) (joined parts))
      (any-goes complete (y ++ (b ∷ x)) parts h.1 (goes_on complete y (b ∷ x) (omega (arith, length-append y (b ∷ x))) h.0 k))

  any-complete : Complete p → (s : List ℕ) → Ends enter (any_number p) s t → out_after enter (any_number p) s ≤ t
  unfolding Ends InLanguage out_of
  any-complete complete s (y, z, e, h, (parts, f, k)) =
      subst (λ v. out_after enter (any_number p) v ≤ t) (sym (e ∙ ap (λ v. y ++ v) f))
      (any-goes complete y parts k (le_trans (min-le_left (enter (length y)) (get_or (marks_after enter (any_number p) y) 0 never)) h))

-- ---- every pattern

pub out-sound : (enter : ℕ → ℕ) (p : Pattern) (s : List ℕ) (t : ℕ) → t < never
    → out_of (enter (length s)) p (marks_after enter p s) ≤ t → Ends enter p s t
unfolding Ends InLanguage out_of marks_after slots no_marks
out-sound enter (one_byte mismatch x) s t l h = go (one-sound mismatch x t enter (never ∷ []) s l h)
  where
    go : ((never ≤ t) × (s ≡ [])) ⊎ Ends enter (one_byte mismatch x) s t → Ends enter (one_byte mismatch x) s t
    go (inl k) = absurd (omega (arith, l, k.0))
    go (inr k) = k
out-sound enter empty_row s t l h = (s, [], sym (append-nil s), h, refl)
out-sound enter (in_row p q) s t l h =
    second (out-sound (out_from enter p (idle p) s) q s t l (subst (λ v. v ≤ t) (out-after-row enter p q s) h)) (λ y k. out-sound enter p y t l k)
  where
    first : (y z : List ℕ) → s ≡ y ++ z → InLanguage q z → Ends enter p y t → Ends enter (in_row p q) s t
    first y z e k (x, w, f, g, m) = (x, w ++ z, e ∙ ap (λ v. v ++ z) f ∙ append_assoc x w z, g, (w, z, refl, m, k))

    second : Ends (out_from enter p (idle p) s) q s t → ((y : List ℕ) → out_after enter p y ≤ t → Ends enter p y t) → Ends enter (in_row p q) s t
    second (y, z, e, g, k) sound = first y z e k (sound y (subst (λ v. v ≤ t) (out-at enter p s y z e) g))
out-sound enter (either_of p q) s t l h =
    elim (least-of (out_after enter p s) (out_after enter q s) t (subst (λ v. v ≤ t) (out-after-either enter p q s) h)) [
      | inl k ↦ left (out-sound enter p s t l k)
      | inr k ↦ right (out-sound enter q s t l k)
    ]
  where
    left : Ends enter p s t → Ends enter (either_of p q) s t
    left (y, z, e, g, k) = (y, z, e, g, inl k)

    right : Ends enter q s t → Ends enter (either_of p q) s t
    right (y, z, e, g, k) = (y, z, e, g, inr k)
out-sound enter (any_number p) s t l h = any-sound enter p t (λ f x u. out-sound f p x u) l (suc (length s)) s (omega arith) h

pub out-complete : (enter : ℕ → ℕ) (p : Pattern) (s : List ℕ) (t : ℕ) → Ends enter p s t → out_of (enter (length s)) p (marks_after enter p s) ≤ t
unfolding Ends InLanguage out_of marks_after slots no_marks
out-complete enter (one_byte mismatch x) s t (y, z, e, g, (b, f, k)) =
    subst (λ v. get_or (marks_from enter (one_byte mismatch x) (never ∷ []) v) 0 never ≤ t) (sym (e ∙ ap (λ v. y ++ v) f))
    (one-complete mismatch x t enter (never ∷ []) y b k g)
out-complete enter empty_row s t (y, z, e, g, k) = subst (λ v. enter (length v) ≤ t) (sym (e ∙ ap (λ v. y ++ v) k ∙ append-nil y)) g
out-complete enter (in_row p q) s t (y, z, e, g, (x, w, f, k, m)) =
    subst (λ v. v ≤ t) (sym (out-after-row enter p q s))
    (out-complete (out_from enter p (idle p) s) q s t
    (y ++ x, w, cut, subst (λ v. v ≤ t) (sym (out-at enter p s (y ++ x) w cut)) (out-complete enter p (y ++ x) t (y, x, refl, g, k)), m))
  where
    cut : s ≡ (y ++ x) ++ w
    cut = e ∙ ap (λ v. y ++ v) f ∙ sym (append_assoc y x w)
out-complete enter (either_of p q) s t (y, z, e, g, inl k) =
    subst (λ v. v ≤ t) (sym (out-after-either enter p q s))
    (le_trans (min-le_left (out_after enter p s) (out_after enter q s)) (out-complete enter p s t (y, z, e, g, k)))
out-complete enter (either_of p q) s t (y, z, e, g, inr k) =
    subst (λ v. v ≤ t) (sym (out-after-either enter p q s))
    (le_trans (min-le_right (out_after enter p s) (out_after enter q s)) (out-complete enter q s t (y, z, e, g, k)))
out-complete enter (any_number p) s t h = any-complete enter p t (λ f x u. out-complete f p x u) s h
