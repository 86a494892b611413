-- The language of a pattern in words (document 02, wish 9; W9.3), and that the computed one is it.
use Rattle.std.specs.Prelude.{◌≡◌, refl, Bool, true, false, ◌||◌, List, [], ◌∷◌, ◌++◌, ◌⊎◌, ℕ, zero, suc, ◌≤◌, length, T}
use Rattle.std.proofs.Common.{sym, ap, ◌∙◌, subst, inl, inr, not-suc-le-zero, arith, length-append}
use Rattle.std.proofs.Math.Facts.{or_yes}
use Rattle.definitions.specs.WordSet.{Named}
use Rattle.definitions.specs.Patterns.{Pattern, one_byte, empty_row, in_row, either_of, any_number, fits, is_one, is_none, some_cut, in_parts, is_in}
use Rattle.theorems.specs.Each.{Each, each_to}

-- the parts one after another
unfoldable pub joined : List (List ℕ) → List ℕ
joined [] = []
joined (x ∷ xs) = x ++ joined xs

-- the bytes are in the pattern's language: one byte that fits; no byte; a part in the one and after it a part in the other; in the one or the
-- other; any number of parts, each in the one
unfoldable pub InLanguage : Pattern → List ℕ → Type 0
InLanguage (one_byte mismatch x) s = (b : ℕ) × (s ≡ b ∷ []) × T (fits mismatch x b)
InLanguage empty_row s = s ≡ []
InLanguage (in_row p q) s = (x : List ℕ) × (y : List ℕ) × (s ≡ x ++ y) × InLanguage p x × InLanguage q y
InLanguage (either_of p q) s = InLanguage p s ⊎ InLanguage q s
InLanguage (any_number p) s = (parts : List (List ℕ)) × (s ≡ joined parts) × Each (InLanguage p) parts

-- ---- Booleans

pub or_left : (a b : Bool) → T a → T (a || b)
or_left true b h = tt
or_left false b h = absurd h

pub or_right : (a b : Bool) → T b → T (a || b)
or_right true b h = tt
or_right false b h = h

-- ---- cuts in two

unfoldable pub CutOf : (List ℕ → Bool) → (List ℕ → Bool) → List ℕ → Type 0
CutOf here after s = (x : List ℕ) × (y : List ℕ) × (s ≡ x ++ y) × T (here x) × T (after y)

pub cut-sound : (here after : List ℕ → Bool) (s : List ℕ) → T (some_cut here after s) → CutOf here after s
unfolding some_cut CutOf
cut-sound here after [] h = go (here []) refl h
  where
    go : (t : Bool) → here [] ≡ t → T (elim t [ true ↦ after [] | false ↦ false ]) → CutOf here after []
    go true e k = ([], [], refl, rw e tt, k)
    go false e k = absurd k
cut-sound here after (b ∷ s) h = go (here []) refl (after (b ∷ s)) refl (cut-sound (λ x. here (b ∷ x)) after s) h
  where
    more : CutOf (λ x. here (b ∷ x)) after s → CutOf here after (b ∷ s)
    more c = (b ∷ c.0, c.1, ap (λ z. b ∷ z) c.2, c.3, c.4)

    go : (t : Bool) → here [] ≡ t → (u : Bool) → after (b ∷ s) ≡ u → (T (some_cut (λ x. here (b ∷ x)) after s) → CutOf (λ x. here (b ∷ x)) after s)
        → T (elim t [ false ↦ some_cut (λ x. here (b ∷ x)) after s | true ↦ elim u [ true ↦ true | false ↦ some_cut (λ x. here (b ∷ x)) after s ] ])
        → CutOf here after (b ∷ s)
    go true e true d r k = ([], b ∷ s, refl, rw e tt, rw d tt)
    go true e false d r k = more (r k)
    go false e u d r k = more (r k)

pub cut-complete : (here after : List ℕ → Bool) (x y : List ℕ) → T (here x) → T (after y) → T (some_cut here after (x ++ y))
unfolding some_cut
cut-complete here after [] [] h k = go (here []) h
  where
    go : (t : Bool) → T t → T (elim t [ true ↦ after [] | false ↦ false ])
    go true u = k
    go false u = absurd u
cut-complete here after [] (b ∷ s) h k = go (here []) h (after (b ∷ s)) k
  where
    go : (t : Bool) → T t → (u : Bool) → T u
        → T (elim t [ false ↦ some_cut (λ x. here (b ∷ x)) after s | true ↦ elim u [ true ↦ true | false ↦ some_cut (λ x. here (b ∷ x)) after s ] ])
    go true i true j = tt
    go true i false j = absurd j
    go false i u j = absurd i
cut-complete here after (b ∷ x) y h k = go (here []) (after (b ∷ (x ++ y))) (cut-complete (λ z. here (b ∷ z)) after x y h k)
  where
    go : (t u : Bool) → T (some_cut (λ z. here (b ∷ z)) after (x ++ y))
        → T (elim t [ false ↦ some_cut (λ z. here (b ∷ z)) after (x ++ y) | true ↦ elim u [ true ↦ true | false ↦ some_cut (λ z. here (b ∷ z)) after (x ++ y) ] ])
    go true true r = tt
    go true false r = r
    go false u r = r

-- ---- any number of parts

unfoldable pub PartsOf : (List ℕ → Bool) → List ℕ → Type 0
PartsOf here s = (parts : List (List ℕ)) × (s ≡ joined parts) × Each (λ x. T (here x)) parts

pub parts-sound : (here : List ℕ → Bool) (most : ℕ) (s : List ℕ) → T (in_parts here most s) → PartsOf here s
unfolding in_parts PartsOf is_none joined CutOf
parts-sound here zero [] h = ([], refl, tt)
parts-sound here zero (b ∷ s) h = absurd h
parts-sound here (suc most) [] h = ([], refl, tt)
parts-sound here (suc most) (b ∷ s) h =
    let c : CutOf (λ x. here (b ∷ x)) (in_parts here most) s = cut-sound (λ x. here (b ∷ x)) (in_parts here most) s h in
    let r : PartsOf here c.1 = parts-sound here most c.1 c.4 in
    ((b ∷ c.0) ∷ r.0, ap (λ z. b ∷ z) (c.2 ∙ ap (λ z. c.0 ++ z) r.1), (c.3, r.2))

pub parts-complete : (here : List ℕ → Bool) (most : ℕ) (parts : List (List ℕ)) → Each (λ x. T (here x)) parts → length (joined parts) ≤ most
    → T (in_parts here most (joined parts))
unfolding in_parts is_none joined
parts-complete here zero [] h le = tt
parts-complete here (suc most) [] h le = tt
parts-complete here most ([] ∷ xs) h le = parts-complete here most xs h.1 le
parts-complete here zero ((b ∷ x) ∷ xs) h le = absurd (not-suc-le-zero le)
parts-complete here (suc most) ((b ∷ x) ∷ xs) h le =
    cut-complete (λ z. here (b ∷ z)) (in_parts here most) x (joined xs) h.0
    (parts-complete here most xs h.1 (omega (arith, length-append x (joined xs))))

-- ---- the language

one-sound : (mismatch : Bool) (x : Named) (s : List ℕ) → T (is_one (fits mismatch x) s) → InLanguage (one_byte mismatch x) s
unfolding is_one InLanguage
one-sound mismatch x [] h = absurd h
one-sound mismatch x (b ∷ []) h = (b, refl, h)
one-sound mismatch x (b ∷ (c ∷ s)) h = absurd h

none-sound : (s : List ℕ) → T (is_none s) → s ≡ []
unfolding is_none
none-sound [] h = refl
none-sound (b ∷ s) h = absurd h

-- what is computed to be in the language is in it
pub in-sound : (p : Pattern) (s : List ℕ) → T (is_in p s) → InLanguage p s
unfolding is_in InLanguage CutOf PartsOf
in-sound (one_byte mismatch x) s h = one-sound mismatch x s h
in-sound empty_row s h = none-sound s h
in-sound (in_row p q) s h =
    let c : CutOf (is_in p) (is_in q) s = cut-sound (is_in p) (is_in q) s h in
    (c.0, c.1, c.2, in-sound p c.0 c.3, in-sound q c.1 c.4)
in-sound (either_of p q) s h = elim (or_yes (is_in p s) (is_in q s) h) [ inl k ↦ inl (in-sound p s k) | inr k ↦ inr (in-sound q s k) ]
in-sound (any_number p) s h =
    let c : PartsOf (is_in p) s = parts-sound (is_in p) (length s) s h in
    (c.0, c.1, each_to (InLanguage p) (λ x. T (is_in p x)) (λ x k. in-sound p x k) c.0 c.2)

-- what is in the language is computed to be in it
pub in-complete : (p : Pattern) (s : List ℕ) → InLanguage p s → T (is_in p s)
unfolding is_in InLanguage is_one is_none
in-complete (one_byte mismatch x) s h = subst (λ z. T (is_one (fits mismatch x) z)) (sym h.1) h.2
in-complete empty_row s h = rw h tt
in-complete (in_row p q) s h =
    subst (λ z. T (some_cut (is_in p) (is_in q) z)) (sym h.2)
    (cut-complete (is_in p) (is_in q) h.0 h.1 (in-complete p h.0 h.3) (in-complete q h.1 h.4))
in-complete (either_of p q) s h =
    elim h [ inl k ↦ or_left (is_in p s) (is_in q s) (in-complete p s k) | inr k ↦ or_right (is_in p s) (is_in q s) (in-complete q s k) ]
in-complete (any_number p) s h =
    subst (λ z. T (in_parts (is_in p) (length z) z)) (sym h.1)
    (parts-complete (is_in p) (length (joined h.0)) h.0 (each_to (λ x. T (is_in p x)) (InLanguage p) (λ x k. in-complete p x k) h.0 h.2)
    (omega arith))
