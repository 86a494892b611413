-- Laws of needs, for callers: bytes that lack a pattern's byte have no match of it. Assumes nothing.
use Rattle.std.specs.Prelude.{◌≡◌, refl, Bool, true, false, cond, not, ◌&&◌, List, [], ◌∷◌, ◌++◌, ◌⊎◌, ℕ, T, eqb, leb, Option, Some, None, ⊤}
use Rattle.std.proofs.Common.{sym, ap, ◌∙◌, subst, true≢false, inl, inr, arith, eqb-true, eq-eqb, leb-true}
use Rattle.std.proofs.Math.Bool.{and-false, and-eq-true_iff}
use Rattle.definitions.specs.WordSet.{Named, byte, quoted_byte, range, is_named}
use Rattle.definitions.specs.Patterns.{Pattern, one_byte, empty_row, in_row, either_of, any_number, fits}
use Rattle.theorems.specs.PatternLanguage.{InLanguage}
use Rattle.needs.specs.Needing.{equal_byte, only_byte, later_byte, same_byte, need_of, is_without, lacks}

-- ---- a byte is among bytes

pub without-append : (b : ℕ) (x y : List ℕ) → is_without b (x ++ y) ≡ (is_without b x && is_without b y)
unfolding is_without
without-append b [] y = refl
without-append b (a ∷ x) y = go (not (eqb a b)) (without-append b x y)
  where
    go : (t : Bool) → is_without b (x ++ y) ≡ (is_without b x && is_without b y) → (t && is_without b (x ++ y)) ≡ ((t && is_without b x) && is_without b y)
    go true h = h
    go false h = refl

had-left : (b : ℕ) (x y : List ℕ) → is_without b x ≡ false → is_without b (x ++ y) ≡ false
had-left b x y h = without-append b x y ∙ ap (λ (t : Bool). t && is_without b y) h

had-right : (b : ℕ) (x y : List ℕ) → is_without b y ≡ false → is_without b (x ++ y) ≡ false
had-right b x y h = without-append b x y ∙ ap (λ (t : Bool). is_without b x && t) h ∙ and-false (is_without b x)

true_of : (t : Bool) → T t → t ≡ true
true_of true h = refl
true_of false h = absurd h

had-one : (a b : ℕ) → a ≡ b → is_without a (b ∷ []) ≡ false
unfolding is_without
had-one a b e = rw (eq-eqb b a (sym e))

-- ---- each match has the byte

named-one : (a b : ℕ) → T (eqb a b) → a ≡ b
named-one a b h = eqb-true a b (true_of (eqb a b) h)

-- the byte, where one is known, is among the bytes
unfoldable pub Had : Option ℕ → List ℕ → Type 0
Had None s = ⊤
Had (Some b) s = is_without b s ≡ false

only-had : (x : Named) (b : ℕ) → T (is_named x b) → Had (only_byte x) (b ∷ [])
unfolding Had is_named only_byte equal_byte
only-had (byte a) b h = had-one a b (named-one a b h)
only-had (quoted_byte a) b h = had-one a b (named-one a b h)
only-had (range a c) b h = go (eqb a c) refl
  where
    go : (t : Bool) → eqb a c ≡ t → Had (cond t (Some a) None) (b ∷ [])
    go true e =
        let both = (and-eq-true_iff (leb a b) (leb b c)).0 (true_of (leb a b && leb b c) h) in
        had-one a b (omega (arith, eqb-true a c e, leb-true a b both.0, leb-true b c both.1))
    go false e = tt

-- one of two that are needed, by which it is
row_had : (m n : Option ℕ) (x y : List ℕ) → Had m x → Had n y → Had (later_byte m n) (x ++ y)
unfolding Had later_byte
row_had None None x y first second = tt
row_had (Some m) None x y first second = had-left m x y first
row_had m (Some n) x y first second = had-right n x y second

-- the two are one byte
either-had : (m n : Option ℕ) (s : List ℕ) → Had m s ⊎ Had n s → Had (same_byte m n) s
unfolding Had same_byte equal_byte
either-had None n s one = tt
either-had (Some m) None s one = tt
either-had (Some m) (Some n) s one = go (eqb m n) refl one
  where
    go : (t : Bool) → eqb m n ≡ t → (is_without m s ≡ false) ⊎ (is_without n s ≡ false) → Had (cond t (Some m) None) s
    go false e one = tt
    go true e (inl h) = h
    go true e (inr h) = subst (λ (b : ℕ). is_without b s ≡ false) (sym (eqb-true m n e)) h

-- the byte that a pattern needs is in each match of it
pub need-had : (p : Pattern) (s : List ℕ) → InLanguage p s → Had (need_of p) s
unfolding Had InLanguage need_of fits
need-had (one_byte true x) s h = tt
need-had (one_byte false x) s h = rw h.1 (only-had x h.0 h.2)
need-had empty_row s h = tt
need-had (in_row p q) s h = rw h.2 (row_had (need_of p) (need_of q) h.0 h.1 (need-had p h.0 h.3) (need-had q h.1 h.4))
need-had (either_of p q) s h = either-had (need_of p) (need_of q) s (elim h [ inl a ↦ inl (need-had p s a) | inr a ↦ inr (need-had q s a) ])
need-had (any_number p) s h = tt

-- bytes that lack it have no match
pub lacks-none : (p : Pattern) (x y z : List ℕ) → lacks (need_of p) (x ++ (y ++ z)) ≡ true → InLanguage p y → ⊥
unfolding lacks Had
lacks-none p x y z h m = go (need_of p) h (need-had p y m)
  where
    go : (n : Option ℕ) → lacks n (x ++ (y ++ z)) ≡ true → Had n y → ⊥
    go None e had = true≢false (sym e)
    go (Some n) e had = true≢false (sym e ∙ had-right n x (y ++ z) (had-left n y z had))
