-- A pattern without marks: what comes out of it is what goes through it, and a byte sets a mark in it exactly if it begins the pattern.
use Rattle.std.specs.Prelude.{◌≡◌, refl, Bool, true, false, cond, ◌&&◌, ◌||◌, List, [], ◌∷◌, ◌++◌, ℕ, zero, suc, ◌+◌, ◌≤◌, ◌<◌, min, length, take, drop, get_or}
use Rattle.std.proofs.Common.{sym, ap₂, ◌∙◌, zero-add, suc-add, arith, take_at, drop_at}
use Rattle.std.proofs.Math.Path.{ap}
use Rattle.std.proofs.lemmas.Bool.{false≢true}
use Rattle.std.proofs.Math.Nat.{min-eq_left}
use Rattle.definitions.specs.Patterns.{Pattern, one_byte, empty_row, in_row, either_of, any_number, fits}
use Rattle.marks.specs.Sweeping.{never, slots, out_of, with_end, swept, no_marks, takes_none, begins}
use Rattle.marks.specs.Fronts.{swept-length, out-row, out-either, swept-row, swept-either}

-- ---- no marks

pub none-length : (n : ℕ) → length (no_marks n) ≡ n
unfolding no_marks
none-length zero = refl
none-length (suc n) = ap suc (none-length n)

pub none-append : (m n : ℕ) → no_marks (m + n) ≡ no_marks m ++ no_marks n
unfolding no_marks
none-append zero n = ap no_marks (zero-add n)
none-append (suc m) n = ap no_marks (suc-add m n) ∙ ap (λ ms. never ∷ ms) (none-append m n)

-- the marks of p, none set
abbrev pub idle : Pattern → List ℕ
idle p = no_marks (slots p)

idle-length : (p : Pattern) → length (idle p) ≡ slots p
idle-length p = none-length (slots p)

-- ---- what comes out

module _ (e : ℕ) (p q : Pattern) where
  out-idle-row : out_of e (in_row p q) (idle (in_row p q)) ≡ out_of (out_of e p (idle p)) q (idle q)
  unfolding slots
  out-idle-row = ap (out_of e (in_row p q)) (none-append (slots p) (slots q)) ∙ out-row p q (idle p) (idle q) (idle-length p) e

  out-idle-either : out_of e (either_of p q) (idle (either_of p q)) ≡ min (out_of e p (idle p)) (out_of e q (idle q))
  unfolding slots
  out-idle-either = ap (out_of e (either_of p q)) (none-append (slots p) (slots q)) ∙ out-either p q (idle p) (idle q) (idle-length p) e

-- what goes through: e, or nothing
through : Bool → ℕ → ℕ
through t e = cond t e never

through-bound : (t : Bool) (e : ℕ) → e ≤ never → through t e ≤ never
unfolding through never
through-bound true e h = h
through-bound false e h = omega arith

out-through : (p : Pattern) (e : ℕ) → e ≤ never → out_of e p (idle p) ≡ through (takes_none p) e
unfolding never slots no_marks out_of takes_none through
out-through (one_byte mismatch x) e h = refl
out-through empty_row e h = refl
out-through (in_row p q) e h =
    out-idle-row e p q ∙ ap (λ v. out_of v q (idle q)) (out-through p e h)
    ∙ out-through q (through (takes_none p) e) (through-bound (takes_none p) e h) ∙ both (takes_none p) (takes_none q)
  where
    both : (t u : Bool) → through u (through t e) ≡ through (t && u) e
    both true true = refl
    both true false = refl
    both false true = refl
    both false false = refl
out-through (either_of p q) e h = out-idle-either e p q ∙ ap₂ min (out-through p e h) (out-through q e h) ∙ either (takes_none p) (takes_none q)
  where
    either : (t u : Bool) → min (through t e) (through u e) ≡ through (t || u) e
    either true true = omega arith
    either true false = omega arith
    either false true = omega arith
    either false false = refl
out-through (any_number p) e h = min-eq_left h

pub out_none : (p : Pattern) (e : ℕ) → e < never → out_of e p (idle p) ≡ cond (takes_none p) e never
unfolding through
out_none p e h = out-through p e (omega arith)

still_never : (t : Bool) → cond t never never ≡ never
still_never true = refl
still_never false = refl

never-out : (p : Pattern) → out_of never p (idle p) ≡ never
unfolding through
never-out p = out-through p never (omega arith) ∙ still_never (takes_none p)

pub idle-out : (e : ℕ) (p : Pattern) → takes_none p ≡ false → out_of e p (idle p) ≡ never
unfolding takes_none never slots no_marks out_of
idle-out e (one_byte mismatch x) h = refl
idle-out e empty_row h = absurd (false≢true (sym h))
idle-out e (in_row p q) h = out-idle-row e p q ∙ go (takes_none p) refl h (idle-out e p) (idle-out (out_of e p (idle p)) q)
  where
    go : (t : Bool) → takes_none p ≡ t → (t && takes_none q) ≡ false → (takes_none p ≡ false → out_of e p (idle p) ≡ never)
        → (takes_none q ≡ false → out_of (out_of e p (idle p)) q (idle q) ≡ never) → out_of (out_of e p (idle p)) q (idle q) ≡ never
    go true i k f g = g k
    go false i k f g = ap (λ v. out_of v q (idle q)) (f i) ∙ never-out q
idle-out e (either_of p q) h = out-idle-either e p q ∙ go (takes_none p) refl h (idle-out e p) (idle-out e q)
  where
    go : (t : Bool) → takes_none p ≡ t → (t || takes_none q) ≡ false → (takes_none p ≡ false → out_of e p (idle p) ≡ never)
        → (takes_none q ≡ false → out_of e q (idle q) ≡ never) → min (out_of e p (idle p)) (out_of e q (idle q)) ≡ never
    go true i k f g = absurd (false≢true (sym k))
    go false i k f g = ap₂ min (f i) (g k)
idle-out e (any_number p) h = absurd (false≢true (sym h))

-- ---- a byte

module _ (b e : ℕ) (p q : Pattern) where
  swept-idle-row : swept b e (in_row p q) (idle (in_row p q)) ≡ swept b e p (idle p) ++ swept b (out_of e p (idle p)) q (idle q)
  unfolding slots
  swept-idle-row = ap (swept b e (in_row p q)) (none-append (slots p) (slots q)) ∙ swept-row p q (idle p) (idle q) (idle-length p) b e

  swept-idle-either : swept b e (either_of p q) (idle (either_of p q)) ≡ swept b e p (idle p) ++ swept b e q (idle q)
  unfolding slots
  swept-idle-either = ap (swept b e (either_of p q)) (none-append (slots p) (slots q)) ∙ swept-either p q (idle p) (idle q) (idle-length p) b e

-- both parts stay without marks
joins : (p q : Pattern) {ms ns : List ℕ} → ms ≡ idle p → ns ≡ idle q → ms ++ ns ≡ no_marks (slots p + slots q)
joins p q f g = ap₂ ◌++◌ f g ∙ sym (none-append (slots p) (slots q))

-- the marks of `#` over an item without marks
pub ends-idle : (p : Pattern) {ms : List ℕ} → ms ≡ idle p → with_end p ms ≡ idle (any_number p)
unfolding slots no_marks with_end
ends-idle p h = ap (with_end p) h ∙ ap (λ v. v ∷ idle p) (never-out p)

never-stays : (b : ℕ) (p : Pattern) → swept b never p (idle p) ≡ idle p
unfolding swept slots never no_marks
never-stays b (one_byte mismatch x) = ap (λ v. v ∷ []) (still_never (fits mismatch x b))
never-stays b empty_row = refl
never-stays b (in_row p q) =
    swept-idle-row b never p q ∙ joins p q (never-stays b p) (ap (λ v. swept b v q (idle q)) (never-out p) ∙ never-stays b q)
never-stays b (either_of p q) = swept-idle-either b never p q ∙ joins p q (never-stays b p) (never-stays b q)
never-stays b (any_number p) = ends-idle p (never-stays b p)

pub idle-stays : (b e : ℕ) (p : Pattern) → begins p b ≡ false → swept b e p (idle p) ≡ idle p
unfolding begins swept slots no_marks
idle-stays b e (one_byte mismatch x) h = ap (λ t. cond t e never ∷ []) h
idle-stays b e empty_row h = refl
idle-stays b e (in_row p q) h =
    swept-idle-row b e p q ∙ go (begins p b) refl (takes_none p) refl h (idle-stays b e p) (idle-stays b (out_of e p (idle p)) q)
  where
    go : (t : Bool) → begins p b ≡ t → (u : Bool) → takes_none p ≡ u → (t || (u && begins q b)) ≡ false
        → (begins p b ≡ false → swept b e p (idle p) ≡ idle p)
        → (begins q b ≡ false → swept b (out_of e p (idle p)) q (idle q) ≡ idle q)
        → swept b e p (idle p) ++ swept b (out_of e p (idle p)) q (idle q) ≡ no_marks (slots p + slots q)
    go true i u j k f g = absurd (false≢true (sym k))
    go false i true j k f g = joins p q (f i) (g k)
    go false i false j k f g = joins p q (f i) (ap (λ v. swept b v q (idle q)) (idle-out e p j) ∙ never-stays b q)
idle-stays b e (either_of p q) h = swept-idle-either b e p q ∙ go (begins p b) refl h (idle-stays b e p) (idle-stays b e q)
  where
    go : (t : Bool) → begins p b ≡ t → (t || begins q b) ≡ false → (begins p b ≡ false → swept b e p (idle p) ≡ idle p)
        → (begins q b ≡ false → swept b e q (idle q) ≡ idle q) → swept b e p (idle p) ++ swept b e q (idle q) ≡ no_marks (slots p + slots q)
    go true i k f g = absurd (false≢true (sym k))
    go false i k f g = joins p q (f i) (g k)
idle-stays b e (any_number p) h = ends-idle p (idle-stays b (min e never) p h)

-- neither part has a mark if both together have none
module _ (b e f : ℕ) (p q : Pattern) (h : swept b e p (idle p) ++ swept b f q (idle q) ≡ no_marks (slots p + slots q)) where
  left-idle : swept b e p (idle p) ≡ idle p
  left-idle =
      sym (take_at (swept b e p (idle p)) (swept b f q (idle q)) (slots p) (swept-length b e p (idle p)))
      ∙ ap (take (slots p)) (h ∙ none-append (slots p) (slots q)) ∙ take_at (idle p) (idle q) (slots p) (idle-length p)

  right-idle : swept b f q (idle q) ≡ idle q
  right-idle =
      sym (drop_at (swept b e p (idle p)) (swept b f q (idle q)) (slots p) (swept-length b e p (idle p)))
      ∙ ap (drop (slots p)) (h ∙ none-append (slots p) (slots q)) ∙ drop_at (idle p) (idle q) (slots p) (idle-length p)

pub idle-moves : (b e : ℕ) (p : Pattern) → e < never → begins p b ≡ true → swept b e p (idle p) ≡ idle p → ⊥
unfolding begins swept slots no_marks with_end
idle-moves b e (one_byte mismatch x) l h k =
    let is : e ≡ never = ap (λ t. cond t e never) (sym h) ∙ ap (λ ms. get_or ms 0 0) k in
    omega (arith, is)
idle-moves b e empty_row l h k = false≢true h
idle-moves b e (in_row p q) l h k =
    go (begins p b) refl (takes_none p) refl h (idle-moves b e p l) (idle-moves b e q l) (sym (swept-idle-row b e p q) ∙ k)
  where
    go : (t : Bool) → begins p b ≡ t → (u : Bool) → takes_none p ≡ u → (t || (u && begins q b)) ≡ true
        → (begins p b ≡ true → swept b e p (idle p) ≡ idle p → ⊥) → (begins q b ≡ true → swept b e q (idle q) ≡ idle q → ⊥)
        → swept b e p (idle p) ++ swept b (out_of e p (idle p)) q (idle q) ≡ no_marks (slots p + slots q) → ⊥
    go true i u j m f g s = f i (left-idle b e (out_of e p (idle p)) p q s)
    go false i true j m f g s =
        let same : out_of e p (idle p) ≡ e = out_none p e l ∙ ap (λ t. cond t e never) j in
        g m (ap (λ v. swept b v q (idle q)) (sym same) ∙ right-idle b e (out_of e p (idle p)) p q s)
    go false i false j m f g s = false≢true m
idle-moves b e (either_of p q) l h k =
    go (begins p b) refl h (idle-moves b e p l) (idle-moves b e q l) (sym (swept-idle-either b e p q) ∙ k)
  where
    go : (t : Bool) → begins p b ≡ t → (t || begins q b) ≡ true → (begins p b ≡ true → swept b e p (idle p) ≡ idle p → ⊥)
        → (begins q b ≡ true → swept b e q (idle q) ≡ idle q → ⊥) → swept b e p (idle p) ++ swept b e q (idle q) ≡ no_marks (slots p + slots q) → ⊥
    go true i m f g s = f i (left-idle b e e p q s)
    go false i m f g s = g m (right-idle b e e p q s)
idle-moves b e (any_number p) l h k =
    let same : min e never ≡ e = omega arith in
    idle-moves b e p l h (ap (λ v. swept b v p (idle p)) (sym same) ∙ ap (drop 1) k)
