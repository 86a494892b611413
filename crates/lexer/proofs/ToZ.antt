-- Lines up to a line Z, over bytes. Assumes nothing.
use mathlib.Core.Path.{◌≡◌, refl, sym, ap, ◌∙◌}
use mathlib.Core.Bool.{Bool, true, false, ◌||◌, false≢true}
use mathlib.Core.Logic.{◌⊎◌, inl, inr}
use mathlib.Core.List.{List, [], ◌∷◌, ◌++◌, append_assoc, append-nil}
use Prim.Native.Nat.{ℕ, suc, ◌+◌}
use native.Mathlib.Omega.{arith}
use lib.ListN.{length, drop, length-append}
use lib.Dec.{eqb}
use borrow.Author.Tests.{ne_eqb}
use Rattle.definitions.specs.Bytes.{Line, before, lines_of}
use Rattle.definitions.specs.Reader.{string_up_to}
use Rattle.definitions.specs.Commands.{is_z, UpToZ, up_to_z, no_z, add_line, lines_up_to_z}

-- ---- the first line of bytes

-- the byte b, which ends the line or not, and what is on the line after it
abbrev begun : Bool → ℕ → List ℕ → List ℕ
begun t b u = elim (t || t) [ true ↦ [] | false ↦ b ∷ u ]

-- with the byte that ends it, whatever follows
then-step : (b x : ℕ) (bs ds ys : List ℕ) (t : Bool) → eqb b 10 ≡ t
    → (drop (length (string_up_to 10 bs)) bs ≡ x ∷ ds → lines_of (string_up_to 10 bs ++ x ∷ ys) ≡ string_up_to 10 bs ∷ lines_of ys)
    → drop (length (begun t b (string_up_to 10 bs))) (b ∷ bs) ≡ x ∷ ds
    → lines_of (begun t b (string_up_to 10 bs) ++ x ∷ ys) ≡ begun t b (string_up_to 10 bs) ∷ lines_of ys
unfolding lines_of before
then-step b x bs ds ys true e ih h =
    let same : b ≡ x = cc in
    rw (← same, e, lines_of)
then-step b x bs ds ys false e ih h = rw (e, lines_of, ih h)

pub line-then : (x : ℕ) (bs ds ys : List ℕ) → drop (length (string_up_to 10 bs)) bs ≡ x ∷ ds → lines_of (string_up_to 10 bs ++ x ∷ ys) ≡ string_up_to 10 bs ∷ lines_of ys
unfolding string_up_to
line-then x [] ds ys h = let z : ◌≡◌ {A = ℕ} 0 1 = cc in absurd (omega arith)
line-then x (b ∷ bs) ds ys h = then-step b x bs ds ys (eqb b 10) refl (λ k. line-then x bs ds ys k) h

-- the first of the lines
head_step : (b : ℕ) (bs : List ℕ) (t : Bool) (u : List ℕ) → ((rest : List Line) × (before b (lines_of bs) ≡ (b ∷ u) ∷ rest))
    → (rest : List Line) × (elim t [ true ↦ [] ∷ lines_of bs | false ↦ before b (lines_of bs) ] ≡ begun t b u ∷ rest)
head_step b bs true u h = (lines_of bs, refl)
head_step b bs false u h = h

pub line-head : (b : ℕ) (bs : List ℕ) → (rest : List Line) × (lines_of (b ∷ bs) ≡ string_up_to 10 (b ∷ bs) ∷ rest)
unfolding lines_of before string_up_to
line-head b [] = head_step b [] (eqb b 10) [] ([], refl)
line-head b (c ∷ bs) =
    head_step b (c ∷ bs) (eqb b 10) (string_up_to 10 (c ∷ bs)) (more (lines_of (c ∷ bs)) (string_up_to 10 (c ∷ bs)) (line-head c bs))
  where
    more : (ls : List Line) (u : List ℕ) → ((rest : List Line) × (ls ≡ u ∷ rest)) → (rest : List Line) × (before b ls ≡ (b ∷ u) ∷ rest)
    more ls u (rest, e) = (rest, rw e)

-- the last of the lines
last_step : (b : ℕ) (bs : List ℕ) (t : Bool) → (drop (length (string_up_to 10 bs)) bs ≡ [] → before b (lines_of bs) ≡ (b ∷ string_up_to 10 bs) ∷ [])
    → drop (length (begun t b (string_up_to 10 bs))) (b ∷ bs) ≡ []
    → elim t [ true ↦ [] ∷ lines_of bs | false ↦ before b (lines_of bs) ] ≡ begun t b (string_up_to 10 bs) ∷ []
last_step b bs true ih h = let z : ◌≡◌ {A = ℕ} 0 1 = cc in absurd (omega arith)
last_step b bs false ih h = ih h

pub line-last : (b : ℕ) (bs : List ℕ) → drop (length (string_up_to 10 (b ∷ bs))) (b ∷ bs) ≡ [] → lines_of (b ∷ bs) ≡ string_up_to 10 (b ∷ bs) ∷ []
unfolding lines_of before string_up_to
line-last b [] h = last_step b [] (eqb b 10) (λ k. refl) h
line-last b (c ∷ bs) h = last_step b (c ∷ bs) (eqb b 10) (λ k. rw (line-last c bs k)) h

pub line-none : {b : ℕ} {bs ls : List ℕ} {X : Type 0} → ls ≡ [] → ls ≡ b ∷ bs → X
line-none e f = let z : ◌≡◌ {A = ℕ} 0 1 = cc in absurd (omega arith)

-- ---- the line Z

pub not-z : (l : Line) → (length l ≡ 1 → ⊥) → is_z l ≡ false
unfolding is_z
not-z [] h = refl
not-z (b ∷ []) h = absurd (h refl)
not-z (b ∷ c ∷ l) h = refl

pub z-length : (l : Line) → is_z l ≡ true → length l ≡ 1
unfolding is_z
z-length [] h = absurd (false≢true h)
z-length (b ∷ []) h = refl
z-length (b ∷ c ∷ l) h = absurd (false≢true h)

module _ (b : ℕ) where
  pub z-is : (b ≡ 90) ⊎ (b ≡ 122) → is_z (b ∷ []) ≡ true
  unfolding is_z
  z-is (inl e) = rw e
  z-is (inr e) = rw e

  pub z-other : ((b ≡ 90) ⊎ (b ≡ 122) → ⊥) → is_z (b ∷ []) ≡ false
  unfolding is_z
  z-other none = rw (ne_eqb b 90 (λ e. none (inl e)), ne_eqb b 122 (λ e. none (inr e)))

-- ---- whole lines, none of them Z, before other bytes

unfoldable pub add_all : List Line → ℕ → UpToZ → UpToZ
add_all ls n (up_to_z ms k) = up_to_z (ls ++ ms) (n + k)
add_all ls n no_z = no_z

pub record NoZIn (xs : List ℕ) : Type 0 where
  pub whole : (ys : List ℕ) → lines_of (xs ++ ys) ≡ lines_of xs ++ lines_of ys
  pub passed : (ms : List Line) → lines_up_to_z (lines_of xs ++ ms) ≡ add_all (lines_of xs) (length xs) (lines_up_to_z ms)

add_none : (x : UpToZ) → x ≡ add_all [] 0 x
unfolding add_all
add_none (up_to_z ms k) = ap (up_to_z ms) (omega arith)
add_none no_z = refl

pub no-z-begins : NoZIn []
unfolding lines_of
no-z-begins = record { whole = λ ys. refl; passed = λ ms. add_none (lines_up_to_z ms) }

-- one more line comes to the same as all of them
add-more : (ls : List Line) (l : Line) (n m : ℕ) (x : UpToZ) → m ≡ n + suc (length l) → add_all ls n (add_line l x) ≡ add_all (ls ++ (l ∷ [])) m x
unfolding add_all add_line
add-more ls l n m (up_to_z ms k) e = rw (append_assoc ls (l ∷ []) ms) (ap (up_to_z (ls ++ l ∷ ms)) (omega arith))
add-more ls l n m no_z e = refl

up_more : (l : Line) (ms : List Line) → is_z l ≡ false → lines_up_to_z (l ∷ ms) ≡ add_line l (lines_up_to_z ms)
unfolding lines_up_to_z
up_more l ms e = rw (e, lines_up_to_z)

-- one line alone, not Z
pub up-last : (l : Line) → is_z l ≡ false → lines_up_to_z (l ∷ []) ≡ no_z
unfolding lines_up_to_z add_line
up-last l e = rw (e, lines_up_to_z)

pub up-empty : lines_up_to_z [] ≡ no_z
unfolding lines_up_to_z
up-empty = refl

module _ (xs : List ℕ) (l : Line) (x : ℕ) (no-z : NoZIn xs) (line : (ys : List ℕ) → lines_of (l ++ x ∷ ys) ≡ l ∷ lines_of ys) (other : is_z l ≡ false) where
  lines_more : lines_of (xs ++ (l ++ (x ∷ []))) ≡ lines_of xs ++ (l ∷ [])
  unfolding lines_of
  lines_more = no-z.whole (l ++ (x ∷ [])) ∙ ap (λ (ls : List Line). lines_of xs ++ ls) (line [])

  whole-more : (ys : List ℕ) → lines_of ((xs ++ (l ++ (x ∷ []))) ++ ys) ≡ lines_of (xs ++ (l ++ (x ∷ []))) ++ lines_of ys
  whole-more ys =
      ap lines_of (append_assoc xs (l ++ (x ∷ [])) ys)
      ∙ ap (λ (zs : List ℕ). lines_of (xs ++ zs)) (append_assoc l (x ∷ []) ys)
      ∙ no-z.whole (l ++ x ∷ ys)
      ∙ ap (λ (ls : List Line). lines_of xs ++ ls) (line ys)
      ∙ sym (append_assoc (lines_of xs) (l ∷ []) (lines_of ys))
      ∙ ap (λ (ls : List Line). ls ++ lines_of ys) (sym lines_more)

  passed-more : (ms : List Line) → lines_up_to_z (lines_of (xs ++ (l ++ (x ∷ []))) ++ ms)
      ≡ add_all (lines_of (xs ++ (l ++ (x ∷ [])))) (length (xs ++ (l ++ (x ∷ [])))) (lines_up_to_z ms)
  passed-more ms =
      ap (λ (ls : List Line). lines_up_to_z (ls ++ ms)) lines_more
      ∙ ap lines_up_to_z (append_assoc (lines_of xs) (l ∷ []) ms)
      ∙ no-z.passed (l ∷ ms)
      ∙ ap (add_all (lines_of xs) (length xs)) (up_more l ms other)
      ∙ add-more (lines_of xs) l (length xs) (length (xs ++ (l ++ (x ∷ [])))) (lines_up_to_z ms) (simp length-append (omega arith))
      ∙ ap (λ (ls : List Line). add_all ls (length (xs ++ (l ++ (x ∷ [])))) (lines_up_to_z ms)) (sym lines_more)

  pub no-z-more : NoZIn (xs ++ (l ++ (x ∷ [])))
  no-z-more = record { whole = whole-more; passed = passed-more }

module _ (xs bs : List ℕ) (no-z : NoZIn xs) where
  pub z-found : (l : Line) (rest : List Line) → lines_of bs ≡ l ∷ rest → is_z l ≡ true → lines_up_to_z (lines_of (xs ++ bs)) ≡ up_to_z (lines_of xs) (length xs + 1)
  unfolding lines_up_to_z add_all
  z-found l rest e z = rw (no-z.whole bs, no-z.passed (lines_of bs), e, z, lines_up_to_z, add_all) (ap (λ (ls : List Line). up_to_z ls (length xs + 1)) (append-nil (lines_of xs)))

  pub z-missing : lines_up_to_z (lines_of bs) ≡ no_z → lines_up_to_z (lines_of (xs ++ bs)) ≡ no_z
  unfolding add_all
  z-missing e = rw (no-z.whole bs, no-z.passed (lines_of bs), e)
