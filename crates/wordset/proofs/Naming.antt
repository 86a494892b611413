-- The names of WORD's string, one at a time from the left. Assumes nothing.
use Rattle.std.specs.Prelude.{Result, Ok, Err}
use mathlib.Core.Path.{◌≡◌, refl, sym, ap, ◌∙◌}
use mathlib.Core.Bool.{Bool, true, false, cond, ◌&&◌, and-eq-true_iff}
use mathlib.Core.List.{List, [], ◌∷◌}
use Prim.Native.Nat.{ℕ, zero, suc, ◌+◌, ◌-◌, ◌≤◌, ◌<◌}
use native.Mathlib.Nat.{add-zero}
use native.Mathlib.Numerals.{add-one}
use native.Mathlib.Omega.{arith}
use lib.ListN.{length, take, drop, get_or}
use lib.Seq.{drop-drop}
use lib.Dec.{eqb, leb}
use borrow.Author.Tests.{leb-true, eqb-true, eqb-false, le-leb, lt-leb, ne_eqb}
use Rattle.definitions.specs.Bytes.{Line, is_text, all_text}
use Rattle.definitions.specs.WordSet.{Named, byte, quoted_byte, range, is_named, is_range, FirstName, name, misused, quoted_name, range_name, plain_name, first_name, misused_at, add_name, names_from}
use Rattle.text.proofs.Parts.{drop-take, part-cons}
use Rattle.wordset.specs.Decoding.{bytes_named, misused-here, name_of}
use Rattle.wordset.specs.declared.Name.{Name}
use Rattle.wordset.specs.declared.Misused.{Misused}

-- ---- the string from a place of the script on

abbrev pub string : List ℕ → ℕ → ℕ → List ℕ
string s to i = take (to - i) (drop i s)

module _ (s : List ℕ) (to i : ℕ) where
  pub string-none : to ≤ i → string s to i ≡ []
  string-none h = let none : to - i ≡ 0 = omega arith in rw none

  pub string-cons : i < to → to ≤ length s → string s to i ≡ get_or s i 0 ∷ string s to (suc i)
  string-cons h k = part-cons s i to h k

pub string-on : (s : List ℕ) (to i n : ℕ) → drop n (string s to i) ≡ string s to (i + n)
string-on s to i n = let less : to - i - n ≡ to - (i + n) = omega arith in drop-take n (to - i) (drop i s) ∙ rw (less, drop-drop n i s)

-- ---- its bytes are text

text-byte : (b : ℕ) (l : Line) → all_text (b ∷ l) ≡ true → (32 ≤ b) × (b ≤ 126)
unfolding all_text is_text
text-byte b l h =
    let t = ((and-eq-true_iff (leb 32 b && leb b 126) (all_text l)).0 h).0 in
    let p = (and-eq-true_iff (leb 32 b) (leb b 126)).0 t in
    (leb-true 32 b p.0, leb-true b 126 p.1)

text-tail : (b : ℕ) (l : Line) → all_text (b ∷ l) ≡ true → all_text l ≡ true
unfolding all_text
text-tail b l h = ((and-eq-true_iff (is_text b) (all_text l)).0 h).1

pub text-drop : (n : ℕ) (l : Line) → all_text l ≡ true → all_text (drop n l) ≡ true
text-drop zero l h = h
text-drop (suc n) [] h = h
text-drop (suc n) (b ∷ l) h = text-drop n l (text-tail b l h)

-- ---- a name, as the code has it

-- what bytes x to y and a length n say of the first name of a text, in which len bytes follow its first
pub record Bytes (f : FirstName) (len x y n : ℕ) : Type 0 where
  pub named : Named
  pub more : ℕ
  pub is : f ≡ name named more
  pub long : n ≡ suc more
  pub inside : more ≤ len
  pub low : 32 ≤ x
  pub below : x < 128
  pub high : y < 128
  pub same : (c : ℕ) → is_named named c ≡ (leb x c && leb c y)

-- and what an answer says of it, at place i
unfoldable pub Told : ℕ → FirstName → ℕ → Result Name Misused → Type 0
Told i f len (Ok n) = Bytes f len n.first n.last n.len
Told i f len (Err m) = (k : ℕ) × (m.at ≡ i + k) × (f ≡ misused k) × (k ≤ len)

pub one_byte_lem : (x c : ℕ) → eqb x c ≡ (leb x c && leb c x)
one_byte_lem x c = go (eqb x c) refl (leb x c) refl
  where
    go : (s : Bool) → eqb x c ≡ s → (t : Bool) → leb x c ≡ t → s ≡ (t && leb c x)
    go true e true f = let is = eqb-true x c e in sym (le-leb c x (omega arith))
    go true e false f = let is = eqb-true x c e in sym (le-leb x c (omega arith)) ∙ f
    go false e true f = let other = eqb-false x c e in let least = leb-true x c f in sym (lt-leb c x (omega arith))
    go false e false f = refl

told-byte : (i : ℕ) (x len : ℕ) → (32 ≤ x) × (x ≤ 126) → Told i (name (byte x) 0) len (name_of i (name (byte x) 0))
unfolding Told name_of is_named
told-byte i x len (low, high) = record { named = byte x; more = 0; is = refl; long = refl; inside = omega arith; low = low; below = omega arith; high = omega arith; same = one_byte_lem x }

told-quoted : (i : ℕ) (l : Line) → all_text l ≡ true → Told i (quoted_name l) (length l) (name_of i (quoted_name l))
unfolding Told name_of is_named quoted_name
told-quoted i [] h = (0, refl, refl, omega arith)
told-quoted i (b ∷ l) h = let t = text-byte b l h in
    record { named = quoted_byte b; more = 1; is = refl; long = refl; inside = omega arith; low = t.0; below = omega (arith, t.1); high = omega (arith, t.1); same = one_byte_lem b }

told-range : (i : ℕ) (x : ℕ) (l : Line) → (32 ≤ x) × (x ≤ 126) → all_text l ≡ true → Told i (range_name x l) (suc (length l)) (name_of i (range_name x l))
unfolding Told name_of is_named range_name
told-range i x [] t h = (1, refl, refl, omega arith)
told-range i x (y ∷ l) t h = go (is_range x y)
  where
    go : (r : Bool) → Told i (cond r (name (range x y) 2) (misused 1)) (suc (suc (length l))) (name_of i (cond r (name (range x y) 2) (misused 1)))
    go true = let u = text-byte y l h in
        record { named = range x y; more = 2; is = refl; long = refl; inside = omega arith; low = t.0; below = omega (arith, t.1); high = omega (arith, u.1); same = λ c. refl }
    go false = (1, refl, refl, omega arith)

told-plain : (i : ℕ) (x : ℕ) (l : Line) → (32 ≤ x) × (x ≤ 126) → all_text l ≡ true → Told i (plain_name x l) (length l) (name_of i (plain_name x l))
unfolding plain_name
told-plain i x [] t h = told-byte i x 0 t
told-plain i x (b ∷ l) t h = go (eqb b 45) (told-range i x l t (text-tail b l h))
  where
    go : (r : Bool) → Told i (range_name x l) (suc (length l)) (name_of i (range_name x l))
        → Told i (cond r (range_name x l) (name (byte x) 0)) (suc (length l)) (name_of i (cond r (range_name x l) (name (byte x) 0)))
    go true told = told
    go false told = told-byte i x (suc (length l)) t

pub told : (i : ℕ) (b : ℕ) (l : Line) → all_text (b ∷ l) ≡ true → Told i (first_name b l) (length l) (name_of i (first_name b l))
unfolding first_name Told name_of
told i b l h = go (eqb b 34) (eqb b 45) (told-quoted i l (text-tail b l h)) (told-plain i b l (text-byte b l h) (text-tail b l h))
  where
    go : (q m : Bool) → Told i (quoted_name l) (length l) (name_of i (quoted_name l)) → Told i (plain_name b l) (length l) (name_of i (plain_name b l))
        → Told i (cond q (quoted_name l) (cond m (misused 0) (plain_name b l))) (length l) (name_of i (cond q (quoted_name l) (cond m (misused 0) (plain_name b l))))
    go true m quoted plain = quoted
    go false true quoted plain = (0, refl, refl, omega arith)
    go false false quoted plain = plain

-- ---- the names after the first

names-skip : (at n : ℕ) (l : Line) → names_from at n l ≡ names_from (at + n) 0 (drop n l)
unfolding names_from
names-skip at zero l = rw (add-zero at)
names-skip at (suc n) [] = refl
names-skip at (suc n) (b ∷ l) = let place : at + suc n ≡ suc at + n = omega arith in rw place (names-skip (suc at) n l)

module _ (at b : ℕ) (l : Line) where
  next-name : (f : FirstName) → first_name b l ≡ f → names_from at 0 (b ∷ l) ≡ elim f [ name x more ↦ add_name x (names_from (suc at) more l) | misused k ↦ misused_at (at + k) ]
  unfolding names_from
  next-name f e = ap (λ (g : FirstName). elim g [ name x more ↦ add_name x (names_from (suc at) more l) | misused k ↦ misused_at (at + k) ]) e

  pub names-on : (x : Named) (more : ℕ) → first_name b l ≡ name x more → names_from at 0 (b ∷ l) ≡ add_name x (names_from (at + suc more) 0 (drop more l))
  names-on x more e = let place : at + suc more ≡ suc at + more = omega arith in next-name (name x more) e ∙ rw place (ap (add_name x) (names-skip (suc at) more l))

  pub names-misused : (k : ℕ) → first_name b l ≡ misused k → names_from at 0 (b ∷ l) ≡ misused_at (at + k)
  names-misused k e = next-name (misused k) e

-- ---- what is found at a place

module _ (s : List ℕ) (to i : ℕ) (fits : to ≤ length s) where
  abbrev found : Result Name Misused
  found = name_of i (first_name (get_or s i 0) (string s to (suc i)))

  module _ (first : get_or s i 0 ≡ 34) where
    pub quoted-none : to - i < 2 → found ≡ Err (misused-here i)
    unfolding first_name quoted_name name_of
    quoted-none h = rw (first, string-none s to (suc i) (omega arith), add-zero i)

    pub quoted-some : 2 ≤ to - i → found ≡ Ok (bytes_named (get_or s (i + 1) 0) (get_or s (i + 1) 0) 2)
    unfolding first_name quoted_name name_of
    quoted-some h = rw (first, add-one i, string-cons s to (suc i) (omega arith) fits)

  pub first-minus : get_or s i 0 ≡ 45 → found ≡ Err (misused-here i)
  unfolding first_name name_of
  first-minus first = rw (first, add-zero i)

  module _ (no-quote : get_or s i 0 ≡ 34 → ⊥) (no_minus : get_or s i 0 ≡ 45 → ⊥) where
    plain : (l : Line) → first_name (get_or s i 0) l ≡ plain_name (get_or s i 0) l
    unfolding first_name
    plain l = rw (ne_eqb (get_or s i 0) 34 no-quote, ne_eqb (get_or s i 0) 45 no_minus)

    pub plain-last : to - i < 2 → found ≡ Ok (bytes_named (get_or s i 0) (get_or s i 0) 1)
    unfolding plain_name name_of
    plain-last h = ap (name_of i) (plain (string s to (suc i))) ∙ rw (string-none s to (suc i) (omega arith))

    pub plain_byte : 2 ≤ to - i → (get_or s (i + 1) 0 ≡ 45 → ⊥) → found ≡ Ok (bytes_named (get_or s i 0) (get_or s i 0) 1)
    unfolding plain_name name_of
    plain_byte h no_range = ap (name_of i) (plain (string s to (suc i))) ∙ rw (string-cons s to (suc i) (omega arith) fits, ← add-one i, ne_eqb (get_or s (i + 1) 0) 45 no_range)

    module _ (minus : get_or s (i + 1) 0 ≡ 45) where
      before-minus : 2 ≤ to - i → found ≡ name_of i (range_name (get_or s i 0) (string s to (i + 2)))
      unfolding plain_name
      before-minus h =
          let next : get_or s (suc i) 0 ≡ 45 = rw (add-one i) at minus in
          let place : suc (suc i) ≡ i + 2 = omega arith in
          ap (name_of i) (plain (string s to (suc i))) ∙ rw (string-cons s to (suc i) (omega arith) fits, next, place)

      pub range_none : 2 ≤ to - i → to - i < 3 → found ≡ Err (misused-here (i + 1))
      unfolding range_name name_of
      range_none h k = before-minus h ∙ rw (string-none s to (i + 2) (omega arith))

      ranged : (r : Bool) → 3 ≤ to - i → is_range (get_or s i 0) (get_or s (i + 2) 0) ≡ r
          → found ≡ name_of i (cond r (name (range (get_or s i 0) (get_or s (i + 2) 0)) 2) (misused 1))
      unfolding range_name
      ranged r h e = before-minus (omega arith) ∙ rw (string-cons s to (i + 2) (omega arith) fits, e)

      pub range-some : 3 ≤ to - i → is_range (get_or s i 0) (get_or s (i + 2) 0) ≡ true → found ≡ Ok (bytes_named (get_or s i 0) (get_or s (i + 2) 0) 3)
      unfolding name_of
      range-some h e = ranged true h e

      pub range_other : 3 ≤ to - i → is_range (get_or s i 0) (get_or s (i + 2) 0) ≡ false → found ≡ Err (misused-here (i + 1))
      unfolding name_of
      range_other h e = ranged false h e
