-- The part of T that a pattern takes: it is allowed and stands there, and none that is allowed and stands is before it; where none is taken,
-- none that is allowed stands (document 02, wish 9; W9.8 and W9.9).
use Rattle.std.specs.Prelude.{◌≡◌, Bool, cond, ◌⊎◌, take, drop}
use Rattle.std.proofs.Math.Path.{refl}
use Rattle.std.proofs.Common.{sym, ap, ◌∙◌, le_of_suc-le-suc, eq-or-lt_of_le}
use Rattle.std.proofs.Math.Bool.{true, false}
use Rattle.std.proofs.Math.Option.{Option, none, some}
use Rattle.std.proofs.Math.Logic.{inl, inr}
use Prim.Native.Nat.{ℕ, zero, suc, ◌+◌, ◌-◌, ◌≤◌, ◌<◌}
use Rattle.std.proofs.Math.Nat.{not-suc-le-zero}
use native.Mathlib.Omega.{arith}
use Rattle.std.proofs.Math.Dec.{T}
use Rattle.definitions.specs.Bytes.{Line}
use Rattle.definitions.specs.Matching.{Anchor, anywhere, at_start, at_end, precisely, text, is_apart, Match, matched, stands_in, longest, least, from_place, to_place, leftmost, rightmost, taken}
use Rattle.definitions.specs.Patterns.{Pattern, is_in}
use Rattle.theorems.specs.PatternLanguage.{in-sound, in-complete}
use Rattle.theorems.specs.PatternTaken.{Allows, looks_right, Before, FirstOf, Stands, IsTaken, Matches}

-- ---- the first of some parts

-- of the same parts in another order, where that one prefers the same
pub first-ordered : (C : ℕ → ℕ → Type 0) (r q : Bool) → ((k w j m : ℕ) → C k w → C j m → Before r k w j m → Before q k w j m)
    → (o : Option Match) → FirstOf C r o → FirstOf C q o
unfolding FirstOf
first-ordered C r q f none h = h
first-ordered C r q f (some x) h = (h.0, λ j m c. f x.place x.width j m h.0 c (h.1 j m c))

-- of the same parts, said otherwise
pub first-same : (C D : ℕ → ℕ → Type 0) (r : Bool) → ((j m : ℕ) → C j m → D j m) → ((j m : ℕ) → D j m → C j m)
    → (o : Option Match) → FirstOf C r o → FirstOf D r o
unfolding FirstOf
first-same C D r f g none h = λ j m d. h j m (g j m d)
first-same C D r f g (some x) h = (f x.place x.width h.0, λ j m d. h.1 j m (g j m d))

-- of the parts that are C or D, where each C is before each D
pub first_either : (C D E : ℕ → ℕ → Type 0) (r : Bool) → ((j m : ℕ) → C j m → E j m) → ((j m : ℕ) → D j m → E j m) → ((j m : ℕ) → E j m → C j m ⊎ D j m)
    → ((k w j m : ℕ) → C k w → D j m → Before r k w j m)
    → (o q : Option Match) → FirstOf C r o → FirstOf D r q → FirstOf E r (elim o [ some x ↦ some x | none ↦ q ])
unfolding FirstOf
first_either C D E r left right parts before none q h k = first-same D E r right (λ j m e. only j m (parts j m e)) q k
  where
    only : (j m : ℕ) → C j m ⊎ D j m → D j m
    only j m (inl c) = absurd (h j m c)
    only j m (inr d) = d
first_either C D E r left right parts before (some x) q h k =
    (left x.place x.width h.0, λ j m e. elim (parts j m e) [ inl c ↦ h.1 j m c | inr d ↦ before x.place x.width j m h.0 d ])

same-part : (r : Bool) (x y : Match) → Before r x.place x.width y.place y.width → Before r y.place y.width x.place x.width → x ≡ y
unfolding Before
same-part false x y f g =
    let e : x.place ≡ y.place = omega (arith, f.0, g.0) in
    let d : x.width ≡ y.width = omega (arith, f.1 e, g.1 (sym e)) in
    ap (λ i. matched i x.width) e ∙ ap (λ n. matched y.place n) d
same-part true x y f g =
    let s : y.place + y.width ≡ x.place + x.width = omega (arith, f.0, g.0) in
    let e : x.place ≡ y.place = omega (arith, f.1 s, g.1 (sym s)) in
    let d : x.width ≡ y.width = omega arith in
    ap (λ i. matched i x.width) e ∙ ap (λ n. matched y.place n) d

pub first-unique : (C : ℕ → ℕ → Type 0) (r : Bool) (o q : Option Match) → FirstOf C r o → FirstOf C r q → o ≡ q
unfolding FirstOf
first-unique C r none none h k = refl
first-unique C r none (some y) h k = absurd (h y.place y.width k.0)
first-unique C r (some x) none h k = absurd (k x.place x.width h.0)
first-unique C r (some x) (some y) h k = ap some (same-part r x y (h.1 y.place y.width k.0) (k.1 x.place x.width h.0))

-- ---- from a place, to a place

-- the part that begins at place i, of the width found
abbrev beginning : ℕ → Option ℕ → Option Match
beginning i o = elim o [ none ↦ none | some width ↦ some (matched i width) ]

-- the part that ends at place `end`, from the place found
abbrev ending : ℕ → Option ℕ → Option Match
ending end o = elim o [ none ↦ none | some i ↦ some (matched i (end - i)) ]

module _ (stands : ℕ → ℕ → Bool) where
  -- begins at place i, of a width below n
  abbrev BeginsAt : ℕ → ℕ → ℕ → ℕ → Type 0
  BeginsAt i n j m = (j ≡ i) × (m < n) × T (stands j m)

  -- ends at place `end`, from one of n places, i the first of them
  abbrev EndsAt : ℕ → ℕ → ℕ → ℕ → ℕ → Type 0
  EndsAt end n i j m = (i ≤ j) × (j < i + n) × (j + m ≡ end) × T (stands j m)

  longest-first : (i n : ℕ) → FirstOf (BeginsAt i n) false (beginning i (longest (stands i) n))
  unfolding longest FirstOf Before
  longest-first i zero = λ j m c. not-suc-le-zero c.1
  longest-first i (suc n) = go (stands i n) refl (longest-first i n)
    where
      less : stands i n ≡ false → (j m : ℕ) → j ≡ i → T (stands j m) → (m ≡ n) ⊎ (m < n) → m < n
      less e j m q t (inl k) = absurd (rw (q, k, e) at t)
      less e j m q t (inr k) = k

      go : (t : Bool) → stands i n ≡ t → FirstOf (BeginsAt i n) false (beginning i (longest (stands i) n))
          → FirstOf (BeginsAt i (suc n)) false (beginning i (elim t [ true ↦ some n | false ↦ longest (stands i) n ]))
      go true e h = ((refl, omega arith, rw e tt), λ j m c. (omega (arith, c.0), λ q. omega (arith, c.1)))
      go false e h =
          first-same (BeginsAt i n) (BeginsAt i (suc n)) false (λ j m c. (c.0, omega (arith, c.1), c.2))
          (λ j m c. (c.0, less e j m c.0 c.2 (eq-or-lt_of_le (le_of_suc-le-suc c.1)), c.2)) (beginning i (longest (stands i) n)) h

  least_first : (end n i : ℕ) → i + n ≤ suc end → FirstOf (EndsAt end n i) true (ending end (least (λ j. stands j (end - j)) n i))
  unfolding least FirstOf Before
  least_first end zero i le = λ j m c. omega (arith, c.0, c.1)
  least_first end (suc n) i le = go (stands i (end - i)) refl (least_first end n (suc i) (omega arith))
    where
      more : stands i (end - i) ≡ false → (j m : ℕ) → j + m ≡ end → T (stands j m) → (i ≡ j) ⊎ (i < j) → i < j
      more e j m q t (inl k) = let d : m ≡ end - i = omega arith in absurd (rw (sym k, d, e) at t)
      more e j m q t (inr k) = k

      go : (t : Bool) → stands i (end - i) ≡ t → FirstOf (EndsAt end n (suc i)) true (ending end (least (λ j. stands j (end - j)) n (suc i)))
          → FirstOf (EndsAt end (suc n) i) true (ending end (elim t [ true ↦ some i | false ↦ least (λ j. stands j (end - j)) n (suc i) ]))
      go true e h = ((omega arith, omega arith, omega arith, rw e tt), λ j m c. (omega (arith, c.2), λ q. c.0))
      go false e h =
          first-same (EndsAt end n (suc i)) (EndsAt end (suc n) i) true (λ j m c. (omega (arith, c.0), omega (arith, c.1), c.2, c.3))
          (λ j m c. (more e j m c.2 c.3 (eq-or-lt_of_le c.0), omega (arith, c.1), c.2, c.3))
          (ending end (least (λ j. stands j (end - j)) n (suc i))) h

  from_first : (end i : ℕ) → FirstOf (BeginsAt i (suc (end - i))) false (from_place stands end i)
  unfolding from_place
  from_first end i = longest-first i (suc (end - i))

  to-first : (start end : ℕ) → start ≤ end → FirstOf (EndsAt end (suc (end - start)) start) true (to_place stands start end)
  unfolding to_place
  to-first start end le = least_first end (suc (end - start)) start (omega arith)

  -- ---- leftmost and rightmost

  -- begins at one of n places, i the first of them
  abbrev BeginsIn : ℕ → ℕ → ℕ → ℕ → ℕ → Type 0
  BeginsIn end n i j m = (i ≤ j) × (j < i + n) × (j + m ≤ end) × T (stands j m)

  -- ends at one of n places, `start` the first of them
  abbrev EndsIn : ℕ → ℕ → ℕ → ℕ → Type 0
  EndsIn start n j m = (start ≤ j) × (j + m < start + n) × T (stands j m)

  leftmost-first : (end n i : ℕ) → i + n ≤ suc end → FirstOf (BeginsIn end n i) false (leftmost stands end n i)
  unfolding leftmost FirstOf Before
  leftmost-first end zero i le = λ j m c. omega (arith, c.0, c.1)
  leftmost-first end (suc n) i le =
      first_either (BeginsAt i (suc (end - i))) (BeginsIn end n (suc i)) (BeginsIn end (suc n) i) false
      (λ j m c. (omega (arith, c.0), omega (arith, c.0), omega (arith, c.0, c.1), c.2))
      (λ j m c. (omega (arith, c.0), omega (arith, c.1), c.2, c.3)) (λ j m c. cases j m c (eq-or-lt_of_le c.0))
      (λ k w j m c d. (omega (arith, c.0, d.0), λ q. omega (arith, c.0, d.0)))
      (from_place stands end i) (leftmost stands end n (suc i)) (from_first end i) (leftmost-first end n (suc i) (omega arith))
    where
      cases : (j m : ℕ) → BeginsIn end (suc n) i j m → (i ≡ j) ⊎ (i < j) → BeginsAt i (suc (end - i)) j m ⊎ BeginsIn end n (suc i) j m
      cases j m c (inl k) = inl (sym k, omega (arith, c.2), c.3)
      cases j m c (inr k) = inr (k, omega (arith, c.1), c.2, c.3)

  rightmost-first : (start n : ℕ) → FirstOf (EndsIn start n) true (rightmost stands start n)
  unfolding rightmost FirstOf Before
  rightmost-first start zero = λ j m c. omega (arith, c.0, c.1)
  rightmost-first start (suc n) =
      first_either (EndsAt (start + n) (suc (start + n - start)) start) (EndsIn start n) (EndsIn start (suc n)) true
      (λ j m c. (c.0, omega (arith, c.2), c.3)) (λ j m c. (c.0, omega (arith, c.1), c.2))
      (λ j m c. cases j m c (eq-or-lt_of_le (omega (arith, c.1))))
      (λ k w j m c d. (omega (arith, c.2, d.1), λ q. omega (arith, c.2, d.1)))
      (to_place stands start (start + n)) (rightmost stands start n) (to-first start (start + n) (omega arith)) (rightmost-first start n)
    where
      cases : (j m : ℕ) → EndsIn start (suc n) j m → (j + m ≡ start + n) ⊎ (j + m < start + n)
          → EndsAt (start + n) (suc (start + n - start)) start j m ⊎ EndsIn start n j m
      cases j m c (inl k) = inl (c.0, omega (arith, c.0), k, c.2)
      cases j m c (inr k) = inr (c.0, k, c.2)

-- ---- what is taken

whole-first : (last : Bool) (stands : ℕ → ℕ → Bool) (start end : ℕ) → start ≤ end
    → IsTaken precisely last stands start end (cond (stands start (end - start)) (some (matched start (end - start))) none)
unfolding IsTaken FirstOf Allows Before looks_right
whole-first last stands start end le = go (stands start (end - start)) refl
  where
    whole : (j m : ℕ) → j ≡ start → j + m ≡ end → T (stands j m) → T (stands start (end - start))
    whole j m e h t = let q : m ≡ end - start = omega arith in rw (e, q) at t

    go : (t : Bool) → stands start (end - start) ≡ t → IsTaken precisely last stands start end (cond t (some (matched start (end - start))) none)
    go true e = (((refl, omega arith), rw e tt), λ j m c. (omega (arith, c.0.0), λ q. omega (arith, c.0.0, c.0.1)))
    go false e = λ j m c. rw e at (whole j m c.0.0 c.0.1 c.1)

pub taken_is : (anchor : Anchor) (last : Bool) (stands : ℕ → ℕ → Bool) (start end : ℕ) → start ≤ end
    → IsTaken anchor last stands start end (taken anchor last stands (text start end))
unfolding taken IsTaken Allows looks_right
taken_is anywhere false stands start end le =
    first-same (BeginsIn stands end (suc (end - start)) start) (Stands anywhere stands start end) false (λ j m c. ((c.0, c.2), c.3))
    (λ j m c. (c.0.0, omega (arith, c.0.0, c.0.1), c.0.1, c.1)) (leftmost stands end (suc (end - start)) start)
    (leftmost-first stands end (suc (end - start)) start (omega arith))
taken_is anywhere true stands start end le =
    first-same (EndsIn stands start (suc (end - start))) (Stands anywhere stands start end) true (λ j m c. ((c.0, omega (arith, c.1)), c.2))
    (λ j m c. (c.0.0, omega (arith, c.0.1), c.1)) (rightmost stands start (suc (end - start))) (rightmost-first stands start (suc (end - start)))
taken_is at_start last stands start end le =
    first-same (BeginsAt stands start (suc (end - start))) (Stands at_start stands start end) false (λ j m c. ((c.0, omega (arith, c.0, c.1)), c.2))
    (λ j m c. (c.0.0, omega (arith, c.0.0, c.0.1), c.1)) (from_place stands end start) (from_first stands end start)
taken_is at_end last stands start end le =
    first-same (EndsAt stands end (suc (end - start)) start) (Stands at_end stands start end) true (λ j m c. ((c.0, c.2), c.3))
    (λ j m c. (c.0.0, omega (arith, c.0.0, c.0.1), c.0.1, c.1)) (to_place stands start end) (to-first stands start end le)
taken_is precisely last stands start end le = whole-first last stands start end le

-- what is to be taken is one thing
pub taken-unique : (anchor : Anchor) (last : Bool) (stands : ℕ → ℕ → Bool) (start end : ℕ) (o q : Option Match)
    → IsTaken anchor last stands start end o → IsTaken anchor last stands start end q → o ≡ q
unfolding IsTaken
taken-unique anchor last stands start end o q h k = first-unique (Stands anchor stands start end) (looks_right anchor last) o q h k

-- so that what is found to be it is what is taken
pub taken-is-what : (anchor : Anchor) (last : Bool) (stands : ℕ → ℕ → Bool) (start end : ℕ) (o : Option Match) → start ≤ end
    → IsTaken anchor last stands start end o → taken anchor last stands (text start end) ≡ o
taken-is-what anchor last stands start end o le h =
    taken-unique anchor last stands start end (taken anchor last stands (text start end)) o (taken_is anchor last stands start end le) h

-- ---- in the words of wish 9

module _ (isWord : ℕ → Bool) (w : Bool) (p : Pattern) (l : Line) where
  pub stands-matches : (i k : ℕ) → T (stands_in isWord w p l i k) → Matches isWord w p l i k
  unfolding stands_in Matches
  stands-matches i k h = go (is_in p (take k (drop i l))) refl h
    where
      go : (t : Bool) → is_in p (take k (drop i l)) ≡ t → T (elim t [ true ↦ is_apart isWord w l i (i + k) | false ↦ false ]) → Matches isWord w p l i k
      go true e h = (in-sound p (take k (drop i l)) (rw e tt), h)
      go false e h = absurd h

  pub matches-stands : (i k : ℕ) → Matches isWord w p l i k → T (stands_in isWord w p l i k)
  unfolding stands_in Matches
  matches-stands i k h = go (is_in p (take k (drop i l))) (in-complete p (take k (drop i l)) h.0)
    where
      go : (t : Bool) → T t → T (elim t [ true ↦ is_apart isWord w l i (i + k) | false ↦ false ])
      go true t = h.1
      go false t = absurd t

  module _ (anchor : Anchor) (last : Bool) (start end : ℕ) (le : start ≤ end) where
    found-is : (o : Option Match) → taken anchor last (stands_in isWord w p l) (text start end) ≡ o → IsTaken anchor last (stands_in isWord w p l) start end o
    found-is o e = rw e at (taken_is anchor last (stands_in isWord w p l) start end le)

    -- "A match found is in the pattern's language", passes W, and is a part of T that the qualifiers allow
    pub found-matches : (m : Match) → taken anchor last (stands_in isWord w p l) (text start end) ≡ some m
        → Allows anchor start end m.place m.width × Matches isWord w p l m.place m.width
    unfolding IsTaken FirstOf
    found-matches m e =
        let h : IsTaken anchor last (stands_in isWord w p l) start end (some m) = found-is (some m) e in
        (h.0.0, stands-matches m.place m.width h.0.1)

    -- "The leftmost match counts, with L or E the rightmost ending one; of several there the longest is taken"
    pub found_first : (m : Match) → taken anchor last (stands_in isWord w p l) (text start end) ≡ some m
        → (j k : ℕ) → Allows anchor start end j k → Matches isWord w p l j k → Before (looks_right anchor last) m.place m.width j k
    unfolding IsTaken FirstOf
    found_first m e j k a h = (found-is (some m) e).1 j k (a, matches-stands j k h)

    -- "where none is found, no part of T that the qualifiers allow is"
    pub none-matches : taken anchor last (stands_in isWord w p l) (text start end) ≡ none → (j k : ℕ) → Allows anchor start end j k → Matches isWord w p l j k → ⊥
    unfolding IsTaken FirstOf
    none-matches e j k a h = found-is none e j k (a, matches-stands j k h)
