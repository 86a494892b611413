-- What is carried in the reserve's words: what keeps it, and what writes it. Assumes nothing.
use mathlib.Core.Path.{◌≡◌, refl, sym, ap, ◌∙◌, subst}
use mathlib.Core.Bool.{Bool, true, false, cond, false≢true}
use mathlib.Core.Logic.{◌⊎◌, inl, inr}
use mathlib.Core.List.{List, [], ◌∷◌, ◌++◌}
use Prim.Native.Nat.{ℕ, zero, suc, ◌+◌, ◌-◌, ◌≤◌, ◌<◌}
use native.Mathlib.Nat.{not-suc-le-zero, add-zero}
use native.Mathlib.Numerals.{add-one}
use native.Mathlib.Omega.{arith}
use lib.ListN.{length, drop, get_or, set, length-set, length-drop}
use lib.Seq.{get_or-set_same, get_or-set_other, length-take-le, sets, length-sets}
use lib.Dec.{eqb, ltb, leb}
use borrow.Author.Tests.{ltb-true, ltb-false, lt-ltb, lt-leb, le-leb, eq-eqb, ne_eqb, eqb-true}
use Rattle.definitions.specs.WordSet.{Named, letters_and_digits}
use Rattle.definitions.specs.Given.{Global, Carried, carried, no_globals, words_of}
use Rattle.definitions.specs.Edit.{add_global}
use Rattle.theorems.specs.Words.{NoGlobal, none_is}
use Rattle.wordset.specs.Sets.{in_set, SetAt}
use Rattle.wordset.specs.Decoding.{first_words}
use Rattle.wordset.specs.Laws.{same_set, part-set, written-set}
use Rattle.wordset.proofs.Setting.{first-set}
use Rattle.items.specs.Reserve.{reserve}
use Rattle.items.proofs.Keeping.{op-kept}
use Rattle.globals.specs.Standing.{GlobalAt, StandingAt, most, set_place, set_in, StandingBelow, Standing, count_from, standing, kept_at, Keeps, begun, with_set, OnlyCarried}

-- ---- how many stand

module _ (s w : List ℕ) (end : ℕ) where
  count-is : (i n : ℕ) (gs : List Global) → StandingAt s w end i n gs → (count_from w i n ≡ length gs) × (length gs ≤ n)
  unfolding StandingAt count_from
  count-is i zero gs h = (ap length (sym h), rw h (omega arith))
  count-is i (suc n) [] h = (rw (eq-eqb (get_or w i 0) 0 h, count_from), omega arith)
  count-is i (suc n) (x ∷ gs) (k, word, g, rest) =
      let r = count-is (suc i) n gs rest in
      let m : length gs ≤ n = r.1 in
      (rw (ne_eqb (get_or w i 0) 0 (λ e. omega (arith, e, word)), count_from) (ap suc r.0), omega (arith, m))

pub stands-count : (s w : List ℕ) (end : ℕ) (gs : List Global) (xs : List Named) → StandingBelow s w end (carried gs xs) → standing w ≡ length gs
unfolding StandingBelow
stands-count s w end gs xs h = (count-is s w end (length w - reserve) most gs h.1).0

no-globals : (gs : List Global) (xs : List Named) → length gs ≡ 0 → NoGlobal (carried gs xs)
no-globals [] xs e = none_is xs
no-globals (x ∷ gs) xs e = absurd (omega (arith, e))

-- none stands, or some do
pub none-stand : (s w : List ℕ) (c : Carried) → eqb (standing w) 0 ≡ true → Standing s w c → NoGlobal c
none-stand s w (carried gs xs) e h =
    let n = stands-count s w h.end gs xs h.below in
    no-globals gs xs (sym n ∙ eqb-true (standing w) 0 e)

pub some-stand : (s w : List ℕ) (c : Carried) → eqb (standing w) 0 ≡ false → Standing s w c → NoGlobal c → ⊥
some-stand s w c e h (none_is xs) = false≢true (sym e ∙ eq-eqb (standing w) 0 (stands-count s w h.end [] xs h.below))

-- ---- words that stay

module _ (s w w' : List ℕ) (end : ℕ) (same : (i : ℕ) → i < end → get_or w' i 0 ≡ get_or w i 0) (long : end ≤ length w') where
  pub global-kept : (k : ℕ) (x : Global) → GlobalAt s w end k x → GlobalAt s w' end k x
  global-kept k x g = record {
    change = g.change;
    first = g.first;
    new = g.new;
    m = g.m;
    place = g.place;
    lies = op-kept s w w' end same long k g.m g.place (add_global g.change g.first g.new) g.inside g.lies;
    inside = g.inside;
    short = g.short;
    good = g.good;
    same = g.same;
  }

  at-kept : (i n : ℕ) (gs : List Global) → ((j : ℕ) → i ≤ j → j < i + n → get_or w' j 0 ≡ get_or w j 0) → StandingAt s w end i n gs → StandingAt s w' end i n gs
  unfolding StandingAt
  at-kept i zero gs top h = h
  at-kept i (suc n) [] top h = top i (omega arith) (omega arith) ∙ h
  at-kept i (suc n) (x ∷ gs) top (k, word, g, rest) =
      (k, top i (omega arith) (omega arith) ∙ word, global-kept k x g, at-kept (suc i) n gs (λ j lo hi. top j (omega (arith, lo)) (omega (arith, hi))) rest)

  -- one more stands after the others
  one_more : (i n : ℕ) (gs : List Global) (k : ℕ) (x : Global) → GlobalAt s w' end k x → length gs < n
      → ((j : ℕ) → i ≤ j → j < i + length gs → get_or w' j 0 ≡ get_or w j 0) → get_or w' (i + length gs) 0 ≡ suc k
      → (suc (length gs) < n → get_or w' (suc (i + length gs)) 0 ≡ 0) → StandingAt s w end i n gs → StandingAt s w' end i n (gs ++ (x ∷ []))
  unfolding StandingAt
  one_more i zero gs k x g few old new after h = absurd (not-suc-le-zero few)
  one_more i (suc zero) [] k x g few old new after h = (k, rw add-zero at new, g, refl)
  one_more i (suc (suc n)) [] k x g few old new after h = (k, rw add-zero at new, g, rw add-zero at (after (omega arith)))
  one_more i (suc n) (y ∷ gs) k x g few old new after (j, word, f, rest) =
      let e : suc i + length gs ≡ i + suc (length gs) = omega arith in (
        j,
        old i (omega arith) (omega arith) ∙ word,
        global-kept j y f,
        one_more (suc i) n gs k x g (omega arith) (λ a lo hi. old a (omega (arith, lo)) (omega (arith, hi))) (ap (λ (a : ℕ). get_or w' a 0) e ∙ new)
            (λ h. ap (λ (a : ℕ). get_or w' (suc a) 0) e ∙ after (omega (arith, h))) rest,
      )

-- THE LAW: what is carried stands in other words that are the same below `end` and in the reserve
pub standing-kept : (s w w' : List ℕ) (end : ℕ) (c : Carried) → length w' ≡ length w → ((i : ℕ) → i < end → get_or w' i 0 ≡ get_or w i 0)
    → ((i : ℕ) → length w ≤ i + reserve → get_or w' i 0 ≡ get_or w i 0) → StandingBelow s w end c → StandingBelow s w' end c
unfolding StandingBelow
standing-kept s w w' end (carried gs xs) long same top h =
    let room = h.0 in (
      omega (arith, long, room),
      rw long (at-kept s w w' end same (omega (arith, long, room)) (length w - reserve) most gs (λ j lo hi. top j (omega (arith, lo, room))) h.1),
      same_set w' w (set_place w') (set_place w) (λ n few. ap (λ (i : ℕ). get_or w' (i - reserve + most + n) 0) long ∙ top (set_place w + n) (omega (arith, room))) ∙ h.2,
    )

-- the word set has three words
pub set_long : (w : List ℕ) → reserve ≤ length w → (r : List ℕ) → r ≡ set_in w → 3 ≤ length r
set_long w room r is = omega (arith, ap length is, length-take-le 3 (drop (set_place w) w) (rw length-drop (omega (arith, room))))

-- its bytes count for W
pub set-counts : (s w : List ℕ) (c : Carried) → Standing s w c → in_set (set_in w) 0 ≡ words_of c
unfolding StandingBelow words_of
set-counts s w (carried gs xs) h = part-set w (set_place w) 3 (omega arith) ∙ h.below.2

-- ---- what is written

-- a word of the globals or of the word set, and one that stays, are apart
parted : (w : List ℕ) (i m : ℕ) → reserve ≤ length w → m < most + 3 → (i + reserve < length w) ⊎ (length w + (most + 3) ≤ i + reserve) → i ≡ length w - reserve + m → ⊥
parted w i m room few (inl h) e = omega (arith, h, e, room, few)
parted w i m room few (inr h) e = omega (arith, h, e, room, few)

-- CG: none stands
module _ (s w : List ℕ) (end : ℕ) (gs : List Global) (xs : List Named) where
  pub forgotten : StandingBelow s w end (carried gs xs) → StandingBelow s (set w (length w - reserve) 0) end (carried [] xs)
  unfolding StandingBelow StandingAt
  forgotten h =
      let room = h.0 in
      rw length-set (
        room,
        get_or-set_same w (length w - reserve) 0 0 (omega (arith, room)),
        same_set (set w (length w - reserve) 0) w (set_place w) (set_place w) (λ n few. get_or-set_other w (length w - reserve) (set_place w + n) 0 0 (λ e. omega (arith, e, room))) ∙ h.2,
      )

pub forgets-only : (w : List ℕ) → reserve ≤ length w → OnlyCarried w (set w (length w - reserve) 0)
forgets-only w room = record {
  as_long = length-set w (length w - reserve) 0;
  same = λ i out. get_or-set_other w (length w - reserve) i 0 0 (λ e. parted w i 0 room (omega arith) out (e ∙ omega arith));
}

module _ (w : List ℕ) (n k : ℕ) (room : reserve ≤ length w) (few : n < most) where
  -- the words after the item at k stands
  kept-long : length (kept_at w n k) ≡ length w
  unfolding kept_at
  kept-long = go (ltb (n + 1) most)
    where
      go : (t : Bool)
          → length (cond t (set (set w (length w - reserve + n) (k + 1)) (length w - reserve + n + 1) 0) (set w (length w - reserve + n) (k + 1))) ≡ length w
      go true = rw (length-set, length-set)
      go false = rw length-set

  kept-other : (i : ℕ) → (i ≡ length w - reserve + n → ⊥) → (n + 1 < most → i ≡ length w - reserve + n + 1 → ⊥) → get_or (kept_at w n k) i 0 ≡ get_or w i 0
  unfolding kept_at
  kept-other i a b = go (ltb (n + 1) most) refl
    where
      go : (t : Bool) → ltb (n + 1) most ≡ t
          → get_or (cond t (set (set w (length w - reserve + n) (k + 1)) (length w - reserve + n + 1) 0) (set w (length w - reserve + n) (k + 1))) i 0 ≡ get_or w i 0
      go true e =
          get_or-set_other (set w (length w - reserve + n) (k + 1)) (length w - reserve + n + 1) i 0 0 (b (ltb-true (n + 1) most e))
          ∙ get_or-set_other w (length w - reserve + n) i (k + 1) 0 a
      go false e = get_or-set_other w (length w - reserve + n) i (k + 1) 0 a

  kept_here : get_or (kept_at w n k) (length w - reserve + n) 0 ≡ suc k
  unfolding kept_at
  kept_here = go (ltb (n + 1) most)
    where
      set_here : get_or (set w (length w - reserve + n) (k + 1)) (length w - reserve + n) 0 ≡ suc k
      set_here = get_or-set_same w (length w - reserve + n) (k + 1) 0 (omega arith) ∙ add-one k

      go : (t : Bool)
          → get_or (cond t (set (set w (length w - reserve + n) (k + 1)) (length w - reserve + n + 1) 0) (set w (length w - reserve + n) (k + 1))) (length w - reserve + n) 0 ≡ suc k
      go true =
          get_or-set_other (set w (length w - reserve + n) (k + 1)) (length w - reserve + n + 1) (length w - reserve + n) 0 0 (λ e. omega (arith, e))
          ∙ set_here
      go false = set_here

  kept_after : n + 1 < most → get_or (kept_at w n k) (length w - reserve + n + 1) 0 ≡ 0
  unfolding kept_at
  kept_after h =
      rw (lt-ltb (n + 1) most h)
      (get_or-set_same (set w (length w - reserve + n) (k + 1)) (length w - reserve + n + 1) 0 0 (rw length-set (omega (arith, h))))

  kept-only : OnlyCarried w (kept_at w n k)
  kept-only = record {
    as_long = kept-long;
    same = λ i out. kept-other i (λ e. parted w i n room (omega (arith, few)) out e) (λ h e. parted w i (n + 1) room (omega (arith, h)) out (e ∙ omega arith));
  }

stands-last : (w : List ℕ) (k : ℕ) (s : List ℕ) (end : ℕ) (gs : List Global) (xs : List Named) → end + reserve ≤ length w → length gs < most
    → StandingAt s w end (length w - reserve) most gs → SetAt w (set_place w) xs → (x : Global) → GlobalAt s w end k x
    → (end + reserve ≤ length (kept_at w (length gs) k)) × StandingAt s (kept_at w (length gs) k) end (length (kept_at w (length gs) k) - reserve) most (gs ++ (x ∷ []))
    × SetAt (kept_at w (length gs) k) (set_place (kept_at w (length gs) k)) xs
stands-last w k s end gs xs room few h is x g =
    let n : ℕ = length gs in
    let v : List ℕ = kept_at w n k in
    let top : ℕ = length w - reserve in
    let r : reserve ≤ length w = omega (arith, room) in
    let long : length v ≡ length w = kept-long w n k r few in
    let below : (i : ℕ) → i < end → get_or v i 0 ≡ get_or w i 0 =
    λ i lo. kept-other w n k r few i (λ e. omega (arith, lo, e, room)) (λ a e. omega (arith, lo, e, room)) in
    rw long (
      room,
      one_more s w v end below (omega (arith, long, room)) top most gs k x (global-kept s w v end below (omega (arith, long, room)) k x g) few
          (λ j lo hi. kept-other w n k r few j (λ e. omega (arith, hi, e)) (λ a e. omega (arith, hi, e))) (kept_here w n k r few)
          (λ a. ap (λ (i : ℕ). get_or v i 0) (sym (add-one (top + n))) ∙ kept_after w n k r few (omega (arith, a))) h,
      same_set v w (set_place w) (set_place w) (λ m low. kept-other w n k r few (set_place w + m) (λ e. omega (arith, e, few)) (λ a e. omega (arith, e, a))) ∙ is,
    )

module _ (w : List ℕ) (k : ℕ) (w' : List ℕ) where
  -- what `keep` leaves alone
  pub keeps-only : (r : Bool) → reserve ≤ length w → Keeps w k w' r → OnlyCarried w w'
  keeps-only true room h = rw h.words (kept-only w (standing w) k room (ltb-true (standing w) most (sym h.does)))
  keeps-only false room h = rw h.words (record { as_long = refl; same = λ i out. refl })

  module _ (s : List ℕ) (end : ℕ) (gs : List Global) (xs : List Named) (stand : StandingBelow s w end (carried gs xs)) where
    -- sixteen stand: nothing changes
    pub kept-not : Keeps w k w' false → (leb 16 (length gs) ≡ true) × (w' ≡ w)
    kept-not h =
        let n = stands-count s w end gs xs stand in
        let m = ltb-false (standing w) most (sym h.does) in
        (le-leb 16 (length gs) (omega (arith, n, m)), h.words)

    -- the item's global stands last
    pub kept-last : (x : Global) → GlobalAt s w end k x → Keeps w k w' true → (leb 16 (length gs) ≡ false) × StandingBelow s w' end (carried (gs ++ (x ∷ [])) xs)
    unfolding StandingBelow
    kept-last x g h =
        let n = stands-count s w end gs xs stand in
        let m = ltb-true (standing w) most (sym h.does) in
        let few : length gs < most = omega (arith, n, m) in
        let words : w' ≡ kept_at w (length gs) k = h.words ∙ ap (λ (a : ℕ). kept_at w a k) n in
        (lt-leb 16 (length gs) (omega (arith, few)), rw words (stands-last w k s end gs xs stand.0 few stand.1 stand.2 x g))

-- ---- the word set

-- words that are written leave the others
sets-other : (vs w : List ℕ) (p i : ℕ) → ((n : ℕ) → n < length vs → i ≡ p + n → ⊥) → get_or (sets w p vs) i 0 ≡ get_or w i 0
sets-other [] w p i out = refl
sets-other (v ∷ vs) w p i out =
    sets-other vs (set w p v) (suc p) i (λ n low e. out (suc n) (omega (arith, low)) (omega (arith, e)))
    ∙ get_or-set_other w p i v 0 (λ e. out 0 (omega arith) (omega (arith, e)))

module _ (w : List ℕ) (room : reserve ≤ length w) where
  begun-other : (i : ℕ) → (i ≡ length w - reserve → ⊥) → ((n : ℕ) → n < 3 → i ≡ set_place w + n → ⊥) → get_or (begun w) i 0 ≡ get_or w i 0
  begun-other i a b = sets-other first_words (set w (length w - reserve) 0) (set_place w) i b ∙ get_or-set_other w (length w - reserve) i 0 0 a

  begun-long : length (begun w) ≡ length w
  begun-long = length-sets (set w (length w - reserve) 0) (set_place w) first_words ∙ length-set w (length w - reserve) 0

  pub begins-only : OnlyCarried w (begun w)
  begins-only = record {
    as_long = begun-long;
    same = λ i out. begun-other i (λ e. parted w i 0 room (omega arith) out (e ∙ omega arith)) (λ n few e. parted w i (most + n) room (omega (arith, few)) out (e ∙ omega arith));
  }

  -- as where a run begins
  pub begins : (s : List ℕ) (end : ℕ) → end + reserve ≤ length w → StandingBelow s (begun w) end no_globals
  unfolding StandingBelow StandingAt no_globals
  begins s end fits = subst (λ (n : ℕ). (end + reserve ≤ n) × (get_or (begun w) (n - reserve) 0 ≡ 0) × SetAt (begun w) (n - reserve + most) letters_and_digits) (sym begun-long) (
    fits,
    sets-other first_words (set w (length w - reserve) 0) (set_place w) (length w - reserve) (λ n low e. omega (arith, e)) ∙ get_or-set_same w (length w - reserve) 0 0 (omega (arith, room)),
    written-set (set w (length w - reserve) 0) first_words (set_place w) refl (rw length-set (omega (arith, room))) ∙ first-set,
  )

-- WORD: the set of the item at k counts
module _ (w : List ℕ) (k : ℕ) (room : k + 4 + reserve ≤ length w) where
  abbrev words : List ℕ
  words = get_or w (k + 1) 0 ∷ get_or w (k + 2) 0 ∷ get_or w (k + 3) 0 ∷ []

  named-long : length (with_set w k) ≡ length w
  named-long = length-sets w (set_place w) words

  pub names-only : OnlyCarried w (with_set w k)
  names-only = record {
    as_long = named-long;
    same = λ i out. sets-other words w (set_place w) i (λ n few e. parted w i (most + n) (omega (arith, room)) (omega (arith, few)) out (e ∙ omega arith));
  }

  item-set : (n : ℕ) → n < 3 → get_or words (0 + n) 0 ≡ get_or w (k + 1 + n) 0
  item-set zero few = ap (λ (i : ℕ). get_or w i 0) (sym (add-zero (k + 1)))
  item-set (suc zero) few = ap (λ (i : ℕ). get_or w i 0) (let q : k + 2 ≡ k + 1 + 1 = omega arith in q)
  item-set (suc (suc zero)) few = ap (λ (i : ℕ). get_or w i 0) (let q : k + 3 ≡ k + 1 + 2 = omega arith in q)
  item-set (suc (suc (suc n))) few = absurd (omega (arith, few))

  pub named : (s : List ℕ) (end : ℕ) (gs : List Global) (xs ys : List Named) → StandingBelow s w end (carried gs xs) → SetAt w (k + 1) ys
      → StandingBelow s (with_set w k) end (carried gs ys)
  unfolding StandingBelow
  named s end gs xs ys h is =
      let fits = h.0 in
      subst (λ (n : ℕ). (end + reserve ≤ n) × StandingAt s (with_set w k) end (n - reserve) most gs × SetAt (with_set w k) (n - reserve + most) ys) (sym named-long) (
        fits,
        at-kept s w (with_set w k) end (λ i lo. sets-other words w (set_place w) i (λ n few e. omega (arith, lo, e, fits))) (omega (arith, named-long, fits)) (length w - reserve) most gs
            (λ j lo hi. sets-other words w (set_place w) j (λ n few e. omega (arith, hi, e))) h.1,
        written-set w words (set_place w) refl (omega (arith, room)) ∙ same_set words w 0 (k + 1) item-set ∙ is,
      )
