-- What a pattern takes, found by going over T once, from left to right: at each place only the part that ends there from the least start is looked at
-- (document 02, wish 9; W9.8).
use Rattle.std.specs.Prelude.{◌≡◌, Bool, cond, ◌&&◌, ◌⊎◌, eqb, leb}
use Rattle.std.proofs.Math.Path.{refl, sym, ap}
use Rattle.std.proofs.Common.{◌∙◌, eq-or-lt_of_le}
use Rattle.std.proofs.Math.Bool.{true, false}
use Rattle.std.proofs.Math.Option.{Option, none, some}
use Rattle.std.proofs.Math.Logic.{inl, inr}
use Prim.Native.Nat.{ℕ, zero, suc, ◌+◌, ◌-◌, ◌≤◌, ◌<◌}
use Rattle.std.proofs.Math.Nat.{le_of_suc-le-suc}
use Rattle.std.proofs.Math.Decide.{dec_lt}
use native.Mathlib.Omega.{arith}
use Rattle.std.proofs.Math.Dec.{T}
use Rattle.std.proofs.Math.Facts.{and_yes, yes_and, leb_yes, leb_no, eqb_yes, yes_eqb}
use Rattle.definitions.specs.Matching.{Anchor, anywhere, at_start, at_end, precisely, text, Match, matched, to_place, rightmost, taken}
use Rattle.theorems.specs.PatternTaken.{Allows, looks_right, Before, FirstOf, Stands, IsTaken}
use Rattle.theorems.proofs.PatternTaken.{first-ordered, first-same, taken_is, taken-is-what}
use Rattle.theorems.specs.TakenByPlaces.{may_begin, may_end, restricted, better_of, later_of, LaterStart}

-- ---- B, E and P as a restriction of what stands

module _ (stands : ℕ → ℕ → Bool) (start end : ℕ) where
  restricted-stands : (anchor : Anchor) (j m : ℕ) → Stands anywhere (restricted anchor start end stands) start end j m → Stands anchor stands start end j m
  unfolding Allows restricted may_begin may_end
  restricted-stands anywhere j m c = c
  restricted-stands at_start j m c =
      let h : T (eqb j start) × T (stands j m) = and_yes (eqb j start) (stands j m) c.1 in
      ((eqb_yes h.0, c.0.1), h.1)
  restricted-stands at_end j m c =
      let h : T (eqb (j + m) end) × T (stands j m) = and_yes (eqb (j + m) end) (stands j m) c.1 in
      ((c.0.0, eqb_yes h.0), h.1)
  restricted-stands precisely j m c =
      let h : T (eqb j start) × T (eqb (j + m) end && stands j m) = and_yes (eqb j start) (eqb (j + m) end && stands j m) c.1 in
      let k : T (eqb (j + m) end) × T (stands j m) = and_yes (eqb (j + m) end) (stands j m) h.1 in
      ((eqb_yes h.0, eqb_yes k.0), k.1)

  stands-restricted : (anchor : Anchor) (j m : ℕ) → Stands anchor stands start end j m → Stands anywhere (restricted anchor start end stands) start end j m
  unfolding Allows restricted may_begin may_end
  stands-restricted anywhere j m c = c
  stands-restricted at_start j m c = ((omega (arith, c.0.0), c.0.1), yes_and (eqb j start) (stands j m) (yes_eqb c.0.0) c.1)
  stands-restricted at_end j m c = ((c.0.0, omega (arith, c.0.1)), yes_and (eqb (j + m) end) (stands j m) (yes_eqb c.0.1) c.1)
  stands-restricted precisely j m c = (
    (omega (arith, c.0.0), omega (arith, c.0.1)),
    yes_and (eqb j start) (eqb (j + m) end && stands j m) (yes_eqb c.0.0)
        (yes_and (eqb (j + m) end) (stands j m) (yes_eqb c.0.1) c.1),
  )

  -- where all begin at one place, or all end at one, the leftmost ends rightmost
  same_first : (anchor : Anchor) (last : Bool) (k w j m : ℕ) → Stands anchor stands start end k w → Stands anchor stands start end j m
      → Before last k w j m → Before (looks_right anchor last) k w j m
  unfolding Allows Before looks_right
  same_first anywhere last k w j m c d h = h
  same_first at_start false k w j m c d h = h
  same_first at_start true k w j m c d h = (omega (arith, c.0.0, d.0.0), λ q. omega (arith, h.0))
  same_first at_end false k w j m c d h = (omega (arith, c.0.1, d.0.1), λ q. h.0)
  same_first at_end true k w j m c d h = h
  same_first precisely false k w j m c d h = h
  same_first precisely true k w j m c d h = (omega (arith, c.0.0, d.0.0), λ q. omega (arith, c.0.1, d.0.1))

  -- B, E and P are obeyed by what stands
  pub anchored-is : (anchor : Anchor) (last : Bool) → start ≤ end
      → taken anchor last stands (text start end) ≡ taken anywhere last (restricted anchor start end stands) (text start end)
  unfolding IsTaken looks_right
  anchored-is anchor last le =
      let o : Option Match = taken anywhere last (restricted anchor start end stands) (text start end) in
      taken-is-what anchor last stands start end o le
      (first-ordered (Stands anchor stands start end) last (looks_right anchor last) (same_first anchor last) o
      (first-same (Stands anywhere (restricted anchor start end stands) start end) (Stands anchor stands start end) last
      (restricted-stands anchor) (stands-restricted anchor) o (taken_is anywhere last (restricted anchor start end stands) start end le)))

-- ---- from place to place

later-is : (o q : Option Match) → elim q [ some m ↦ some m | none ↦ o ] ≡ later_of o q
unfolding later_of
later-is o none = refl
later-is o (some y) = refl

better-stays : (x : Match) (q : Option Match) → LaterStart x.place q → better_of (some x) q ≡ some x
unfolding LaterStart better_of
better-stays x none h = refl
better-stays x (some y) h = pick (leb y.place x.place) refl
  where
    pick : (t : Bool) → leb y.place x.place ≡ t → cond t (some y) (some x) ≡ some x
    pick true q = let f : y.place ≤ x.place = leb_yes (rw q tt) in absurd (omega arith)
    pick false q = refl

module _ (stands : ℕ → ℕ → Bool) (start : ℕ) where
  -- of the parts that end at one place, the one from the least start is the leftmost
  to-leftmost : (end : ℕ) (o : Option Match) → IsTaken at_end false stands start end o → FirstOf (Stands at_end stands start end) false o
  unfolding IsTaken Allows Before looks_right
  to-leftmost end o h =
      first-ordered (Stands at_end stands start end) true false
      (λ k w j m c d f. (f.1 (d.0.1 ∙ sym c.0.1), λ q. omega (arith, c.0.1, d.0.1))) o h

  empty-same : (r : Bool) (o : Option Match) → FirstOf (Stands at_end stands start start) r o → FirstOf (Stands anywhere stands start start) r o
  unfolding Allows
  empty-same r o h =
      first-same (Stands at_end stands start start) (Stands anywhere stands start start) r (λ j m c. ((c.0.0, omega (arith, c.0.1)), c.1))
      (λ j m c. ((c.0.0, omega (arith, c.0.0, c.0.1)), c.1)) o h

  pub leftmost-empty : taken anywhere false stands (text start start) ≡ to_place stands start start
  unfolding IsTaken looks_right taken
  leftmost-empty =
      taken-is-what anywhere false stands start start (to_place stands start start) (omega arith)
      (empty-same false (to_place stands start start) (to-leftmost start (to_place stands start start) (taken_is at_end false stands start start (omega arith))))

  pub rightmost-empty : taken anywhere true stands (text start start) ≡ to_place stands start start
  unfolding IsTaken looks_right taken
  rightmost-empty =
      taken-is-what anywhere true stands start start (to_place stands start start) (omega arith)
      (empty-same true (to_place stands start start) (taken_is at_end true stands start start (omega arith)))

  further : (e j m : ℕ) → Stands anywhere stands start (suc e) j m → Stands anywhere stands start e j m ⊎ Stands at_end stands start (suc e) j m
  unfolding Allows
  further e j m c = elim (eq-or-lt_of_le c.0.1) [ inl k ↦ inr ((c.0.0, k), c.1) | inr k ↦ inl ((c.0.0, le_of_suc-le-suc k), c.1) ]

  better-first : (e : ℕ) (o q : Option Match) → FirstOf (Stands anywhere stands start e) false o → FirstOf (Stands at_end stands start (suc e)) false q
      → FirstOf (Stands anywhere stands start (suc e)) false (better_of o q)
  unfolding FirstOf better_of Allows Before
  better-first e none none h k = λ j m c. elim (further e j m c) [ inl d ↦ h j m d | inr d ↦ k j m d ]
  better-first e none (some y) h k =
      (((k.0.0.0, omega (arith, k.0.0.1)), k.0.1), λ j m c. elim (further e j m c) [ inl d ↦ absurd (h j m d) | inr d ↦ k.1 j m d ])
  better-first e (some x) none h k =
      (((h.0.0.0, omega (arith, h.0.0.1)), h.0.1), λ j m c. elim (further e j m c) [ inl d ↦ h.1 j m d | inr d ↦ absurd (k j m d) ])
  better-first e (some x) (some y) h k = pick (leb y.place x.place) refl
    where
      new : y.place ≤ x.place → (j m : ℕ) → Stands anywhere stands start e j m ⊎ Stands at_end stands start (suc e) j m
          → Before false y.place y.width j m
      new l j m (inl d) = (omega (arith, (h.1 j m d).0), λ q. omega (arith, k.0.0.1, d.0.1))
      new l j m (inr d) = k.1 j m d

      old : x.place < y.place → (j m : ℕ) → Stands anywhere stands start e j m ⊎ Stands at_end stands start (suc e) j m
          → Before false x.place x.width j m
      old l j m (inl d) = h.1 j m d
      old l j m (inr d) = (omega (arith, (k.1 j m d).0), λ q. omega (arith, (k.1 j m d).0))

      pick : (t : Bool) → leb y.place x.place ≡ t → FirstOf (Stands anywhere stands start (suc e)) false (cond t (some y) (some x))
      pick true q =
          (((k.0.0.0, omega (arith, k.0.0.1)), k.0.1), λ j m c. new (leb_yes (rw q tt)) j m (further e j m c))
      pick false q =
          (((h.0.0.0, omega (arith, h.0.0.1)), h.0.1), λ j m c. old (leb_no (rw q tt)) j m (further e j m c))

  pub leftmost-further : (e : ℕ) → start ≤ e
      → taken anywhere false stands (text start (suc e)) ≡ better_of (taken anywhere false stands (text start e)) (to_place stands start (suc e))
  unfolding IsTaken looks_right taken
  leftmost-further e le =
      let o : Option Match = taken anywhere false stands (text start e) in
      let q : Option Match = to_place stands start (suc e) in
      taken-is-what anywhere false stands start (suc e) (better_of o q) (omega arith)
      (better-first e o q (taken_is anywhere false stands start e le) (to-leftmost (suc e) q (taken_is at_end false stands start (suc e) (omega arith))))

  pub rightmost-further : (e : ℕ) → start ≤ e
      → taken anywhere true stands (text start (suc e)) ≡ later_of (taken anywhere true stands (text start e)) (to_place stands start (suc e))
  unfolding taken rightmost
  rightmost-further e le =
      let d : suc e - start ≡ suc (e - start) = omega arith in
      let f : start + suc (e - start) ≡ suc e = omega arith in
      ap (λ n. rightmost stands start (suc n)) d ∙ later-is (rightmost stands start (suc (e - start))) (to_place stands start (start + suc (e - start)))
      ∙ ap (λ z. later_of (rightmost stands start (suc (e - start))) (to_place stands start z)) f

  -- ---- where the leftmost is settled

  -- what is taken up to place e is taken up to T's end, where all that end later begin later
  pub leftmost-stays : (m : Match) (e end : ℕ) → start ≤ e → e ≤ end → taken anywhere false stands (text start e) ≡ some m
      → ((j : ℕ) → e < j → j ≤ end → LaterStart m.place (to_place stands start j)) → taken anywhere false stands (text start end) ≡ some m
  leftmost-stays m e zero le h q f = let d : e ≡ zero = omega arith in rw d at q
  leftmost-stays m e (suc end) le h q f = go (eq-or-lt_of_le h) (λ k. leftmost-stays m e end le k q (λ j l r. f j l (omega arith)))
    where
      go : (e ≡ suc end) ⊎ (e < suc end) → (e ≤ end → taken anywhere false stands (text start end) ≡ some m)
          → taken anywhere false stands (text start (suc end)) ≡ some m
      go (inl k) r = rw k at q
      go (inr k) r =
          leftmost-further end (omega arith) ∙ ap (λ o. better_of o (to_place stands start (suc end))) (r (omega arith))
          ∙ better-stays m (to_place stands start (suc end)) (f (suc end) (omega arith) (omega arith))

  -- ---- what ends at a place

  there : (e j m : ℕ) → j + m ≡ e → T (stands j m) → T (stands j (e - j))
  there e j m q t = let d : m ≡ e - j = omega arith in rw d at t

  pub to_none : (e : ℕ) → start ≤ e → ((j : ℕ) → start ≤ j → j ≤ e → T (stands j (e - j)) → ⊥) → to_place stands start e ≡ none
  unfolding IsTaken FirstOf Allows taken
  to_none e le f =
      taken-is-what at_end false stands start e none le (λ j m c. f j c.0.0 (omega (arith, c.0.1)) (there e j m c.0.1 c.1))

  pub to_some : (e k : ℕ) → start ≤ k → k ≤ e → T (stands k (e - k)) → ((j : ℕ) → start ≤ j → j < k → T (stands j (e - j)) → ⊥)
      → to_place stands start e ≡ some (matched k (e - k))
  unfolding IsTaken FirstOf Allows Before looks_right taken
  to_some e k le h t f =
      taken-is-what at_end false stands start e (some (matched k (e - k))) (omega arith)
      (((le, omega arith), t), λ j m c. (omega (arith, c.0.1), λ q. go j m c.0.0 c.0.1 c.1 (dec_lt j k)))
    where
      go : (j m : ℕ) → start ≤ j → j + m ≡ e → T (stands j m) → Dec (j < k) → k ≤ j
      go j m l q u (yes d) = absurd (f j l d (there e j m q u))
      go j m l q u (no d) = omega arith
