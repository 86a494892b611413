-- Laws of runs of bytes that pass a test. Assumes nothing.
use mathlib.Core.Path.{◌≡◌, sym, refl, ap, ◌∙◌}
use mathlib.Core.Bool.{Bool, true, false, ◌&&◌, and-true}
use mathlib.Core.List.{List, [], ◌∷◌}
use Prim.Native.Nat.{ℕ, zero, suc, ◌+◌, ◌-◌, ◌≤◌, ◌<◌}
use native.Mathlib.Nat.{not-suc-le-zero, add-zero}
use native.Mathlib.Numerals.{add-one}
use native.Mathlib.Omega.{arith}
use lib.ListN.{length, take, drop, get_or, length-drop}
use lib.Seq.{drop-cons, get_or-drop, get_or-take, length-take-le}
use Rattle.std.specs.List.{fold}
use Rattle.text.specs.Lines.{part}
use lib.Dec.{eqb, eqb-zero-suc, eqb-suc-suc}
use borrow.Author.Tests.{eqb-true}
use Rattle.scans.specs.Leading.{leading}

module _ (test : ℕ → Bool) where
  -- ---- the first byte passes, or not

  pub leading-here : (n b : ℕ) (bs : List ℕ) → test b ≡ false → leading test n (b ∷ bs) ≡ 0
  unfolding leading
  leading-here zero b bs e = refl
  leading-here (suc n) b bs e = rw (e, leading)

  pub leading-later : (n b : ℕ) (bs : List ℕ) → test b ≡ true → leading test (suc n) (b ∷ bs) ≡ suc (leading test n bs)
  unfolding leading
  leading-later n b bs e = rw (e, leading)

  pub leading-most : (n : ℕ) (bs : List ℕ) → leading test n bs ≤ n
  unfolding leading
  leading-most zero bs = omega arith
  leading-most (suc n) [] = omega arith
  leading-most (suc n) (b ∷ bs) = go (test b) (leading-most n bs)
    where
      go : (t : Bool) → leading test n bs ≤ n → elim t [ true ↦ suc (leading test n bs) | false ↦ 0 ] ≤ suc n
      go true h = omega arith
      go false h = omega arith

  -- ---- the run from place i on, at most to `end`

  abbrev pub reach : List ℕ → ℕ → ℕ → ℕ
  reach s i end = i + leading test (end - i) (drop i s)

  pub reach-end : (s : List ℕ) (i end : ℕ) → end ≤ i → reach s i end ≡ i
  unfolding leading
  reach-end s i end h =
      let n : end - i ≡ 0 = omega arith in
      rw n (omega arith)

  module _ (s : List ℕ) (i end : ℕ) (more : i < end) (fits : end ≤ length s) where
    pub reach-stop : test (get_or s i 0) ≡ false → reach s i end ≡ i
    reach-stop e =
        let h : i < length s = omega arith in
        rw (drop-cons s i 0 h) (omega (arith, leading-here (end - i) (get_or s i 0) (drop (suc i) s) e))

    pub reach-on : test (get_or s i 0) ≡ true → reach s i end ≡ reach s (i + 1) end
    reach-on e =
        let h : i < length s = omega arith in
        let n : end - i ≡ suc (end - (i + 1)) = omega arith in
        rw (n, drop-cons s i 0 h, leading-later (end - (i + 1)) (get_or s i 0) (drop (suc i) s) e, add-one i) (omega arith)

  -- ---- the byte where the run ends

  leading-stops : (n : ℕ) (bs : List ℕ) → leading test n bs < n → leading test n bs < length bs → test (get_or bs (leading test n bs) 0) ≡ false
  unfolding leading
  leading-stops zero bs h k = absurd (not-suc-le-zero h)
  leading-stops (suc n) [] h k = absurd (not-suc-le-zero k)
  leading-stops (suc n) (b ∷ bs) h k = go (test b) refl (leading-stops n bs) h k
    where
      go : (t : Bool) → test b ≡ t → (leading test n bs < n → leading test n bs < length bs → test (get_or bs (leading test n bs) 0) ≡ false)
          → elim t [ true ↦ suc (leading test n bs) | false ↦ 0 ] < suc n → elim t [ true ↦ suc (leading test n bs) | false ↦ 0 ] < suc (length bs)
          → test (get_or (b ∷ bs) (elim t [ true ↦ suc (leading test n bs) | false ↦ 0 ]) 0) ≡ false
      go true e ih h k = ih (omega arith) (omega arith)
      go false e ih h k = e

  pub reach-fails : (s : List ℕ) (at end r : ℕ) → end ≤ length s → r ≡ reach s at end → r < end → test (get_or s r 0) ≡ false
  reach-fails s at end r fits e h =
      let k : leading test (end - at) (drop at s) < length (drop at s) = simp length-drop (omega arith) in
      rw (e, ← get_or-drop at s (leading test (end - at) (drop at s)) 0) (leading-stops (end - at) (drop at s) (omega arith) k)

  -- ---- bytes that are looked at together

  -- whether all of the first n pass
  abbrev pub all_pass : ℕ → List ℕ → Bool
  all_pass n bs = eqb (leading test n bs) n

  pub pass-fold : (bs : List ℕ) (t : Bool) → fold (λ all b. all && test b) t bs ≡ (t && all_pass (length bs) bs)
  unfolding leading
  pass-fold [] t = sym (and-true t)
  pass-fold (b ∷ bs) t = pass-fold bs (t && test b) ∙ go t (test b)
    where
      go : (t u : Bool) → ((t && u) && all_pass (length bs) bs) ≡ (t && eqb (elim u [ true ↦ suc (leading test (length bs) bs) | false ↦ 0 ]) (suc (length bs)))
      go false u = refl
      go true true = sym (eqb-suc-suc (leading test (length bs) bs) (length bs))
      go true false = sym (eqb-zero-suc (length bs))

  leading-take : (n : ℕ) (bs : List ℕ) → leading test n (take n bs) ≡ leading test n bs
  unfolding leading
  leading-take zero bs = refl
  leading-take (suc n) [] = refl
  leading-take (suc n) (b ∷ bs) = ap (λ (k : ℕ). elim (test b) [ true ↦ suc k | false ↦ 0 ]) (leading-take n bs)

  -- n bytes of a slice
  pub pass-part : (s : List ℕ) (from n : ℕ) → from + n ≤ length s → all_pass (length (part from (from + n) s)) (part from (from + n) s) ≡ all_pass n (drop from s)
  pass-part s from n h =
      let wide : from + n - from ≡ n = omega arith in
      let long : length (take n (drop from s)) ≡ n = length-take-le n (drop from s) (simp length-drop (omega arith)) in
      rw (wide, long, leading-take n (drop from s))

  passes-before : (n : ℕ) (bs : List ℕ) (k : ℕ) → k < leading test n bs → test (get_or bs k 0) ≡ true
  unfolding leading
  passes-before zero bs k h = absurd (not-suc-le-zero h)
  passes-before (suc n) [] k h = absurd (not-suc-le-zero h)
  passes-before (suc n) (b ∷ bs) k h = go (test b) refl k (passes-before n bs) h
    where
      go : (t : Bool) → test b ≡ t → (k : ℕ) → ((k : ℕ) → k < leading test n bs → test (get_or bs k 0) ≡ true)
          → k < elim t [ true ↦ suc (leading test n bs) | false ↦ 0 ] → test (get_or (b ∷ bs) k 0) ≡ true
      go true e zero ih h = e
      go true e (suc k) ih h = ih k (omega arith)
      go false e k ih h = absurd (not-suc-le-zero h)

  -- from place i over d bytes that pass
  pass-each : (s : List ℕ) (end : ℕ) → end ≤ length s → (d i : ℕ) → i + d ≤ end → ((k : ℕ) → i ≤ k → k < i + d → test (get_or s k 0) ≡ true) → reach s i end ≡ reach s (i + d) end
  pass-each s end fits zero i h each = rw (add-zero i)
  pass-each s end fits (suc d) i h each =
      let here = reach-on s i end (omega arith) fits (each i (omega arith) (omega arith)) in
      let rest = pass-each s end fits d (i + 1) (omega arith) (λ k low high. each k (omega arith) (omega arith)) in
      let place : i + suc d ≡ (i + 1) + d = omega arith in
      rw (here, rest, place)

  -- the first i bytes of a part pass, and no byte follows, or one that does not
  module _ (s : List ℕ) (at end : ℕ) (low : at ≤ end) (fits : end ≤ length s) where
    part-byte : (k : ℕ) → k < end - at → get_or (part at end s) k 0 ≡ get_or s (at + k) 0
    part-byte k h = get_or-take (end - at) (drop at s) k 0 h ∙ get_or-drop at s k 0

    pub reach-over-part : (i : ℕ) → i ≤ end - at → ((k : ℕ) → k < i → test (get_or (part at end s) k 0) ≡ true) → reach s at end ≡ reach s (at + i) end
    reach-over-part i most all =
        pass-each s end fits i at (omega arith)
        (λ k above below. let place : at + (k - at) ≡ k = omega arith in rw (part-byte (k - at) (omega arith), place) at (all (k - at) (omega arith)))

    pub reach-at : (i : ℕ) → i < end - at → test (get_or (part at end s) i 0) ≡ false → ((k : ℕ) → k < i → test (get_or (part at end s) k 0) ≡ true) → at + i ≡ reach s at end
    reach-at i more stop all =
        sym (reach-over-part i (omega arith) all ∙ reach-stop s (at + i) end (omega arith) fits (rw (part-byte i more) at stop))

    pub reach-all : ((k : ℕ) → k < end - at → test (get_or (part at end s) k 0) ≡ true) → end ≡ reach s at end
    reach-all all =
        let place : at + (end - at) ≡ end = omega arith in
        sym (rw place at (reach-over-part (end - at) (omega arith) all) ∙ reach-end s end end (omega arith))

  module _ (s : List ℕ) (from : ℕ) where
    -- each of n bytes that all pass
    pass-among : (n : ℕ) → all_pass n (drop from s) ≡ true → (k : ℕ) → from ≤ k → k < from + n → test (get_or s k 0) ≡ true
    pass-among n all k low high =
        let whole = eqb-true (leading test n (drop from s)) n all in
        let place : from + (k - from) ≡ k = omega arith in
        rw place at (rw (get_or-drop from s (k - from) 0) at (passes-before n (drop from s) (k - from) (omega arith)))

    -- from a place among them, or after them, to the place after them
    pub reach-over : (n i end : ℕ) → end ≤ length s → all_pass n (drop from s) ≡ true → from ≤ i → i ≤ from + n → from + n ≤ end → reach s i end ≡ reach s (from + n) end
    reach-over n i end fits all low high most =
        let place : i + (from + n - i) ≡ from + n = omega arith in
        rw place at (pass-each s end fits (from + n - i) i (omega arith) (λ k above below. pass-among n all k (omega arith) (omega arith)))
