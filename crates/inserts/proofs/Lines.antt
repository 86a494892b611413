-- The laws of the script's lines from a place on. Assumes nothing.
use mathlib.Core.Path.{◌≡◌, refl, ap, ◌∙◌}
use mathlib.Core.Bool.{Bool, true, false, cond}
use mathlib.Core.List.{List, [], ◌∷◌}
use Prim.Native.Nat.{ℕ, suc, ◌+◌, ◌-◌, ◌≤◌, ◌<◌}
use native.Mathlib.Omega.{arith}
use lib.ListN.{length, take, drop, get_or, length-drop}
use lib.Seq.{drop-cons, length-take-le, take-take, drop-drop}
use lib.Dec.{eqb}
use borrow.Author.Tests.{eq-eqb, ne_eqb}
use Rattle.definitions.specs.Bytes.{lines_of, before}
use Rattle.text.proofs.Parts.{drop-take}
use Rattle.items.specs.Words.{part_of}
use Rattle.inserts.specs.Lines.{feed_place}

-- ---- bytes

feed-hit : (b : ℕ) (bs : List ℕ) → eqb b 10 ≡ true → feed_place (b ∷ bs) ≡ 0
unfolding feed_place
feed-hit b bs e = rw e

feed-miss : (b : ℕ) (bs : List ℕ) → eqb b 10 ≡ false → feed_place (b ∷ bs) ≡ suc (feed_place bs)
unfolding feed_place
feed-miss b bs e = rw e

-- the first line, and the lines after its LF, where the bytes after the first one are known
feed-by : (b : ℕ) (bs : List ℕ) → before b (lines_of bs) ≡ (b ∷ take (feed_place bs) bs) ∷ lines_of (drop (suc (feed_place bs)) bs)
    → lines_of (b ∷ bs) ≡ take (feed_place (b ∷ bs)) (b ∷ bs) ∷ lines_of (drop (suc (feed_place (b ∷ bs))) (b ∷ bs))
unfolding lines_of
feed-by b bs m = go (eqb b 10) refl
  where
    go : (t : Bool) → eqb b 10 ≡ t → lines_of (b ∷ bs) ≡ take (feed_place (b ∷ bs)) (b ∷ bs) ∷ lines_of (drop (suc (feed_place (b ∷ bs))) (b ∷ bs))
    go true e = rw (feed-hit b bs e) (rw (e, lines_of))
    go false e = rw (feed-miss b bs e) (rw (e, lines_of) m)

-- the first line, and the lines after its LF
pub feed-lines : (b : ℕ) (bs : List ℕ)
    → lines_of (b ∷ bs) ≡ take (feed_place (b ∷ bs)) (b ∷ bs) ∷ lines_of (drop (suc (feed_place (b ∷ bs))) (b ∷ bs))
unfolding lines_of before feed_place
feed-lines b [] = feed-by b [] refl
feed-lines b (c ∷ bs) = feed-by b (c ∷ bs) (ap (before b) (feed-lines c bs))

pub feed-fits : (bs : List ℕ) → feed_place bs ≤ length bs
unfolding feed_place
feed-fits [] = omega arith
feed-fits (b ∷ bs) = go (eqb b 10) (feed-fits bs)
  where
    go : (t : Bool) → feed_place bs ≤ length bs → cond t 0 (suc (feed_place bs)) ≤ suc (length bs)
    go true h = omega arith
    go false h = omega arith

-- ---- the script's bytes from a place up to another

-- no bytes
part_none : (s : List ℕ) (at end : ℕ) → end ≤ at → part_of s at end ≡ []
unfolding part_of
part_none s at end h = let z : end - at ≡ 0 = omega arith in rw z

-- a first byte
part-cons : (s : List ℕ) (at end : ℕ) → at < end → end ≤ length s → part_of s at end ≡ get_or s at 0 ∷ part_of s (suc at) end
unfolding part_of
part-cons s at end h k =
    let z : end - at ≡ suc (end - suc at) = omega arith in
    rw (z, drop-cons s at 0 (omega arith))

pub part_length : (s : List ℕ) (at end : ℕ) → end ≤ length s → length (part_of s at end) ≡ end - at
unfolding part_of
part_length s at end h = length-take-le (end - at) (drop at s) (simp length-drop (omega arith))

-- the first k bytes, and the bytes after them
take_part : (s : List ℕ) (at end k : ℕ) → k ≤ end - at → take k (part_of s at end) ≡ part_of s at (at + k)
unfolding part_of
take_part s at end k h = let z : at + k - at ≡ k = omega arith in rw z (take-take k (end - at) (drop at s) h)

drop-part : (s : List ℕ) (at end k : ℕ) → drop k (part_of s at end) ≡ part_of s (at + k) end
unfolding part_of
drop-part s at end k =
    let z : end - at - k ≡ end - (at + k) = omega arith in
    drop-take k (end - at) (drop at s) ∙ rw (z, drop-drop k at s)

-- ---- the end of a line, byte by byte

module _ (s : List ℕ) (i end : ℕ) where
  pub end_none : end ≤ i → i + feed_place (part_of s i end) ≡ i
  unfolding feed_place
  end_none h = rw (part_none s i end h) (omega arith)

  module _ (more : i < end) (inside : end ≤ length s) where
    pub end-hit : get_or s i 0 ≡ 10 → i + feed_place (part_of s i end) ≡ i
    end-hit e = rw (part-cons s i end more inside, feed-hit (get_or s i 0) (part_of s (suc i) end) (eq-eqb (get_or s i 0) 10 e)) (omega arith)

    pub end-miss : (get_or s i 0 ≡ 10 → ⊥) → i + feed_place (part_of s i end) ≡ (i + 1) + feed_place (part_of s (i + 1) end)
    end-miss e =
        let q : i + 1 ≡ suc i = omega arith in
        rw (q, part-cons s i end more inside, feed-miss (get_or s i 0) (part_of s (suc i) end) (ne_eqb (get_or s i 0) 10 e)) (omega arith)

-- ---- the line from a place on, and the lines after it

module _ (s : List ℕ) (at end : ℕ) (inside : end ≤ length s) where
  -- where the first line ends
  abbrev stop : ℕ
  stop = at + feed_place (part_of s at end)

  pub stop-inside : at ≤ end → stop ≤ end
  stop-inside h = omega (arith, feed-fits (part_of s at end), part_length s at end inside)

  -- no lines
  pub lines_none : end ≤ at → lines_of (part_of s at end) ≡ []
  unfolding lines_of
  lines_none h = rw (part_none s at end h)

  -- the first line, and the lines after it
  pub lines-first : at < end → lines_of (part_of s at end) ≡ part_of s at stop ∷ lines_of (part_of s (stop + 1) end)
  lines-first h =
      let f : ℕ = feed_place (part_of s at end) in
      let fits : f ≤ end - at = omega (arith, feed-fits (part_of s at end), part_length s at end inside) in
      let next : at + suc f ≡ stop + 1 = omega arith in
      split (part-cons s at end h inside)
      ∙ ap (λ (l : List ℕ). l ∷ lines_of (drop (suc f) (part_of s at end))) (take_part s at end f fits)
      ∙ ap (λ (l : List ℕ). part_of s at stop ∷ lines_of l) (drop-part s at end (suc f) ∙ ap (λ (n : ℕ). part_of s n end) next)
    where
      split : {b : ℕ} {bs l : List ℕ} → l ≡ b ∷ bs → lines_of l ≡ take (feed_place l) l ∷ lines_of (drop (suc (feed_place l)) l)
      split {b} {bs} {l} q = rw q (feed-lines b bs)
