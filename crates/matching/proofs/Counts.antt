-- Laws of counted occurrences, from the left and from the right. Assumes nothing.
use Rattle.std.specs.Prelude.{Some, None}
use mathlib.Core.Path.{◌≡◌, refl, ◌∙◌}
use mathlib.Core.Bool.{Bool, true, false}
use mathlib.Core.Option.{Option, none, some}
use Prim.Native.Nat.{ℕ, zero, suc, ◌+◌, ◌-◌, ◌≤◌, ◌<◌, max}
use native.Mathlib.Nat.{zero-sub, suc-sub-suc, sub-zero, add-zero, add-suc, suc-add}
use native.Mathlib.Omega.{arith}
use Rattle.definitions.specs.Matching.{text, places, place_from, occurrence, located, only_at, counted, with_width}
use Rattle.taking.specs.Ways.{found-at, found_of}

module _ (st : ℕ → Bool) (w : ℕ) where
  pub no_place : (k n j : ℕ) → occurrence st w k n 0 j ≡ none
  unfolding occurrence
  no_place k n j = refl

  pub found_here : (left j : ℕ) → st j ≡ true → occurrence st w 0 0 (suc left) j ≡ some j
  unfolding occurrence
  found_here left j e = rw (e, occurrence)

  pub not-here : (k left j : ℕ) → st j ≡ false → occurrence st w k 0 (suc left) j ≡ occurrence st w k 0 left (suc j)
  unfolding occurrence
  not-here zero left j e = rw (e, occurrence)
  not-here (suc k) left j e = rw (e, occurrence)

  -- the places that belong to the last one counted
  taken : (k n left j : ℕ) → occurrence st w k n left j ≡ occurrence st w k 0 (left - n) (j + n)
  unfolding occurrence
  taken k zero left j = rw (sub-zero, add-zero)
  taken zero (suc n) zero j = rw zero-sub
  taken (suc k) (suc n) zero j = rw zero-sub
  taken zero (suc n) (suc left) j = rw (suc-sub-suc, add-suc, ← suc-add) (taken zero n left (suc j))
  taken (suc k) (suc n) (suc left) j = rw (suc-sub-suc, add-suc, ← suc-add) (taken (suc k) n left (suc j))

  counted-here : (k left j : ℕ) → st j ≡ true → occurrence st w (suc k) 0 (suc left) j ≡ occurrence st w k (w - 1) left (suc j)
  unfolding occurrence
  counted-here k left j e = rw (e, occurrence)

-- the search from the place numbered j on, `left` more behind it, k counted as in the qualifiers
abbrev pub from : (ℕ → ℕ) → (ℕ → Bool) → ℕ → ℕ → ℕ → ℕ → Option ℕ
from place st w k left j = located place (occurrence (λ n. st (place n)) w (k - 1) 0 (suc left) j)

module _ (place : ℕ → ℕ) (st : ℕ → Bool) (w k left j i : ℕ) (here : place j ≡ i) where
  pub found : k ≤ 1 → st i ≡ true → some i ≡ from place st w k left j
  unfolding located
  found h e =
      let first : k - 1 ≡ 0 = omega arith in
      rw (first, found_here (λ n. st (place n)) w left j (rw here e), here)

  pub skipped : st i ≡ false → (left' j' : ℕ) → left ≡ suc left' → j' ≡ suc j → from place st w k left j ≡ from place st w k left' j'
  skipped e left' j' a b = rw (a, b, not-here (λ n. st (place n)) w (k - 1) (suc left') j (rw here e))

  pub missed : st i ≡ false → left ≡ 0 → from place st w k left j ≡ none
  unfolding located
  missed e a = rw (a, not-here (λ n. st (place n)) w (k - 1) 0 j (rw here e), no_place (λ n. st (place n)) w (k - 1) 0 (suc j))

  module _ (more : 1 < k) (e : st i ≡ true) where
    jumped : (k' k'' : ℕ) → k' ≡ suc k'' → occurrence (λ n. st (place n)) w k' 0 (suc left) j ≡ occurrence (λ n. st (place n)) w k'' 0 (left - (w - 1)) (suc j + (w - 1))
    jumped k' k'' one = rw one (counted-here (λ n. st (place n)) w k'' left j (rw here e) ∙ taken (λ n. st (place n)) w k'' (w - 1) left (suc j))

    pub next : (left' j' : ℕ) → left ≡ left' + max 1 w → j' ≡ j + max 1 w → from place st w k left j ≡ from place st w (k - 1) left' j'
    next left' j' a b =
        let c : left - (w - 1) ≡ suc left' = omega arith in
        let d : suc j + (w - 1) ≡ j' = omega arith in
        rw (jumped (k - 1) (k - 1 - 1) (omega arith), c, d)

    pub too_few : left < max 1 w → from place st w k left j ≡ none
    unfolding located
    too_few a =
        let c : left - (w - 1) ≡ 0 = omega arith in
        rw (jumped (k - 1) (k - 1 - 1) (omega arith), c, no_place (λ n. st (place n)) w (k - 1 - 1) 0 (suc j + (w - 1)))

module _ (t : Bool) (i w : ℕ) where
  pub only_here : t ≡ true → found_of (Some (found-at i w)) ≡ with_width w (only_at t i)
  unfolding found_of with_width only_at
  only_here e = rw e

  pub not-only : t ≡ false → found_of None ≡ with_width w (only_at t i)
  unfolding found_of with_width only_at
  not-only e = rw e

-- how a counted search begins: at the leftmost place, or at the rightmost
module _ (st : ℕ → Bool) (w k start end top : ℕ) (fits : start + w ≤ end) (at : top ≡ end - w) where
  pub from_start : counted st w k false (text start end) ≡ from (λ j. start + j) st w k (top - start) 0
  unfolding counted places place_from
  from_start =
      let n : suc (end - start) - w ≡ suc (top - start) = omega arith in
      rw n

  pub from_end : counted st w k true (text start end) ≡ from (λ j. top - j) st w k (top - start) 0
  unfolding counted places place_from
  from_end =
      let n : suc (end - start) - w ≡ suc (end - w - start) = omega arith in
      rw (at, n)
