-- The two scans, one law for each way of a turn: from the left, where places are passed by the first byte, and from the right. Assumes nothing.
use Rattle.std.specs.Prelude.{Some, None}
use mathlib.Core.Path.{◌≡◌, refl, sym, ap, ◌∙◌}
use mathlib.Core.Bool.{Bool, true, false}
use mathlib.Core.List.{List}
use Prim.Native.Nat.{ℕ, ◌+◌, ◌-◌, ◌≤◌, ◌<◌, max}
use native.Mathlib.Omega.{arith}
use lib.ListN.{length, drop}
use Rattle.definitions.specs.Matching.{text, stands_at, counted, with_width}
use Rattle.taking.specs.Ways.{found-at, found_of}
use Rattle.matching.specs.Scan.{other_places}
use Rattle.matching.proofs.Counts.{from, from_start, from_end, found, skipped, missed, next, too_few}
use Rattle.matching.proofs.Passing.{goes_on, stays}

-- at place i of a scan from the left, up to `top`, with k to count: the whole search comes to what is left of it
pub record LeftTurn (isWord : ℕ → Bool) (w u : Bool) (s l : List ℕ) (start end count k i : ℕ) : Type 0 where
  pub lo : start ≤ i
  pub hi : i ≤ end - length s
  pub the_same : counted (stands_at isWord w u s l) (length s) count false (text start end)
      ≡ from (λ j. start + j) (stands_at isWord w u s l) (length s) k (end - length s - i) (i - start)

-- the same for a scan from the right
pub record RightTurn (isWord : ℕ → Bool) (w u : Bool) (s l : List ℕ) (start end count k i : ℕ) : Type 0 where
  pub lo : start ≤ i
  pub hi : i ≤ end - length s
  pub the_same : counted (stands_at isWord w u s l) (length s) count true (text start end)
      ≡ from (λ j. end - length s - j) (stands_at isWord w u s l) (length s) k (i - start) (end - length s - i)

module _ (isWord : ℕ → Bool) (w u : Bool) (s l : List ℕ) (start end count : ℕ) where
  module _ (fits : start + length s ≤ end) where
    pub left-begins : LeftTurn isWord w u s l start end count count start
    left-begins =
        let none : start - start ≡ 0 = omega arith in
        record { lo = omega arith; hi = omega arith; the_same = rw none (from_start (stands_at isWord w u s l) (length s) count start end (end - length s) fits refl) }

    pub right-begins : RightTurn isWord w u s l start end count count (end - length s)
    right-begins =
        let none : end - length s - (end - length s) ≡ 0 = omega arith in
        record { lo = omega arith; hi = omega arith; the_same = rw none (from_end (stands_at isWord w u s l) (length s) count start end (end - length s) fits refl) }

  -- the first byte stands next at r
  module _ (k i r : ℕ) (turn : LeftTurn isWord w u s l start end count k i) (is : r ≡ i + other_places u s (end - length s - i) (drop i l)) where
    pub left-reached : (i ≤ r) × (r ≤ end - length s)
    left-reached = stays isWord w u s l start (end - length s) i r (length s) k turn.lo turn.hi is

    pub left-inside : start + length s ≤ end → r + length s ≤ end
    left-inside fits = omega (arith, left-reached)

    here : start + (r - start) ≡ r
    here = omega (arith, left-reached, turn.lo)

    on : counted (stands_at isWord w u s l) (length s) count false (text start end) ≡ from (λ j. start + j) (stands_at isWord w u s l) (length s) k (end - length s - r) (r - start)
    on = turn.the_same ∙ goes_on isWord w u s l start (end - length s) i r (length s) k turn.lo turn.hi is

    pub left-found : k ≤ 1 → stands_at isWord w u s l r ≡ true → found_of (Some (found-at r (length s))) ≡ with_width (length s) (counted (stands_at isWord w u s l) (length s) count false (text start end))
    unfolding found_of with_width
    left-found h e = ap (with_width (length s)) (found (λ j. start + j) (stands_at isWord w u s l) (length s) k (end - length s - r) (r - start) r here h e ∙ sym on)

    module _ (e : stands_at isWord w u s l r ≡ false) where
      pub left-missed : r ≡ end - length s → found_of None ≡ with_width (length s) (counted (stands_at isWord w u s l) (length s) count false (text start end))
      unfolding found_of with_width
      left-missed h = ap (with_width (length s)) (sym (on ∙ missed (λ j. start + j) (stands_at isWord w u s l) (length s) k (end - length s - r) (r - start) r here e (omega arith)))

      module _ (h : r ≡ end - length s → ⊥) where
        pub left-skipped : LeftTurn isWord w u s l start end count k (r + 1)
        left-skipped = record {
          lo = omega (arith, left-reached, turn.lo);
          hi = omega (arith, left-reached);
          the_same = on ∙ skipped (λ j. start + j) (stands_at isWord w u s l) (length s) k (end - length s - r) (r - start) r here e (end - length s - (r + 1)) (r + 1 - start)
              (omega (arith, left-reached)) (omega (arith, left-reached, turn.lo));
        }

        pub left-skip-falls : end - length s - (r + 1) < end - length s - i
        left-skip-falls = omega (arith, left-reached)

    module _ (more : 1 < k) (e : stands_at isWord w u s l r ≡ true) (step : ℕ) (is-step : step ≡ max 1 (length s)) where
      pub left-too-few : end - length s - r < step → found_of None ≡ with_width (length s) (counted (stands_at isWord w u s l) (length s) count false (text start end))
      unfolding found_of with_width
      left-too-few h = ap (with_width (length s)) (sym (on ∙ too_few (λ j. start + j) (stands_at isWord w u s l) (length s) k (end - length s - r) (r - start) r here more e (omega arith)))

      module _ (h : step ≤ end - length s - r) where
        pub left-next : LeftTurn isWord w u s l start end count (k - 1) (r + step)
        left-next = record {
          lo = omega (arith, left-reached, turn.lo);
          hi = omega (arith, left-reached);
          the_same = on ∙ next (λ j. start + j) (stands_at isWord w u s l) (length s) k (end - length s - r) (r - start) r here more e (end - length s - (r + step)) (r + step - start)
              (omega (arith, left-reached)) (omega (arith, left-reached, turn.lo));
        }

  module _ (k i : ℕ) (turn : RightTurn isWord w u s l start end count k i) where
    back : end - length s - (end - length s - i) ≡ i
    back = omega (arith, turn.hi)

    pub right-inside : start + length s ≤ end → i + length s ≤ end
    right-inside fits = omega (arith, turn.hi)

    pub right-found : k ≤ 1 → stands_at isWord w u s l i ≡ true → found_of (Some (found-at i (length s))) ≡ with_width (length s) (counted (stands_at isWord w u s l) (length s) count true (text start end))
    unfolding found_of with_width
    right-found h e = ap (with_width (length s)) (found (λ j. end - length s - j) (stands_at isWord w u s l) (length s) k (i - start) (end - length s - i) i back h e ∙ sym turn.the_same)

    module _ (e : stands_at isWord w u s l i ≡ false) where
      pub right-missed : i ≡ start → found_of None ≡ with_width (length s) (counted (stands_at isWord w u s l) (length s) count true (text start end))
      unfolding found_of with_width
      right-missed h =
          ap (with_width (length s)) (sym (turn.the_same ∙ missed (λ j. end - length s - j) (stands_at isWord w u s l) (length s) k (i - start) (end - length s - i) i back e (omega arith)))

      module _ (h : i ≡ start → ⊥) where
        pub right-skipped : RightTurn isWord w u s l start end count k (i - 1)
        right-skipped = record {
          lo = omega (arith, turn.lo);
          hi = omega (arith, turn.hi);
          the_same = turn.the_same ∙ skipped (λ j. end - length s - j) (stands_at isWord w u s l) (length s) k (i - start) (end - length s - i) i back e (i - 1 - start) (end - length s - (i - 1))
              (omega (arith, turn.lo)) (omega (arith, turn.lo, turn.hi));
        }

        pub right-skip-falls : i - 1 - start < i - start
        right-skip-falls = omega (arith, turn.lo)

    module _ (more : 1 < k) (e : stands_at isWord w u s l i ≡ true) (step : ℕ) (is-step : step ≡ max 1 (length s)) where
      pub right-too-few : i - start < step → found_of None ≡ with_width (length s) (counted (stands_at isWord w u s l) (length s) count true (text start end))
      unfolding found_of with_width
      right-too-few h =
          ap (with_width (length s)) (sym (turn.the_same ∙ too_few (λ j. end - length s - j) (stands_at isWord w u s l) (length s) k (i - start) (end - length s - i) i back more e (omega arith)))

      module _ (h : step ≤ i - start) where
        pub right-next : RightTurn isWord w u s l start end count (k - 1) (i - step)
        right-next = record {
          lo = omega (arith, turn.lo);
          hi = omega (arith, turn.hi);
          the_same = turn.the_same ∙ next (λ j. end - length s - j) (stands_at isWord w u s l) (length s) k (i - start) (end - length s - i) i back more e (i - step - start) (end - length s - (i - step))
              (omega (arith, turn.lo)) (omega (arith, turn.lo, turn.hi));
        }

        pub right-next-falls : i - step - start < i - start
        right-next-falls = omega (arith, turn.lo)
