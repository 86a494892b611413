-- The laws of looking for a line with a wanted first byte from a place of a slice on: by lines, by pairs of bytes, and over many bytes at once. Assumes nothing.
use mathlib.Core.Path.{◌≡◌, refl, ap, ◌∙◌}
use mathlib.Core.Bool.{Bool, true, false, cond, ◌&&◌, ◌||◌}
use mathlib.Core.List.{List, [], ◌∷◌}
use Prim.Native.Nat.{ℕ, zero, suc, ◌+◌, ◌-◌, ◌≤◌, ◌<◌}
use native.Mathlib.Nat.{not-suc-le-zero, add-zero}
use native.Mathlib.Numerals.{add-one}
use native.Mathlib.Omega.{arith}
use lib.ListN.{length, drop, get_or, length-drop, drop_of_length-le}
use lib.Seq.{drop-cons, drop-drop, get_or-drop}
use lib.Dec.{eqb, leb, leb-zero, leb-suc-zero, leb-suc-suc}
use borrow.Author.Tests.{leb-false, lt-leb}
use Rattle.text.specs.Feeds.{line_length}
use Rattle.text.proofs.LineFeeds.{line-some, line-fits}
use Rattle.rows.specs.Rows.{line_where}
use Rattle.rows.proofs.Laws.{where-none, where-here, where-most, where-other, in-line}

module _ (wanted : ℕ → Bool) where
  -- ---- by lines

  -- the place of the next wanted line from place i on
  abbrev pub next_from : Bool → List ℕ → ℕ → ℕ
  next_from start s i = i + line_where wanted start (drop i s)

  module _ (s : List ℕ) (i : ℕ) where
    pub next_fits : (start : Bool) (r : ℕ) → i ≤ length s → r ≡ next_from start s i → r ≤ length s
    next_fits start r h e = let most = simp length-drop at (where-most wanted start (drop i s)) in omega arith

    pub next-none : (start : Bool) → length s ≤ i → next_from start s i ≡ i
    next-none start h = rw (drop_of_length-le s {i = i} h, where-none wanted start) (add-zero i)

    pub next_here : i < length s → wanted (get_or s i 0) ≡ true → next_from true s i ≡ i
    next_here h e = rw (drop-cons s i 0 h, where-here wanted (get_or s i 0) (drop (suc i) s) e) (add-zero i)

    pub next-inside : i < length s → wanted (get_or s i 0) ≡ false → next_from true s i ≡ next_from false s i
    next-inside h e = rw (drop-cons s i 0 h) (ap (λ (k : ℕ). i + k) (where-other wanted (get_or s i 0) (drop (suc i) s) e))

    -- over a line without a wanted first byte, to the place after it
    pub next-line : i < length s → wanted (get_or s i 0) ≡ false → (after : ℕ) → after ≡ i + line_length (drop i s)
        → (i < after) × (after ≤ length s) × (next_from true s i ≡ next_from true s after)
    next-line h e after is =
        let some : 0 < line_length (drop i s) = line-some (drop i s) (simp length-drop (omega arith)) in
        let fits : line_length (drop i s) ≤ length s - i = simp length-drop at (line-fits (drop i s)) in
        let rest : line_where wanted false (drop i s) ≡ line_length (drop i s) + line_where wanted true (drop after s) =
        in-line wanted (drop i s) ∙ rw (drop-drop (line_length (drop i s)) i s, is) in
        (omega arith, omega arith, omega (arith, next-inside h e))

  -- ---- inside a line, by pairs of bytes

  -- a wanted line begins after the byte at place i
  abbrev pub begins : List ℕ → ℕ → Bool
  begins s i = eqb (get_or s i 0) 10 && wanted (get_or s (i + 1) 0)

  short : (l : List ℕ) → length l ≤ 1 → line_where wanted false l ≡ length l
  unfolding line_where
  short [] h = refl
  short (b ∷ []) h = refl
  short (b ∷ d ∷ l) h = absurd (omega arith)

  module _ (s : List ℕ) (i : ℕ) where
    pair : i + 1 < length s → line_where wanted false (drop i s) ≡ suc (cond (begins s i) 0 (line_where wanted false (drop (i + 1) s)))
    unfolding line_where
    pair h =
        let low : i < length s = omega arith in
        let high : suc i < length s = omega arith in
        rw (add-one i, drop-cons s i 0 low, drop-cons s (suc i) 0 high)

    pub pair-hit : i + 1 < length s → begins s i ≡ true → next_from false s i ≡ i + 1
    pair-hit h e = rw (pair h, e) (omega arith)

    pub pair-miss : i + 1 < length s → begins s i ≡ false → next_from false s i ≡ next_from false s (i + 1)
    pair-miss h e = rw (pair h, e) (omega arith)

    pub pair-none : i ≤ length s → length s ≤ i + 1 → next_from false s i ≡ length s
    pair-none h k =
        let few : length (drop i s) ≤ 1 = simp length-drop (omega arith) in
        let all = simp length-drop at (short (drop i s) few) in
        omega arith

  -- ---- many bytes at once

  -- a wanted line begins neither among the first n bytes nor right after them
  over : (start : Bool) (n : ℕ) (l : List ℕ) → n < line_where wanted start l → line_where wanted start l ≡ n + line_where wanted false (drop n l)
  unfolding line_where
  over start n [] h = absurd (not-suc-le-zero h)
  over start zero (b ∷ l) h = go (start && wanted b) (line_where wanted (eqb b 10) l) h
    where
      go : (t : Bool) (k : ℕ) → 0 < cond t 0 (suc k) → cond t 0 (suc k) ≡ 0 + suc k
      go true k h = absurd (not-suc-le-zero h)
      go false k h = omega arith
  over start (suc n) (b ∷ l) h = go (start && wanted b) (line_where wanted (eqb b 10) l) (line_where wanted false (drop n l)) (over (eqb b 10) n l) h
    where
      go : (t : Bool) (k r : ℕ) → (n < k → k ≡ n + r) → suc n < cond t 0 (suc k) → cond t 0 (suc k) ≡ suc n + r
      go true k r ih h = absurd (not-suc-le-zero h)
      go false k r ih h = let e = ih (omega arith) in omega arith

  -- whether a wanted line begins after one of the first n bytes
  abbrev pub among : ℕ → List ℕ → Bool
  among n l = leb (line_where wanted false l) n

  among-more : (n : ℕ) (l : List ℕ) → suc n < length l → among (suc n) l ≡ (among n l || (eqb (get_or l n 0) 10 && wanted (get_or l (suc n) 0)))
  unfolding line_where
  among-more n [] h = absurd (not-suc-le-zero h)
  among-more n (b ∷ []) h = absurd (omega arith)
  among-more zero (b ∷ d ∷ l) h = go (eqb b 10 && wanted d) (line_where wanted (eqb d 10) l)
    where
      go : (t : Bool) (k : ℕ) → leb (suc (cond t 0 (suc k))) 1 ≡ (leb (suc (cond t 0 (suc k))) 0 || t)
      go true k = refl
      go false k = rw (leb-suc-zero (suc k)) (lt-leb (suc (suc k)) 1 (omega arith))
  among-more (suc n) (b ∷ d ∷ l) h =
      go (eqb b 10 && wanted d) (line_where wanted false (d ∷ l)) (eqb (get_or (d ∷ l) n 0) 10 && wanted (get_or l n 0))
      (among-more n (d ∷ l) (omega arith))
    where
      go : (t : Bool) (k : ℕ) (u : Bool) → leb k (suc n) ≡ (leb k n || u) → leb (suc (cond t 0 k)) (suc (suc n)) ≡ (leb (suc (cond t 0 k)) (suc n) || u)
      go true k u ih = rw (leb-suc-suc 0 (suc n), leb-suc-suc 0 n, leb-zero (suc n), leb-zero n)
      go false k u ih = rw (leb-suc-suc k (suc n), leb-suc-suc k n) ih

  module _ (s : List ℕ) (at : ℕ) where
    pub among_none : at < length s → among 0 (drop at s) ≡ false
    unfolding line_where
    among_none h = rw (drop-cons s at 0 h) (leb-suc-zero (line_where wanted (eqb (get_or s at 0) 10) (drop (suc at) s)))

    pub among_next : (n : ℕ) → at + n + 1 < length s → among (n + 1) (drop at s) ≡ (among n (drop at s) || begins s (at + n))
    among_next n h =
        let inside : suc n < length (drop at s) = simp length-drop (omega arith) in
        let place : at + suc n ≡ at + n + 1 = omega arith in
        rw (get_or-drop at s n 0, get_or-drop at s (suc n) 0, place, ← add-one n) at (among-more n (drop at s) inside)

    -- over n bytes
    pub next-over : (n : ℕ) → among n (drop at s) ≡ false → next_from false s at ≡ next_from false s (at + n)
    next-over n none =
        let far = over false n (drop at s) (leb-false (line_where wanted false (drop at s)) n none) in
        omega (arith, ap (line_where wanted false) (drop-drop n at s))
