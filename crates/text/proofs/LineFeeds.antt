-- The laws of looking for a byte, and of walking bytes from line feed to line feed. Assumes nothing.
use Rattle.std.proofs.Common.{◌≡◌, ℕ, zero, suc, ◌+◌, ◌-◌, ◌<◌, ◌≤◌, Bool, true, false, cond, ◌||◌, eqb, List, [], ◌∷◌, ◌++◌, length, get_or, take, drop, sym, refl, ap, ◌∙◌, ⊎_elim, true≢false, not-suc-le-zero, add-zero, add-one, sub-one, arith, length-drop, drop_of_length-le, get_or-drop, get_or-take, take_all, drop-cons, take-suc, drop-drop, eq-eqb, ne_eqb}
use Rattle.std.proofs.Math.Bool.{or-false, or_assoc}
use Rattle.std.proofs.Math.Nat.{eq-or-lt_of_le}
use Rattle.std.specs.List.{fold}
use Rattle.definitions.specs.Bytes.{is_text}
use Rattle.text.specs.Words.{text_run}
use Rattle.text.specs.Feeds.{place_of, has_feed, line_length, line_start}
use Rattle.text.proofs.Texts.{run-within}
use Rattle.text.proofs.Ends.{text-low}
use Rattle.text.proofs.Parts.{drop-take}

-- ---- whether there is one

feed-append : (a : List ℕ) (b : ℕ) → has_feed (a ++ (b ∷ [])) ≡ (has_feed a || eqb b 10)
unfolding has_feed
feed-append [] b = or-false (eqb b 10)
feed-append (c ∷ a) b = go (eqb c 10) (feed-append a b)
  where
    go : (t : Bool) → has_feed (a ++ (b ∷ [])) ≡ (has_feed a || eqb b 10) → (t || has_feed (a ++ (b ∷ []))) ≡ ((t || has_feed a) || eqb b 10)
    go true h = refl
    go false h = h

pub feed-fold : (l : List ℕ) (t : Bool) → fold (λ found b. found || eqb b 10) t l ≡ (t || has_feed l)
unfolding has_feed
feed-fold [] t = sym (or-false t)
feed-fold (b ∷ l) t = feed-fold l (t || eqb b 10) ∙ or_assoc t (eqb b 10) (has_feed l)

-- one byte more
feed-more : (s : List ℕ) (at n : ℕ) → at + n < length s → has_feed (take (n + 1) (drop at s)) ≡ (has_feed (take n (drop at s)) || eqb (get_or s (at + n) 0) 10)
feed-more s at n more =
    let inside : n < length (drop at s) = simp length-drop (omega arith) in
    rw (add-one n, take-suc (drop at s) n 0 inside, get_or-drop at s n 0) (feed-append (take n (drop at s)) (get_or s (at + n) 0))

-- ---- the place of a byte

module _ (c : ℕ) (l : List ℕ) (i : ℕ) where
  pub place-hit : i < length l → get_or l i 0 ≡ c → i + place_of c (drop i l) ≡ i
  unfolding place_of
  place-hit h e = rw (drop-cons l i 0 h, eq-eqb (get_or l i 0) c e) (add-zero i)

  pub place-miss : i < length l → (get_or l i 0 ≡ c → ⊥) → i + place_of c (drop i l) ≡ (i + 1) + place_of c (drop (i + 1) l)
  unfolding place_of
  place-miss h e = rw (drop-cons l i 0 h, ne_eqb (get_or l i 0) c e, add-one i) (omega arith)

  pub place_none : length l ≤ i → i + place_of c (drop i l) ≡ i
  unfolding place_of
  place_none h = rw (drop_of_length-le l {i = i} h) (add-zero i)

over-text : (c : ℕ) → is_text c ≡ false → (l : List ℕ) → place_of c l ≡ text_run l + place_of c (drop (text_run l) l)
unfolding place_of text_run
over-text c none [] = refl
over-text c none (b ∷ l) = go (is_text b) refl (over-text c none l)
  where
    go : (t : Bool) → is_text b ≡ t → place_of c l ≡ text_run l + place_of c (drop (text_run l) l)
        → cond (eqb b c) 0 (suc (place_of c l)) ≡ cond (is_text b) (suc (text_run l)) 0 + place_of c (drop (cond (is_text b) (suc (text_run l)) 0) (b ∷ l))
    go true e h =
        let other : b ≡ c → ⊥ = λ same. true≢false (sym e ∙ ap is_text same ∙ none) in
        rw (ne_eqb b c other, e) (omega arith)
    go false e h = rw e (omega arith)

-- it is not among bytes of text
pub place-over : (c : ℕ) → c < 32 → (l : List ℕ) (at i : ℕ) → at ≤ length l → i ≡ at + text_run (take (length l - at) (drop at l))
    → (at ≤ i) × (i ≤ length l) × (at + place_of c (drop at l) ≡ i + place_of c (drop i l))
place-over c low l at i h is =
    let all : take (length l - at) (drop at l) ≡ drop at l = take_all (length l - at) (drop at l) (simp length-drop (omega arith)) in
    let short : i ≡ at + text_run (drop at l) = rw all at is in
    (omega arith, rw is (run-within l at (length l) h (omega arith)), rw (short, ← drop-drop (text_run (drop at l)) at l) (omega (arith, over-text c (text-low c low) (drop at l))))

-- ---- the end of a line

line-by-place : (l : List ℕ) → (place_of 10 l < length l → line_length l ≡ suc (place_of 10 l)) × (length l ≤ place_of 10 l → line_length l ≡ place_of 10 l)
unfolding place_of line_length
line-by-place [] = (λ h. absurd (omega arith), λ h. refl)
line-by-place (x ∷ l) = go (eqb x 10) (line-by-place l)
  where
    go : (t : Bool) → (place_of 10 l < length l → line_length l ≡ suc (place_of 10 l)) × (length l ≤ place_of 10 l → line_length l ≡ place_of 10 l)
        → (cond t 0 (suc (place_of 10 l)) < suc (length l) → cond t 1 (suc (line_length l)) ≡ suc (cond t 0 (suc (place_of 10 l))))
        × (suc (length l) ≤ cond t 0 (suc (place_of 10 l)) → cond t 1 (suc (line_length l)) ≡ cond t 0 (suc (place_of 10 l)))
    go true h = (λ k. refl, λ k. absurd (omega arith))
    go false h = (λ k. ap suc (h.0 (omega arith)), λ k. ap suc (h.1 (omega arith)))

module _ (l : List ℕ) (at i : ℕ) (low : at ≤ length l) (is : i ≡ at + place_of 10 (drop at l)) where
  pub line-ends : i < length l → i + 1 ≡ at + line_length (drop at l)
  line-ends h = let e = (line-by-place (drop at l)).0 (simp length-drop (omega arith)) in omega arith

  pub line-open : length l ≤ i → i ≡ at + line_length (drop at l)
  line-open h = let e = (line-by-place (drop at l)).1 (simp length-drop (omega arith)) in omega arith

pub line-some : (l : List ℕ) → 0 < length l → 0 < line_length l
unfolding line_length
line-some [] h = absurd (not-suc-le-zero h)
line-some (x ∷ l) h = go (eqb x 10)
  where
    go : (t : Bool) → 0 < cond t 1 (suc (line_length l))
    go true = omega arith
    go false = omega arith

pub line-fits : (l : List ℕ) → line_length l ≤ length l
unfolding line_length
line-fits [] = omega arith
line-fits (x ∷ l) = go (eqb x 10) (line-fits l)
  where
    go : (t : Bool) → line_length l ≤ length l → cond t 1 (suc (line_length l)) ≤ suc (length l)
    go true h = omega arith
    go false h = omega arith

-- ---- the start of a line

pub start-hit : (l : List ℕ) (i : ℕ) → 0 < i → get_or l (i - 1) 0 ≡ 10 → line_start l i ≡ i
unfolding line_start
start-hit l zero h e = absurd (not-suc-le-zero h)
start-hit l (suc k) h e = rw (eq-eqb (get_or l k 0) 10 (rw sub-one at e))

pub start-miss : (l : List ℕ) (i : ℕ) → 0 < i → (get_or l (i - 1) 0 ≡ 10 → ⊥) → line_start l i ≡ line_start l (i - 1)
unfolding line_start
start-miss l zero h e = absurd (not-suc-le-zero h)
start-miss l (suc k) h e = rw (ne_eqb (get_or l k 0) 10 (rw sub-one at e), sub-one)

-- no line feed stands before n
pub start-none : (l : List ℕ) (n : ℕ) → ((k : ℕ) → k < n → get_or l k 0 ≡ 10 → ⊥) → line_start l n ≡ 0
unfolding line_start
start-none l zero miss = refl
start-none l (suc n) miss = rw (ne_eqb (get_or l n 0) 10 (miss n (omega arith))) (start-none l n (λ k h. miss k (omega arith)))

-- the last one before n stands at i
pub start-last : (l : List ℕ) (i n : ℕ) → i < n → get_or l i 0 ≡ 10 → ((k : ℕ) → i < k → k < n → get_or l k 0 ≡ 10 → ⊥) → line_start l n ≡ i + 1
unfolding line_start
start-last l i zero h hit miss = absurd (not-suc-le-zero h)
start-last l i (suc n) h hit miss =
    ⊎_elim
    (λ (e : i ≡ n). start-hit l (suc n) (omega arith) (rw (sub-one, ← e) hit) ∙ omega arith)
    (λ (m : i < n). rw (ne_eqb (get_or l n 0) 10 (miss n m (omega arith))) (start-last l i n m hit (λ k a b. miss k a (omega arith))))
    (eq-or-lt_of_le {n = i} {m = n} (omega arith))

-- what stands from n on does not count
pub start-within : (l : List ℕ) (n i : ℕ) → i ≤ n → line_start (take n l) i ≡ line_start l i
unfolding line_start
start-within l n zero h = refl
start-within l n (suc k) h = rw (get_or-take n l k 0 (omega arith), start-within l n k (omega arith))

pub start_fits : (l : List ℕ) (i : ℕ) → line_start l i ≤ i
unfolding line_start
start_fits l zero = omega arith
start_fits l (suc k) = go (eqb (get_or l k 0) 10) (start_fits l k)
  where
    go : (t : Bool) → line_start l k ≤ k → cond t (suc k) (line_start l k) ≤ suc k
    go true h = omega arith
    go false h = omega arith

pub or-neither : (a b : Bool) → (a || b) ≡ false → (a ≡ false) × (b ≡ false)
or-neither true b h = absurd (true≢false h)
or-neither false b h = (refl, h)

-- back over n bytes
pub start-over : (l : List ℕ) (i n : ℕ) → i + n ≤ length l → has_feed (take n (drop i l)) ≡ false → line_start l (i + n) ≡ line_start l i
unfolding line_start
start-over l i zero h f = rw (add-zero i)
start-over l i (suc n) h f =
    let e : i + suc n ≡ suc (i + n) = omega arith in
    let last = or-neither (has_feed (take n (drop i l))) (eqb (get_or l (i + n) 0) 10) (sym (feed-more l i n (omega arith)) ∙ rw (add-one n) f) in
    rw (e, last.1) (start-over l i n (omega arith) last.0)

-- back over the last n of the first k bytes
pub start-back : (l rest last : List ℕ) (k n : ℕ) → n ≤ k → k ≤ length l → rest ≡ take k l → last ≡ drop (k - n) rest → has_feed last ≡ false → line_start l k ≡ line_start l (k - n)
start-back l rest last k n some fits is end none =
    let back : k - n + n ≡ k = omega arith in
    let long : k - (k - n) ≡ n = omega arith in
    let same : last ≡ take n (drop (k - n) l) = end ∙ ap (drop (k - n)) is ∙ drop-take (k - n) k l ∙ ap (λ (m : ℕ). take m (drop (k - n) l)) long in
    rw back at (start-over l (k - n) n (omega arith) (rw same at none))
