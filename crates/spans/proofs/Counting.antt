-- The laws of the number of records through a source line. Assumes nothing.
use mathlib.Core.Path.{◌≡◌, refl, ap, ◌∙◌}
use Prim.Native.Nat.{ℕ, zero, suc, ◌+◌, ◌-◌, ◌≤◌, ◌<◌}
use native.Mathlib.Omega.{arith}
use mathlib.Core.List.{List, [], ◌∷◌, ◌++◌, reverse_aux}
use lib.ListN.{length, drop}
use Rattle.definitions.specs.Journal.{Record, kept, changed, deleted, inserted}
use Rattle.definitions.specs.Editor.{sources, n21, n23}
use Rattle.definitions.specs.StepProgram.{Program, gives, stops}
use Rattle.definitions.specs.Edit.{count_through}
use Rattle.editor.specs.Records.{mark}
use Rattle.editor.proofs.Records.{sourced, sources-cons, sources-nil}

-- ---- one record is passed

count_less : (n k : ℕ) (r : Record) (a : List Record) → sourced r ≡ 1 → count_through (suc n) k a ≡ count_through (suc n) (suc k - sourced r) a
count_less n k r a q = ap (λ (i : ℕ). count_through (suc n) i a) (let z : k ≡ suc k - sourced r = omega arith in z)

count-one : (n k : ℕ) (r : Record) (a : List Record) → sourced r ≤ k → count_through n k (r ∷ a) ≡ count_through (suc n) (k - sourced r) a
unfolding count_through
count-one n k (inserted l) a h = ap (λ (i : ℕ). count_through (suc n) i a) (let z : k ≡ k - 0 = omega arith in z)
count-one n zero (kept l) a h = absurd (omega arith)
count-one n zero (changed o m) a h = absurd (omega arith)
count-one n zero (deleted l) a h = absurd (omega arith)
count-one n (suc k) (kept l) a h = count_less n k (kept l) a refl
count-one n (suc k) (changed o m) a h = count_less n k (changed o m) a refl
count-one n (suc k) (deleted l) a h = count_less n k (deleted l) a refl

-- so many are passed
count-from : (n k : ℕ) (b a : List Record) → sources b ≤ k → count_through n k (reverse_aux b a) ≡ count_through (length b + n) (k - sources b) a
count-from n k [] a h =
    let z : k ≡ k - sources [] = omega (arith, sources-nil) in
    let m : n ≡ length {A = Record} [] + n = omega arith in
    ap (λ (i : ℕ). count_through n i a) z ∙ ap (λ (i : ℕ). count_through i (k - sources []) a) m
count-from n k (r ∷ b) a h =
    let c : sources (r ∷ b) ≡ sourced r + sources b = sources-cons r b in
    let q : k - sources b - sourced r ≡ k - sources (r ∷ b) = omega arith in
    let m : suc (length b + n) ≡ length (r ∷ b) + n = omega arith in
    count-from n k b (r ∷ a) (omega arith) ∙ count-one (length b + n) (k - sources b) r a (omega arith)
    ∙ ap (λ (i : ℕ). count_through (suc (length b + n)) i a) q ∙ ap (λ (i : ℕ). count_through i (k - sources (r ∷ b)) a) m

-- ---- at the line's record

count-dead : (n : ℕ) (x : Record) (d : List Record) → mark x ≡ 45 → count_through n 0 (x ∷ d) ≡ stops n23
unfolding count_through
count-dead n (kept l) d m = absurd (omega arith)
count-dead n (changed o c) d m = absurd (omega arith)
count-dead n (deleted l) d m = refl
count-dead n (inserted l) d m = absurd (omega arith)

count-live : (n : ℕ) (x : Record) (d : List Record) → (mark x ≡ 45 → ⊥) → (mark x ≡ 43 → ⊥) → count_through n 0 (x ∷ d) ≡ gives (suc n)
unfolding count_through
count-live n (kept l) d m i = refl
count-live n (changed o c) d m i = refl
count-live n (deleted l) d m i = absurd (m refl)
count-live n (inserted l) d m i = absurd (i refl)

module _ (k : ℕ) (b : List Record) (x : Record) (d : List Record) (at : sources b ≡ k) where
  count_at : count_through 0 k (reverse_aux b (x ∷ d)) ≡ count_through (length b) 0 (x ∷ d)
  count_at =
      let z : k - sources b ≡ 0 = omega arith in
      let n : length b + 0 ≡ length b = omega arith in
      count-from 0 k b (x ∷ d) (omega arith) ∙ ap (λ (i : ℕ). count_through (length b + 0) i (x ∷ d)) z ∙ ap (λ (i : ℕ). count_through i 0 (x ∷ d)) n

  pub dead-at : mark x ≡ 45 → count_through 0 k (reverse_aux b (x ∷ d)) ≡ stops n23
  dead-at m = count_at ∙ count-dead (length b) x d m

  pub live_at : (mark x ≡ 45 → ⊥) → (mark x ≡ 43 → ⊥) → count_through 0 k (reverse_aux b (x ∷ d)) ≡ gives (suc (length b))
  live_at m i = count_at ∙ count-live (length b) x d m i

-- the records after it
drop-over : (i : ℕ) (b a : List Record) → drop (length b + i) (reverse_aux b a) ≡ drop i a
drop-over i [] a = ap (λ (n : ℕ). drop n a) (let z : length {A = Record} [] + i ≡ i = omega arith in z)
drop-over i (r ∷ b) a = ap (λ (n : ℕ). drop n (reverse_aux b (r ∷ a))) (let z : length (r ∷ b) + i ≡ length b + suc i = omega arith in z) ∙ drop-over (suc i) b (r ∷ a)

pub after-at : (b : List Record) (x : Record) (d : List Record) → drop (suc (length b)) (reverse_aux b (x ∷ d)) ≡ d
after-at b x d = ap (λ (n : ℕ). drop n (reverse_aux b (x ∷ d))) (let z : suc (length b) ≡ length b + 1 = omega arith in z) ∙ drop-over 1 b (x ∷ d)

-- ---- the line is not there

pub count_none : (n k : ℕ) (a : List Record) → sources a ≤ k → count_through n k a ≡ stops n21
unfolding count_through
count_none n k [] h = refl
count_none n k (inserted l ∷ a) h = count_none (suc n) k a (omega (arith, sources-cons (inserted l) a))
count_none n zero (kept l ∷ a) h = absurd (omega (arith, sources-cons (kept l) a))
count_none n zero (changed o m ∷ a) h = absurd (omega (arith, sources-cons (changed o m) a))
count_none n zero (deleted l ∷ a) h = absurd (omega (arith, sources-cons (deleted l) a))
count_none n (suc k) (kept l ∷ a) h = count_none (suc n) k a (omega (arith, sources-cons (kept l) a))
count_none n (suc k) (changed o m ∷ a) h = count_none (suc n) k a (omega (arith, sources-cons (changed o m) a))
count_none n (suc k) (deleted l ∷ a) h = count_none (suc n) k a (omega (arith, sources-cons (deleted l) a))

-- ---- among the records that are read, and among all

pub count-append : (n k : ℕ) (a u : List Record) → k < sources a → count_through n k (a ++ u) ≡ count_through n k a
unfolding count_through
count-append n k [] u h = absurd (omega (arith, sources-nil))
count-append n k (inserted l ∷ a) u h = count-append (suc n) k a u (omega (arith, sources-cons (inserted l) a))
count-append n zero (kept l ∷ a) u h = refl
count-append n zero (changed o m ∷ a) u h = refl
count-append n zero (deleted l ∷ a) u h = refl
count-append n (suc k) (kept l ∷ a) u h = count-append (suc n) k a u (omega (arith, sources-cons (kept l) a))
count-append n (suc k) (changed o m ∷ a) u h = count-append (suc n) k a u (omega (arith, sources-cons (changed o m) a))
count-append n (suc k) (deleted l ∷ a) u h = count-append (suc n) k a u (omega (arith, sources-cons (deleted l) a))

-- no more than there are
count-last : (n v m : ℕ) → ◌≡◌ {A = Program ℕ} (gives (suc n)) (gives v) → v ≤ n + suc m
count-last n v m q = let z : suc n ≡ v = cc in omega arith

pub count-within : (n k : ℕ) (a : List Record) (v : ℕ) → count_through n k a ≡ gives v → v ≤ n + length a
unfolding count_through
count-within n k [] v q = absurd (let z : ◌≡◌ {A = ℕ} 0 1 = cc in omega arith)
count-within n k (inserted l ∷ a) v q = omega (arith, count-within (suc n) k a v q)
count-within n zero (kept l ∷ a) v q = count-last n v (length a) q
count-within n zero (changed o m ∷ a) v q = count-last n v (length a) q
count-within n zero (deleted l ∷ a) v q = absurd (let z : ◌≡◌ {A = ℕ} 0 1 = cc in omega arith)
count-within n (suc k) (kept l ∷ a) v q = omega (arith, count-within (suc n) k a v q)
count-within n (suc k) (changed o m ∷ a) v q = omega (arith, count-within (suc n) k a v q)
count-within n (suc k) (deleted l ∷ a) v q = omega (arith, count-within (suc n) k a v q)
