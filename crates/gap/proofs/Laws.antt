-- The laws of moving bytes over a gap of zeros. Assumes nothing.
use mathlib.Core.Path.{◌≡◌, sym, ap, ◌∙◌}
use mathlib.Core.Logic.{⊎_elim}
use Prim.Native.Nat.{ℕ, ◌+◌, ◌-◌, ◌≤◌, ◌<◌, min}
use native.Mathlib.Nat.{le_of_eq, eq-zero-or-pos}
use native.Mathlib.Omega.{arith}
use mathlib.Core.List.{List, ◌++◌, append_assoc}
use lib.ListN.{length, take, drop, length-append, length-drop, length-replicate, replicate-append-replicate, take-append-drop}
use lib.Seq.{paste, drop-drop, take_at, drop_at, take_all, drop-append-le, length-take-le}
use Rattle.text.proofs.Parts.{put}
use Rattle.text.proofs.Pastes.{paste-parts}
use Rattle.gap.specs.Gap.{zeros, ZeroGap, moved_down, moved_up, cleared}

-- ---- bytes that are cleared

-- n bytes that are lent, and are zeros when they come back
pub clear-lent : (x ys : List ℕ) (from n : ℕ) → ys ≡ zeros n → put from (from + n) x ys ≡ cleared from n x
unfolding cleared
clear-lent x ys from n is =
    let wide : from + n - from ≡ n = omega arith in
    rw (is, wide, drop-drop n from x, take_all n (zeros n) (le_of_eq (length-replicate n 0))) (sym (append_assoc (take from x) (zeros n) (drop (from + n) x)))

pub clear-parts : (A M Z : List ℕ) (at n : ℕ) → length A ≡ at → length M ≡ n → cleared at n (A ++ (M ++ Z)) ≡ A ++ (zeros n ++ Z)
unfolding cleared
clear-parts A M Z at n la lm = paste-parts A M Z (zeros n) at n la lm ∙ rw (take_all n (zeros n) (le_of_eq (length-replicate n 0)))

-- ---- What callers use: a buffer that is written as parts.

module _ (A B : List ℕ) (g f b : ℕ) (at : length A ≡ f) (far : f + g ≡ b) where
  drop-gap : drop b (A ++ (zeros g ++ B)) ≡ B
  drop-gap =
      let lq : length (A ++ zeros g) ≡ b = simp (length-append, length-replicate) (omega arith) in
      rw (← append_assoc A (zeros g) B, drop_at (A ++ zeros g) B b lq)

  gap-wide : b - f ≡ g
  gap-wide = omega arith

  pub gap_of : ZeroGap f b (A ++ (zeros g ++ B))
  unfolding ZeroGap
  gap_of = rw (take_at A (zeros g ++ B) f at, drop-gap, gap-wide)

pub down-parts : (A M Z : List ℕ) (g f b n : ℕ) → length A ≡ f → f + g ≡ b → length M ≡ n
    → moved_down f b n (A ++ (zeros g ++ (M ++ Z))) ≡ A ++ (M ++ (zeros g ++ Z))
unfolding moved_down
down-parts A M Z g f b n at far long =
    rw (take_at A (zeros g ++ (M ++ Z)) f at, drop-gap A (M ++ Z) g f b at far, gap-wide A (M ++ Z) g f b at far, take_at M Z n long, drop_at M Z n long)

pub up-parts : (A M Z : List ℕ) (g m f b : ℕ) → length A ≡ m → m + length M ≡ f → f + g ≡ b
    → moved_up m f b ((A ++ M) ++ (zeros g ++ Z)) ≡ A ++ (zeros g ++ (M ++ Z))
unfolding moved_up
up-parts A M Z g m f b at mid far =
    let la : length (A ++ M) ≡ f = simp length-append (omega arith) in
    rw (take_at (A ++ M) (zeros g ++ Z) f la, drop-gap (A ++ M) Z g f b la far, gap-wide (A ++ M) Z g f b la far, take_at A M m at, drop_at A M m at)

-- ---- bytes moved by a copy; k of them are not written over, and cleared then

two-gaps : (a b g : ℕ) → a + b ≡ g → zeros g ≡ zeros a ++ zeros b
two-gaps a b g e = sym (replicate-append-replicate a b 0 ∙ ap zeros e)

module _ (A M Z : List ℕ) (n g k r : ℕ) (lm : length M ≡ n) (sum : k + r ≡ g) where
  -- down: the gap and M are O, which is written over, r zeros, and L
  down_by : (O L : List ℕ) (f b : ℕ) → length A ≡ f → f + g ≡ b → length O ≡ n → length L ≡ k → zeros g ++ M ≡ O ++ (zeros r ++ L)
      → cleared (b + n - k) k (paste (A ++ (zeros g ++ (M ++ Z))) f (M ++ Z) n) ≡ A ++ (M ++ (zeros g ++ Z))
  down_by O L f b la far lv lw cut =
      let is : A ++ (zeros g ++ (M ++ Z)) ≡ A ++ (O ++ (zeros r ++ (L ++ Z))) =
      ap (λ (l : List ℕ). A ++ l) (sym (append_assoc (zeros g) M Z) ∙ ap (λ (l : List ℕ). l ++ Z) cut ∙ simp append_assoc) in
      let near : length (A ++ (M ++ zeros r)) ≡ b + n - k = simp (length-append, length-replicate) (omega arith) in
      let turn : r + k ≡ g = omega arith in
      rw (is, paste-parts A O (zeros r ++ (L ++ Z)) (M ++ Z) f n la lv, take_at M Z n lm, two-gaps r k g turn)
      (ap (cleared (b + n - k) k) (let e : A ++ (M ++ (zeros r ++ (L ++ Z))) ≡ (A ++ (M ++ zeros r)) ++ (L ++ Z) = simp append_assoc in e)
      ∙ clear-parts (A ++ (M ++ zeros r)) L Z (b + n - k) k near lw ∙ simp append_assoc)

  -- up: M and the gap are L, r zeros, and O, which is written over
  up_by : (L O : List ℕ) (lo b : ℕ) → length A ≡ lo → lo + n + g ≡ b → length O ≡ n → length L ≡ k → M ++ zeros g ≡ L ++ (zeros r ++ O)
      → cleared lo k (paste ((A ++ M) ++ (zeros g ++ Z)) (b - n) (M ++ (zeros g ++ Z)) n) ≡ A ++ (zeros g ++ (M ++ Z))
  up_by L O lo b la far lv lw cut =
      let is : (A ++ M) ++ (zeros g ++ Z) ≡ (A ++ (L ++ zeros r)) ++ (O ++ Z) =
      (let e : (A ++ M) ++ (zeros g ++ Z) ≡ A ++ ((M ++ zeros g) ++ Z) = simp append_assoc in e) ∙ ap (λ (l : List ℕ). A ++ (l ++ Z)) cut ∙ simp append_assoc in
      let near : length (A ++ (L ++ zeros r)) ≡ b - n = simp (length-append, length-replicate) (omega arith) in
      rw (is, paste-parts (A ++ (L ++ zeros r)) O Z (M ++ (zeros g ++ Z)) (b - n) n near lv, take_at M (zeros g ++ Z) n lm, two-gaps k r g sum)
      (ap (cleared lo k) (let e : (A ++ (L ++ zeros r)) ++ (M ++ Z) ≡ A ++ (L ++ (zeros r ++ (M ++ Z))) = simp append_assoc in e)
      ∙ clear-parts A L (zeros r ++ (M ++ Z)) lo k la lw ∙ simp append_assoc)

-- the bytes that are left of M: all where the gap is wider, or else as many as the gap is wide
module _ (A M Z : List ℕ) (n g k : ℕ) (lm : length M ≡ n) (least : k ≡ min n g) where
  down-both : (f b : ℕ) → length A ≡ f → f + g ≡ b → cleared (b + n - k) k (paste (A ++ (zeros g ++ (M ++ Z))) f (M ++ Z) n) ≡ A ++ (M ++ (zeros g ++ Z))
  down-both f b la far = ⊎_elim wide narrow (eq-zero-or-pos (n - g))
    where
      wide : n - g ≡ 0 → cleared (b + n - k) k (paste (A ++ (zeros g ++ (M ++ Z))) f (M ++ Z) n) ≡ A ++ (M ++ (zeros g ++ Z))
      wide z =
          let two : zeros g ≡ zeros n ++ zeros (g - n) = two-gaps n (g - n) g (omega arith) in
          down_by A M Z n g k (g - n) lm (omega arith) (zeros n) M f b la far (length-replicate n 0) (omega arith) (rw two (append_assoc (zeros n) (zeros (g - n)) M))

      narrow : 0 < n - g → cleared (b + n - k) k (paste (A ++ (zeros g ++ (M ++ Z))) f (M ++ Z) n) ≡ A ++ (M ++ (zeros g ++ Z))
      narrow z =
          let over : length (zeros g ++ take (n - g) M) ≡ n = simp (length-append, length-replicate) (rw (length-take-le (n - g) M (omega arith)) (omega arith)) in
          let left : length (drop (n - g) M) ≡ k = simp length-drop (omega arith) in
          let cut : zeros g ++ M ≡ (zeros g ++ take (n - g) M) ++ drop (n - g) M = sym (append_assoc (zeros g) (take (n - g) M) (drop (n - g) M) ∙ rw (take-append-drop (n - g) M)) in
          down_by A M Z n g k 0 lm (omega arith) (zeros g ++ take (n - g) M) (drop (n - g) M) f b la far over left cut

  up-both : (lo b : ℕ) → length A ≡ lo → lo + n + g ≡ b → cleared lo k (paste ((A ++ M) ++ (zeros g ++ Z)) (b - n) (M ++ (zeros g ++ Z)) n) ≡ A ++ (zeros g ++ (M ++ Z))
  up-both lo b la far = ⊎_elim wide narrow (eq-zero-or-pos (n - g))
    where
      wide : n - g ≡ 0 → cleared lo k (paste ((A ++ M) ++ (zeros g ++ Z)) (b - n) (M ++ (zeros g ++ Z)) n) ≡ A ++ (zeros g ++ (M ++ Z))
      wide z = up_by A M Z n g k (g - n) lm (omega arith) M (zeros n) lo b la far (length-replicate n 0) (omega arith) (ap (λ (l : List ℕ). M ++ l) (two-gaps (g - n) n g (omega arith)))

      narrow : 0 < n - g → cleared lo k (paste ((A ++ M) ++ (zeros g ++ Z)) (b - n) (M ++ (zeros g ++ Z)) n) ≡ A ++ (zeros g ++ (M ++ Z))
      narrow z =
          let over : length (drop g M ++ zeros g) ≡ n = simp (length-append, length-drop, length-replicate) (omega arith) in
          let left : length (take g M) ≡ k = length-take-le g M (omega arith) ∙ omega arith in
          let cut : M ++ zeros g ≡ take g M ++ (drop g M ++ zeros g) = sym (sym (append_assoc (take g M) (drop g M) (zeros g)) ∙ rw (take-append-drop g M)) in
          up_by A M Z n g k 0 lm (omega arith) (take g M) (drop g M ++ zeros g) lo b la far over left cut

-- the same of a buffer with a gap
pub down-copied : (x : List ℕ) (f b n k : ℕ) → f ≤ b → b + n ≤ length x → ZeroGap f b x → k ≡ min n (b - f)
    → cleared (b + n - k) k (paste x f (drop b x) n) ≡ moved_down f b n x
unfolding ZeroGap moved_down
down-copied x f b n k order fits z least =
    let D : List ℕ = drop b x in
    let la : length (take f x) ≡ f = length-take-le f x (omega arith) in
    let lm : length (take n D) ≡ n = length-take-le n D (simp length-drop (omega arith)) in
    let is : x ≡ take f x ++ (zeros (b - f) ++ (take n D ++ drop n D)) = z ∙ rw (take-append-drop n D) in
    let both = down-both (take f x) (take n D) (drop n D) n (b - f) k lm least f b la (omega arith) in
    rw (← is, take-append-drop n D) at both

pub up-copied : (x : List ℕ) (lo f b k : ℕ) → lo ≤ f → f ≤ b → b ≤ length x → ZeroGap f b x → k ≡ min (f - lo) (b - f)
    → cleared lo k (paste x (b - (f - lo)) (drop lo x) (f - lo)) ≡ moved_up lo f b x
unfolding ZeroGap moved_up
up-copied x lo f b k low order fits z least =
    let F : List ℕ = take f x in
    let lf : length F ≡ f = length-take-le f x (omega arith) in
    let la : length (take lo F) ≡ lo = length-take-le lo F (omega arith) in
    let lm : length (drop lo F) ≡ f - lo = simp length-drop (omega arith) in
    let is : x ≡ (take lo F ++ drop lo F) ++ (zeros (b - f) ++ drop b x) = z ∙ rw (take-append-drop lo F) in
    let from : drop lo x ≡ drop lo F ++ (zeros (b - f) ++ drop b x) = ap (drop lo) z ∙ drop-append-le lo F (zeros (b - f) ++ drop b x) (omega arith) in
    let both = up-both (take lo F) (drop lo F) (drop b x) (f - lo) (b - f) k lm least lo b la (omega arith) in
    rw (← is, ← from) at both
