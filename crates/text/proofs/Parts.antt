-- Laws of parts, `part a e s`: the bytes of s from a up to e. Assumes nothing.
use Rattle.std.proofs.Common.{◌≡◌, ℕ, zero, suc, ◌+◌, ◌-◌, ◌<◌, ◌≤◌, List, [], ◌∷◌, ◌++◌, length, get_or, take, drop, sym, ap, ◌∙◌, add-one, arith, length-drop, take-append-drop, length-take, drop-cons, drop-drop, take_at, take-add, drop_at}
use lib.Seq.{take-nil}
use Rattle.text.specs.Lines.{part}

-- what is left of the first n bytes
pub drop-take : (i n : ℕ) (l : List ℕ) → drop i (take n l) ≡ take (n - i) (drop i l)
drop-take zero n l = let z : n - 0 ≡ n = omega arith in rw z
drop-take (suc i) zero l = let z : 0 - suc i ≡ 0 = omega arith in rw z
drop-take (suc i) (suc n) [] = sym (take-nil (suc n - suc i))
drop-take (suc i) (suc n) (x ∷ l) = let z : suc n - suc i ≡ n - i = omega arith in rw z (drop-take i n l)

pub part_length : (s : List ℕ) (a e : ℕ) → e ≤ length s → length (part a e s) ≡ e - a
part_length s a e h = simp (length-take, length-drop) (omega arith)

pub part_none : (s : List ℕ) (a : ℕ) → part a a s ≡ []
part_none s a =
    let z : a - a ≡ 0 = omega arith in
    rw z

pub part-cons : (s : List ℕ) (a e : ℕ) → a < e → e ≤ length s → part a e s ≡ get_or s a 0 ∷ part (suc a) e s
part-cons s a e h k =
    let n : e - a ≡ suc (e - suc a) = omega arith in
    let more : a < length s = omega arith in
    rw (n, drop-cons s a 0 more)

-- what follows a part
pub part-rest : (s : List ℕ) (a e : ℕ) → a ≤ e → part a e s ++ drop e s ≡ drop a s
part-rest s a e h =
    let n : a + (e - a) ≡ e = omega arith in
    ap (λ (k : ℕ). part a e s ++ drop k s) (sym n) ∙ rw (← drop-drop (e - a) a s) (take-append-drop (e - a) (drop a s))

-- two parts that meet
pub part_join : (s : List ℕ) (a m e : ℕ) → a ≤ m → m ≤ e → part a m s ++ part m e s ≡ part a e s
part_join s a m e h k =
    let n : a + (m - a) ≡ m = omega arith in
    let sum : (m - a) + (e - m) ≡ e - a = omega arith in
    ap (λ (i : ℕ). part a m s ++ take (e - m) (drop i s)) (sym n)
    ∙ rw (← drop-drop (m - a) a s) (sym (take-add (m - a) (e - m) (drop a s)) ∙ ap (λ (i : ℕ). take i (drop a s)) sum)

-- a part with one byte more
pub part-more : (s : List ℕ) (a e : ℕ) → a ≤ e → e < length s → part a (e + 1) s ≡ part a e s ++ (get_or s e 0 ∷ [])
part-more s a e h k =
    let one : part e (e + 1) s ≡ get_or s e 0 ∷ [] = part-cons s e (e + 1) (omega arith) (omega arith) ∙ rw (add-one e) (ap (λ (l : List ℕ). get_or s e 0 ∷ l) (part_none s (suc e))) in
    sym (part_join s a e (e + 1) h (omega arith)) ∙ ap (λ (l : List ℕ). part a e s ++ l) one

-- ---- a part that is lent and comes back as ys

abbrev pub put : ℕ → ℕ → List ℕ → List ℕ → List ℕ
put f e x ys = take f x ++ (ys ++ drop (e - f) (drop f x))

-- M, between A and Z
module _ (A M Z x : List ℕ) (f e : ℕ) (is : x ≡ A ++ (M ++ Z)) (at : length A ≡ f) (to : length A + length M ≡ e) where
  pub part-lent : part f e x ≡ M
  part-lent = ap (part f e) is ∙ rw (drop_at A (M ++ Z) f at) (take_at M Z (e - f) (omega arith))

  pub part-put : (ys : List ℕ) → put f e x ys ≡ A ++ (ys ++ Z)
  part-put ys = ap (λ (z : List ℕ). put f e z ys) is ∙ rw (take_at A (M ++ Z) f at, drop_at A (M ++ Z) f at, drop_at M Z (e - f) (omega arith))
