-- The laws of two parts that are gathered, one behind the other. Assumes nothing.
use mathlib.Core.Path.{◌≡◌, sym, ap, ◌∙◌}
use Prim.Native.Nat.{ℕ, ◌+◌, ◌-◌, ◌≤◌, ◌<◌}
use native.Mathlib.Omega.{arith}
use mathlib.Core.Bool.{Bool}
use mathlib.Core.List.{List, [], ◌++◌, append_assoc, append-nil}
use lib.ListN.{length, take, drop, length-append, length-drop, take-append-drop}
use lib.Seq.{length-take-le}
use Rattle.text.specs.Lines.{part}
use Rattle.text.proofs.Parts.{part_length, put, part-lent, part-put}
use Rattle.rotation.specs.Rotation.{rotated}
use Rattle.rotation.proofs.Laws.{rotate-parts}
use Rattle.gathering.specs.Pieces.{middle_of, pieces, is_minus, is_other, row_of, minus_row, other_row, Gathered}
use Rattle.gathering.proofs.Pieces.{row-append, gathered-length, gathered-fits}
use Rattle.gathering.proofs.Cuts.{middle-cuts, Cut}

-- each part is shorter than the whole
pub first-shorter : (x : List ℕ) (m t : ℕ) → Cut x m → length x ≡ t → length (part 0 m x) < t
first-shorter x m t h e = rw (part_length x 0 m (omega arith)) (omega arith)

-- ---- the first part is gathered: s is a, what it came back as, and the rest

pub record Half (x s : List ℕ) (m p : ℕ) : Type 0 where
  pub a : List ℕ
  pub cut : Cut x m
  pub low : p ≤ m
  pub long : length s ≡ length x
  pub front : length a ≡ m
  pub gathered : Gathered (take m x) a p
  pub is : s ≡ a ++ drop m x

pub first-half : (x a : List ℕ) (m p : ℕ) → Cut x m → Gathered (part 0 m x) a p → Half x (put 0 m x a) m p
first-half x a m p cut g =
    let lm : length (take m x) ≡ m = length-take-le m x (omega arith) in
    let all : x ≡ take m x ++ drop m x = sym (take-append-drop m x) in
    by lm (part-lent [] (take m x) (drop m x) x 0 m all (omega arith) (omega arith)) (part-put [] (take m x) (drop m x) x 0 m all (omega arith) (omega arith) a)
  where
    by : length (take m x) ≡ m → part 0 m x ≡ take m x → put 0 m x a ≡ a ++ drop m x → Half x (put 0 m x a) m p
    by lm lent is =
        let h : Gathered (take m x) a p = rw lent at g in
        let la : length a ≡ m = gathered-length (take m x) a p h ∙ lm in record {
          a = a;
          cut = cut;
          low = omega (arith, gathered-fits (take m x) a p h);
          long = rw is (simp (length-append, length-drop) (omega arith));
          front = la;
          gathered = h;
          is = is;
        }

pub second-shorter : (x s : List ℕ) (m p t : ℕ) → Half x s m p → length x ≡ t → length (part m (length s) s) < t
second-shorter x s m p t h e = rw (part_length s m (length s) (omega arith)) (omega arith)

-- ---- both are: s is a and b

pub record Both (x s : List ℕ) (m p q : ℕ) : Type 0 where
  pub a : List ℕ
  pub b : List ℕ
  pub low : p ≤ m
  pub high : m + q ≤ length s
  pub front : length a ≡ m
  pub two : pieces x ≡ pieces (take m x) ++ pieces (drop m x)
  pub first : Gathered (take m x) a p
  pub second : Gathered (drop m x) b q
  pub is : s ≡ a ++ b

pub second-half : (x s b : List ℕ) (m p q : ℕ) → Half x s m p → Gathered (part m (length s) s) b q → Both x (put m (length s) s b) m p q
second-half x s b m p q h g =
    let is : s ≡ h.a ++ (drop m x ++ []) = h.is ∙ ap (λ (z : List ℕ). h.a ++ z) (sym (append-nil (drop m x))) in
    let to : length h.a + length (drop m x) ≡ length s = sym (length-append h.a (drop m x)) ∙ sym (ap length h.is) in
    by (part-lent h.a (drop m x) [] s m (length s) is h.front to)
    (part-put h.a (drop m x) [] s m (length s) is h.front to b ∙ ap (λ (z : List ℕ). h.a ++ z) (append-nil b))
  where
    by : part m (length s) s ≡ drop m x → put m (length s) s b ≡ h.a ++ b → Both x (put m (length s) s b) m p q
    by lent is =
        let k : Gathered (drop m x) b q = rw lent at g in record {
          a = h.a;
          b = b;
          low = h.low;
          high = rw is (simp length-append (omega (arith, gathered-length (drop m x) b q k, gathered-fits (drop m x) b q k)));
          front = h.front;
          two = h.cut.two;
          first = h.gathered;
          second = k;
          is = is;
        }

-- ---- and the parts between change places

pub turn-fits : (x s : List ℕ) (m p q : ℕ) → Both x s m p q → m - p ≤ length (part p (m + q) s)
turn-fits x s m p q h = rw (part_length s p (m + q) h.high) (omega (arith, h.low))

-- D and I, E and J: the rows of the first part, and of the second
turn-parts : (D I E J s u : List ℕ) (m p q : ℕ) → p ≡ length D → length (D ++ I) ≡ m → q ≡ length E → s ≡ (D ++ I) ++ (E ++ J)
    → u ≡ rotated (m - p) (part p (m + q) s) → put p (m + q) s u ≡ (D ++ E) ++ (I ++ J)
turn-parts D I E J s u m p q lp lm lq is turned =
    let cut : s ≡ D ++ ((I ++ E) ++ J) = is ∙ simp append_assoc in
    let sum : length D + length I ≡ m = sym (length-append D I) ∙ lm in
    let to : length D + length (I ++ E) ≡ m + q = simp length-append (omega arith) in
    let u-is : u ≡ E ++ I = turned ∙ ap (rotated (m - p)) (part-lent D (I ++ E) J s p (m + q) cut (sym lp) to) ∙ rotate-parts I E (m - p) (omega arith) in
    part-put D (I ++ E) J s p (m + q) cut (sym lp) to u ∙ ap (λ (z : List ℕ). D ++ (z ++ J)) u-is ∙ simp append_assoc

pub both-gathered : (x s u : List ℕ) (m p q : ℕ) → Both x s m p q → u ≡ rotated (m - p) (part p (m + q) s) → Gathered x (put p (m + q) s u) (p + q)
both-gathered x s u m p q h turned =
    let X : List ℕ = take m x in
    let Y : List ℕ = drop m x in
    let row : (kind : List ℕ → Bool) → row_of kind (pieces x) ≡ row_of kind (pieces X) ++ row_of kind (pieces Y) =
    λ kind. ap (row_of kind) h.two ∙ row-append kind (pieces X) (pieces Y) in
    let ab : s ≡ (minus_row X ++ other_row X) ++ (minus_row Y ++ other_row Y) =
    h.is ∙ ap (λ (z : List ℕ). z ++ h.b) h.first.is ∙ ap (λ (z : List ℕ). (minus_row X ++ other_row X) ++ z) h.second.is in
    let lm : length (minus_row X ++ other_row X) ≡ m = sym (ap length h.first.is) ∙ h.front in
    record {
      is =
          turn-parts (minus_row X) (other_row X) (minus_row Y) (other_row Y) s u m p q h.first.size lm h.second.size ab turned
          ∙ sym (rw (row is_minus, row is_other));
      size = sym (ap length (row is_minus) ∙ length-append (minus_row X) (minus_row Y) ∙ omega (arith, h.first.size, h.second.size));
    }

-- ---- from what the code finds: where it cuts, and what each part comes to

pub half-of : {x a : List ℕ} {m p : ℕ} → m ≡ middle_of x → (m ≡ 0 → ⊥) → Gathered (part 0 m x) a p → Half x (put 0 m x a) m p
half-of {x} {a} {m} {p} is some g = first-half x a m p (middle-cuts x m is some) g

pub both-of : {x a b : List ℕ} {m p q : ℕ} → m ≡ middle_of x → (m ≡ 0 → ⊥) → Gathered (part 0 m x) a p
    → Gathered (part m (length (put 0 m x a)) (put 0 m x a)) b q → Both x (put m (length (put 0 m x a)) (put 0 m x a) b) m p q
both-of {x} {a} {b} {m} {p} {q} is some g k = second-half x (put 0 m x a) b m p q (half-of is some g) k
