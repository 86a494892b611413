-- The laws of lines with their line feeds, and of their rows. Assumes nothing.
use mathlib.Core.Path.{◌≡◌, refl, sym, ap, ◌∙◌}
use mathlib.Core.Bool.{Bool, true, false, not, cond}
use Prim.Native.Nat.{ℕ, suc, ◌+◌, ◌≤◌, ◌<◌}
use native.Mathlib.Nat.{not-suc-le-zero}
use native.Mathlib.Omega.{arith}
use mathlib.Core.List.{List, [], ◌∷◌, ◌++◌, append_assoc}
use lib.ListN.{length, take, drop, get_or, length-append}
use lib.Dec.{eqb}
use borrow.Author.Tests.{eq-eqb, ne_eqb}
use Rattle.text.specs.Feeds.{line_length}
use Rattle.gathering.specs.Pieces.{on_first, pieces, is_minus, is_other, row_of, minus_row, other_row, Gathered}

-- ---- lines

pieces-lf : (b : ℕ) (x : List ℕ) → eqb b 10 ≡ true → pieces (b ∷ x) ≡ (b ∷ []) ∷ pieces x
unfolding pieces
pieces-lf b x h = rw (h, pieces)

pieces-on : (b : ℕ) (x : List ℕ) → eqb b 10 ≡ false → pieces (b ∷ x) ≡ on_first b (pieces x)
unfolding pieces
pieces-on b x h = rw (h, pieces)

pub no_pieces : (x : List ℕ) → length x ≡ 0 → pieces x ≡ []
unfolding pieces
no_pieces [] h = refl
no_pieces (b ∷ x) h = absurd (omega arith)

-- the first line ends at the first line feed
pub first_piece : (x : List ℕ) → 0 < length x → pieces x ≡ take (line_length x) x ∷ pieces (drop (line_length x) x)
unfolding line_length on_first
first_piece [] h = absurd (not-suc-le-zero h)
first_piece (b ∷ []) h = go (eqb b 10) refl
  where
    go : (t : Bool) → eqb b 10 ≡ t → pieces (b ∷ []) ≡ take (cond t 1 1) (b ∷ []) ∷ pieces (drop (cond t 1 1) (b ∷ []))
    go true e = pieces-lf b [] e
    go false e = pieces-on b [] e ∙ ap (on_first b) (no_pieces [] refl) ∙ ap (λ (ls : List (List ℕ)). (b ∷ []) ∷ ls) (sym (no_pieces [] refl))
first_piece (b ∷ c ∷ x) h = go (eqb b 10) refl (first_piece (c ∷ x) (omega arith))
  where
    go : (t : Bool) → eqb b 10 ≡ t → pieces (c ∷ x) ≡ take (line_length (c ∷ x)) (c ∷ x) ∷ pieces (drop (line_length (c ∷ x)) (c ∷ x))
        → pieces (b ∷ c ∷ x) ≡ take (cond t 1 (suc (line_length (c ∷ x)))) (b ∷ c ∷ x) ∷ pieces (drop (cond t 1 (suc (line_length (c ∷ x)))) (b ∷ c ∷ x))
    go true e ih = pieces-lf b (c ∷ x) e
    go false e ih = pieces-on b (c ∷ x) e ∙ ap (on_first b) ih

on-append : (b : ℕ) (A ls ms : List (List ℕ)) → 0 < length A → A ++ ms ≡ ls → on_first b ls ≡ on_first b A ++ ms
unfolding on_first
on-append b [] ls ms h e = absurd (not-suc-le-zero h)
on-append b (l ∷ A) ls ms h e = rw (← e)

ended_some : (A : List ℕ) → 0 < length (pieces (A ++ (10 ∷ [])))
ended_some [] = rw (first_piece (10 ∷ []) (omega arith)) (omega arith)
ended_some (a ∷ A) = rw (first_piece (a ∷ (A ++ (10 ∷ []))) (omega arith)) (omega arith)

-- bytes that end with a line feed, then others
pub pieces-append : (A B : List ℕ) → pieces (A ++ (10 ∷ B)) ≡ pieces (A ++ (10 ∷ [])) ++ pieces B
unfolding pieces
pieces-append [] B = refl
pieces-append (b ∷ A) B = go (eqb b 10) refl (pieces-append A B)
  where
    go : (t : Bool) → eqb b 10 ≡ t → pieces (A ++ (10 ∷ B)) ≡ pieces (A ++ (10 ∷ [])) ++ pieces B
        → pieces (b ∷ (A ++ (10 ∷ B))) ≡ pieces (b ∷ (A ++ (10 ∷ []))) ++ pieces B
    go true e ih = rw (pieces-lf b (A ++ (10 ∷ B)) e, pieces-lf b (A ++ (10 ∷ [])) e, ih)
    go false e ih =
        pieces-on b (A ++ (10 ∷ B)) e ∙ on-append b (pieces (A ++ (10 ∷ []))) (pieces (A ++ (10 ∷ B))) (pieces B) (ended_some A) (sym ih)
        ∙ ap (λ (ls : List (List ℕ)). ls ++ pieces B) (sym (pieces-on b (A ++ (10 ∷ [])) e))

-- the rows of lists of lines, one after the other
pub row-append : (kind : List ℕ → Bool) (ls ms : List (List ℕ)) → row_of kind (ls ++ ms) ≡ row_of kind ls ++ row_of kind ms
unfolding row_of
row-append kind [] ms = refl
row-append kind (l ∷ ls) ms = ap (λ (z : List ℕ). cond (kind l) l [] ++ z) (row-append kind ls ms) ∙ sym (append_assoc (cond (kind l) l []) (row_of kind ls) (row_of kind ms))

-- ---- the rows have all bytes

every : List ℕ → Bool
every l = true

rows-sum : (ls : List (List ℕ)) → length (row_of is_minus ls) + length (row_of is_other ls) ≡ length (row_of every ls)
unfolding row_of is_other every
rows-sum [] = refl
rows-sum (l ∷ ls) = go (is_minus l) (rows-sum ls)
  where
    go : (t : Bool) → length (row_of is_minus ls) + length (row_of is_other ls) ≡ length (row_of every ls)
        → length (cond t l [] ++ row_of is_minus ls) + length (cond (not t) l [] ++ row_of is_other ls) ≡ length (l ++ row_of every ls)
    go true ih = simp length-append (omega arith)
    go false ih = simp length-append (omega arith)

on_row : (b : ℕ) (ls : List (List ℕ)) → row_of every (on_first b ls) ≡ b ∷ row_of every ls
unfolding row_of every on_first
on_row b [] = refl
on_row b (l ∷ ls) = refl

every_byte : (x : List ℕ) → row_of every (pieces x) ≡ x
unfolding pieces row_of every
every_byte [] = refl
every_byte (b ∷ x) = go (eqb b 10) refl (every_byte x)
  where
    go : (t : Bool) → eqb b 10 ≡ t → row_of every (pieces x) ≡ x → row_of every (pieces (b ∷ x)) ≡ b ∷ x
    go true e ih = ap (row_of every) (pieces-lf b x e) ∙ ap (λ (z : List ℕ). b ∷ z) ih
    go false e ih = ap (row_of every) (pieces-on b x e) ∙ on_row b (pieces x) ∙ ap (λ (z : List ℕ). b ∷ z) ih

pub rows-length : (x : List ℕ) → length (minus_row x) + length (other_row x) ≡ length x
rows-length x = rows-sum (pieces x) ∙ ap length (every_byte x)

-- What callers use: nothing is lost, and the first kind's bytes are not more than all.
module _ (x y : List ℕ) (r : ℕ) (g : Gathered x y r) where
  pub gathered-length : length y ≡ length x
  gathered-length = ap length g.is ∙ length-append (minus_row x) (other_row x) ∙ rows-length x

  pub gathered-fits : r ≤ length x
  gathered-fits = omega (arith, g.size, rows-length x)

-- ---- the first line, told by its first byte

first_kind : (x : List ℕ) → 0 < length x → is_minus (take (line_length x) x) ≡ eqb (get_or x 0 0) 45
unfolding line_length is_minus
first_kind [] h = absurd (not-suc-le-zero h)
first_kind (b ∷ x) h = go (eqb b 10)
  where
    go : (t : Bool) → is_minus (take (cond t 1 (suc (line_length x))) (b ∷ x)) ≡ eqb b 45
    go true = refl
    go false = refl

-- it goes to one row, and the rest to both
module _ (x : List ℕ) (some : 0 < length x) where
  first-row : (kind : List ℕ → Bool) (t : Bool) → kind (take (line_length x) x) ≡ t
      → row_of kind (pieces x) ≡ cond t (take (line_length x) x) [] ++ row_of kind (pieces (drop (line_length x) x))
  unfolding row_of
  first-row kind t e =
      ap (row_of kind) (first_piece x some) ∙ ap (λ (b : Bool). cond b (take (line_length x) x) [] ++ row_of kind (pieces (drop (line_length x) x))) e

  other-kind : (t : Bool) → eqb (get_or x 0 0) 45 ≡ t → is_other (take (line_length x) x) ≡ not t
  unfolding is_other
  other-kind t e = ap not (first_kind x some ∙ e)

  rows-by : (t : Bool) → eqb (get_or x 0 0) 45 ≡ t
      → (minus_row x ≡ cond t (take (line_length x) x) [] ++ minus_row (drop (line_length x) x))
      × (other_row x ≡ cond (not t) (take (line_length x) x) [] ++ other_row (drop (line_length x) x))
  rows-by t e = (first-row is_minus t (first_kind x some ∙ e), first-row is_other (not t) (other-kind t e))

  pub minus-first : get_or x 0 0 ≡ 45 → (minus_row x ≡ take (line_length x) x ++ minus_row (drop (line_length x) x)) × (other_row x ≡ other_row (drop (line_length x) x))
  minus-first e = rows-by true (eq-eqb (get_or x 0 0) 45 e)

  pub other-first : (get_or x 0 0 ≡ 45 → ⊥) → (minus_row x ≡ minus_row (drop (line_length x) x)) × (other_row x ≡ take (line_length x) x ++ other_row (drop (line_length x) x))
  other-first e = rows-by false (ne_eqb (get_or x 0 0) 45 e)

pub no_row : (kind : List ℕ → Bool) (x : List ℕ) → length x ≡ 0 → row_of kind (pieces x) ≡ []
unfolding row_of
no_row kind x h = ap (row_of kind) (no_pieces x h)
