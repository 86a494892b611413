-- The laws of walking bytes by lines. Assumes nothing.
use mathlib.Core.Path.{◌≡◌, refl, ◌∙◌}
use Prim.Native.Nat.{ℕ, zero, suc, ◌+◌, ◌≤◌, ◌<◌}
use native.Mathlib.Omega.{arith}
use native.Mathlib.Nat.{not-suc-le-zero, add-zero, add-suc}
use mathlib.Core.List.{List, [], ◌∷◌, ◌++◌}
use lib.ListN.{length, get_or, get_or-append}
use lib.Seq.{get_or-append-add}
use borrow.Author.Tests.{ne_eqb}
use Rattle.text.specs.Feeds.{line_length, line_start}

-- no line feed
unfoldable pub NoLF : List ℕ → Type 0
NoLF [] = Unit {0}
NoLF (x ∷ l) = (x ≡ 10 → ⊥) × NoLF l

pub no_lf-append : (l m : List ℕ) → NoLF l → NoLF m → NoLF (l ++ m)
unfolding NoLF
no_lf-append [] m h k = k
no_lf-append (x ∷ l) m h k = (h.0, no_lf-append l m h.1 k)

-- a line and what follows it
pub line_of : (l z : List ℕ) → NoLF l → line_length (l ++ (10 ∷ z)) ≡ suc (length l)
unfolding NoLF line_length
line_of [] z n = refl
line_of (x ∷ l) z n = rw (ne_eqb x 10 n.0, line_of l z n.1)

no-at : (l : List ℕ) (i : ℕ) → NoLF l → i < length l → get_or l i 0 ≡ 10 → ⊥
unfolding NoLF
no-at [] i n h = absurd (not-suc-le-zero h)
no-at (x ∷ l) zero n h = n.0
no-at (x ∷ l) (suc i) n h = no-at l i n.1 (omega arith)

-- from inside a text without line feeds, the line starts where it does at the text's start
pub back-over : (p l z : List ℕ) → NoLF l → (n : ℕ) → n ≤ length l → line_start (p ++ (l ++ z)) (length p + n) ≡ line_start (p ++ (l ++ z)) (length p)
unfolding line_start
back-over p l z nl zero h = rw add-zero
back-over p l z nl (suc n) h =
    let byte : get_or (p ++ (l ++ z)) (length p + n) 0 ≡ get_or l n 0 = get_or-append-add p (l ++ z) n 0 ∙ get_or-append l z 0 n (omega arith) in
    rw (add-suc (length p) n, line_start, byte, ne_eqb (get_or l n 0) 10 (no-at l n nl (omega arith))) (back-over p l z nl n (omega arith))
