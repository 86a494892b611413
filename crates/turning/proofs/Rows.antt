-- Rows of records: where they end, and their bytes. Assumes nothing.
use mathlib.Core.Path.{◌≡◌, refl, ap}
use mathlib.Core.Bool.{Bool, true, false, cond}
use mathlib.Core.List.{List, [], ◌∷◌, ◌++◌, map}
use Prim.Native.Nat.{ℕ, ◌+◌}
use native.Mathlib.Omega.{arith}
use lib.ListN.{length, length-append}
use lib.Dec.{eqb}
use borrow.Author.Tests.{eq-eqb, ne_eqb}
use Rattle.definitions.specs.Bytes.{line_bytes}
use Rattle.definitions.specs.Journal.{Record, kept, changed, deleted, inserted, record_bytes, journal_bytes, record_length, journal_length}
use Rattle.definitions.specs.Joining.{turn_one}
use Rattle.turning.specs.Rows.{first_byte, line_in, row_of, after_row, row_bytes}

-- a record that begins with b, and one that does not
pub row_more : (b : ℕ) (r : Record) (rs : List Record) → first_byte r ≡ b → row_of b (r ∷ rs) ≡ r ∷ row_of b rs
unfolding row_of
row_more b r rs e = rw (eq-eqb (first_byte r) b e)

pub row-stops : (b : ℕ) (r : Record) (rs : List Record) → (first_byte r ≡ b → ⊥) → row_of b (r ∷ rs) ≡ []
unfolding row_of
row-stops b r rs e = rw (ne_eqb (first_byte r) b e)

-- a row, and what follows it
pub row-split : (b : ℕ) (rs : List Record) → rs ≡ row_of b rs ++ after_row b rs
unfolding row_of after_row
row-split b [] = refl
row-split b (r ∷ rs) = go (eqb (first_byte r) b) (row-split b rs)
  where
    go : (t : Bool) → rs ≡ row_of b rs ++ after_row b rs → r ∷ rs ≡ cond t (r ∷ row_of b rs) [] ++ cond t (after_row b rs) (r ∷ rs)
    go true h = ap (λ (z : List Record). r ∷ z) h
    go false h = refl

-- ---- a row of `--`, and one of `++`

line-long : (c : ℕ) (l : List ℕ) (rest : List ℕ) (n : ℕ) → length rest ≡ n → length ((c ∷ c ∷ line_bytes l) ++ rest) ≡ 3 + length l + n
unfolding line_bytes
line-long c l rest n h = omega (arith, length-append (c ∷ c ∷ (l ++ (10 ∷ []))) rest, length-append l (10 ∷ []))

pub gone_long : (c : ℕ) (rs : List Record) → length (row_bytes c (row_of 45 rs)) ≡ journal_length (row_of 45 rs)
unfolding row_of first_byte row_bytes line_in journal_length record_length
gone_long c [] = refl
gone_long c (kept l ∷ rs) = refl
gone_long c (changed o n ∷ rs) = refl
gone_long c (deleted l ∷ rs) = line-long c l (row_bytes c (row_of 45 rs)) (journal_length (row_of 45 rs)) (gone_long c rs)
gone_long c (inserted l ∷ rs) = refl

pub came-long : (c : ℕ) (rs : List Record) → length (row_bytes c (row_of 43 rs)) ≡ journal_length (row_of 43 rs)
unfolding row_of first_byte row_bytes line_in journal_length record_length
came-long c [] = refl
came-long c (kept l ∷ rs) = refl
came-long c (changed o n ∷ rs) = refl
came-long c (deleted l ∷ rs) = refl
came-long c (inserted l ∷ rs) = line-long c l (row_bytes c (row_of 43 rs)) (journal_length (row_of 43 rs)) (came-long c rs)

-- turned round, `--` are `++`
pub gone-turned : (rs : List Record) → row_bytes 43 (row_of 45 rs) ≡ journal_bytes (map turn_one (row_of 45 rs))
unfolding row_of first_byte row_bytes line_in journal_bytes record_bytes turn_one
gone-turned [] = refl
gone-turned (kept l ∷ rs) = refl
gone-turned (changed o n ∷ rs) = refl
gone-turned (deleted l ∷ rs) = ap (λ (z : List ℕ). (43 ∷ 43 ∷ line_bytes l) ++ z) (gone-turned rs)
gone-turned (inserted l ∷ rs) = refl

-- and `++` are `--`
pub came-turned : (rs : List Record) → row_bytes 45 (row_of 43 rs) ≡ journal_bytes (map turn_one (row_of 43 rs))
unfolding row_of first_byte row_bytes line_in journal_bytes record_bytes turn_one
came-turned [] = refl
came-turned (kept l ∷ rs) = refl
came-turned (changed o n ∷ rs) = refl
came-turned (deleted l ∷ rs) = refl
came-turned (inserted l ∷ rs) = ap (λ (z : List ℕ). (45 ∷ 45 ∷ line_bytes l) ++ z) (came-turned rs)
