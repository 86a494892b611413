-- Laws of what a scan passes: the places before the string's first byte, the spaces before the text. Assumes nothing.
use mathlib.Core.Path.{◌≡◌, refl, sym}
use mathlib.Core.Bool.{Bool, true, false}
use mathlib.Core.List.{List, [], ◌∷◌}
use Prim.Native.Nat.{ℕ, zero, suc, ◌+◌, ◌-◌, ◌<◌, min}
use native.Mathlib.Nat.{le_of_eq, not-suc-le-zero, add-zero}
use native.Mathlib.Omega.{arith}
use lib.ListN.{length, drop, get_or}
use lib.Dec.{eqb}
use Rattle.definitions.specs.Bytes.{upper}
use Rattle.definitions.specs.Matching.{folded, leading_spaces}
use Rattle.scans.specs.Leading.{leading, is_of}
use Rattle.scans.specs.declared.Kind.TheVariants.{Only, Not, NotFolded}
use Rattle.scans.proofs.Runs.{reach}
use Rattle.matching.specs.Scan.{is_other, other_places}

-- the string's first byte
module _ (l s : List ℕ) (i top : ℕ) where
  pub no-first : (u : Bool) → length s ≡ 0 → i ≡ i + other_places u s (top - i) (drop i l)
  unfolding other_places
  no-first u e = go s e
    where
      go : (s : List ℕ) → length s ≡ 0 → i ≡ i + other_places u s (top - i) (drop i l)
      go [] e = sym (add-zero i)
      go (b ∷ s) e = absurd (not-suc-le-zero (le_of_eq e))

  pub first_plain : (u : Bool) → u ≡ false → 0 < length s → reach (is_of (Not (get_or s 0 0))) l i top ≡ i + other_places u s (top - i) (drop i l)
  unfolding other_places is_other folded is_of
  first_plain u e h = rw e (go s h)
    where
      go : (s : List ℕ) → 0 < length s → reach (is_of (Not (get_or s 0 0))) l i top ≡ i + other_places false s (top - i) (drop i l)
      go [] h = absurd (not-suc-le-zero h)
      go (b ∷ s) h = refl

  pub first-upper : (u : Bool) → u ≡ true → 0 < length s → (b : ℕ) → b ≡ upper (get_or s 0 0)
      → reach (is_of (NotFolded b)) l i top ≡ i + other_places u s (top - i) (drop i l)
  unfolding other_places is_other folded is_of
  first-upper u e h b k = rw (e, k) (go s h)
    where
      go : (s : List ℕ) → 0 < length s → reach (is_of (NotFolded (upper (get_or s 0 0)))) l i top ≡ i + other_places true s (top - i) (drop i l)
      go [] h = absurd (not-suc-le-zero h)
      go (b ∷ s) h = refl

-- spaces
pub spaces-first : (n : ℕ) (l : List ℕ) → leading (is_of (Only 32)) n l ≡ min (leading_spaces l) n
unfolding leading is_of leading_spaces
spaces-first zero l = omega arith
spaces-first (suc n) [] = omega arith
spaces-first (suc n) (b ∷ l) = go (eqb b 32) (spaces-first n l)
  where
    go : (t : Bool) → leading (is_of (Only 32)) n l ≡ min (leading_spaces l) n
        → elim t [ true ↦ suc (leading (is_of (Only 32)) n l) | false ↦ 0 ] ≡ min (elim t [ true ↦ suc (leading_spaces l) | false ↦ 0 ]) (suc n)
    go true h = omega arith
    go false h = omega arith
