-- Laws of word sets, for callers: a set goes by its three words alone. Assumes nothing.
use Rattle.std.specs.Prelude.{◌≡◌, Bool, ◌&&◌, List, ◌++◌, ℕ, ◌+◌, ◌-◌, ◌/◌, ◌%◌, ◌≤◌, ◌<◌, length, take, drop, get_or}
use Rattle.std.proofs.Math.Path.{refl, ap}
use Rattle.std.proofs.Common.{sym, ◌∙◌, zero-add, arith, length-append, get_or-take, get_or-drop, get_or-append-add, length-take-le}
use Rattle.std.proofs.Math.Bool.{true, false}
use Rattle.std.proofs.Math.ListN.{get_or-append}
use Rattle.std.proofs.lemmas.List.Edits.{sets, sets-eq}
use Rattle.std.proofs.Math.Dec.{leb, ltb}
use borrow.Author.Tests.{ltb-true}
use Rattle.wordset.specs.Sets.{has_bit, in_set}

module _ (w w' : List ℕ) (i j : ℕ) (same : (n : ℕ) → n < 3 → get_or w (i + n) 0 ≡ get_or w' (j + n) 0) where
  same_byte : (b : ℕ) → in_set w i b ≡ in_set w' j b
  unfolding in_set
  same_byte b = go (ltb b 128) refl
    where
      go : (t : Bool) → ltb b 128 ≡ t
          → (leb 32 b && (t && has_bit (get_or w (i + (b / 32 - 1)) 0) (b % 32))) ≡ (leb 32 b && (t && has_bit (get_or w' (j + (b / 32 - 1)) 0) (b % 32)))
      go true e = let low = ltb-true b 128 e in ap (λ (x : ℕ). leb 32 b && has_bit x (b % 32)) (same (b / 32 - 1) (omega arith))
      go false e = refl

  -- the same three words hold the same set, wherever they stand
  pub same_set : in_set w i ≡ in_set w' j
  same_set = λ k b. same_byte b k

-- a part that is lent holds the set that its first three words hold
pub part-set : (w : List ℕ) (i n : ℕ) → 3 ≤ n → in_set (take n (drop i w)) 0 ≡ in_set w i
part-set w i n h = same_set (take n (drop i w)) w 0 i (λ m low. rw (zero-add m) (get_or-take n (drop i w) m 0 (omega arith) ∙ get_or-drop i w m 0))

-- words that are written stand where they are written
pub written : (w vs : List ℕ) (k n : ℕ) → k + length vs ≤ length w → n < length vs → get_or (sets w k vs) (k + n) 0 ≡ get_or vs n 0
written w vs k n fits low =
    let before : length (take k w) ≡ k = length-take-le k w (omega arith) in
    let inside : k + n < length (take k w ++ vs) = simp length-append (omega arith) in
    rw (sets-eq vs w k fits)
    (get_or-append (take k w ++ vs) (drop (k + length vs) w) 0 (k + n) inside
    ∙ ap (λ (m : ℕ). get_or (take k w ++ vs) (m + n) 0) (sym before)
    ∙ get_or-append-add (take k w) vs n 0)

-- a set that is written stands where it is written
pub written-set : (w vs : List ℕ) (k : ℕ) → length vs ≡ 3 → k + 3 ≤ length w → in_set (sets w k vs) k ≡ in_set vs 0
written-set w vs k three fits = same_set (sets w k vs) vs k 0 (λ n low. rw (zero-add n) (written w vs k n (omega arith) (omega arith)))
