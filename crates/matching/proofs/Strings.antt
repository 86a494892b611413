-- Laws of the string at a place. Assumes nothing.
use mathlib.Core.Path.{◌≡◌}
use mathlib.Core.Bool.{Bool, true, false}
use mathlib.Core.List.{List}
use Prim.Native.Nat.{ℕ, ◌+◌, ◌≤◌, ◌<◌}
use native.Mathlib.Nat.{add-suc}
use native.Mathlib.Numerals.{add-one}
use native.Mathlib.Omega.{arith}
use lib.ListN.{length, drop, get_or, drop_of_length-le}
use lib.Seq.{drop-cons}
use borrow.Author.Tests.{eq-eqb, ne_eqb}
use Rattle.definitions.specs.Bytes.{upper}
use Rattle.definitions.specs.Matching.{folded, stands_first, is_apart, stands_at}

module _ (u : Bool) (s l : List ℕ) (at k : ℕ) where
  pub whole : length s ≤ k → stands_first u (drop k s) (drop (at + k) l) ≡ true
  unfolding stands_first
  whole h = rw (drop_of_length-le s {i = k} h)

  module _ (more : k < length s) (fits : at + length s ≤ length l) where
    pub differs : (folded u (get_or s k 0) ≡ folded u (get_or l (at + k) 0) → ⊥) → stands_first u (drop k s) (drop (at + k) l) ≡ false
    unfolding stands_first
    differs e =
        let h : at + k < length l = omega arith in
        rw (drop-cons s k 0 more, drop-cons l (at + k) 0 h, ne_eqb (folded u (get_or s k 0)) (folded u (get_or l (at + k) 0)) e)

    pub agrees : folded u (get_or s k 0) ≡ folded u (get_or l (at + k) 0) → stands_first u (drop k s) (drop (at + k) l) ≡ stands_first u (drop (k + 1) s) (drop (at + (k + 1)) l)
    unfolding stands_first
    agrees e =
        let h : at + k < length l = omega arith in
        rw (drop-cons s k 0 more, drop-cons l (at + k) 0 h, eq-eqb (folded u (get_or s k 0)) (folded u (get_or l (at + k) 0)) e, add-one k, add-suc at k)

module _ (s l : List ℕ) (at k : ℕ) (more : k < length s) (fits : at + length s ≤ length l) where
  pub plain-differs : (get_or s k 0 ≡ get_or l (at + k) 0 → ⊥) → stands_first false (drop k s) (drop (at + k) l) ≡ false
  unfolding folded
  plain-differs e = differs false s l at k more fits e

  pub plain-agrees : get_or s k 0 ≡ get_or l (at + k) 0 → stands_first false (drop k s) (drop (at + k) l) ≡ stands_first false (drop (k + 1) s) (drop (at + (k + 1)) l)
  unfolding folded
  plain-agrees e = agrees false s l at k more fits e

  pub upper-differs : (upper (get_or s k 0) ≡ upper (get_or l (at + k) 0) → ⊥) → stands_first true (drop k s) (drop (at + k) l) ≡ false
  unfolding folded
  upper-differs e = differs true s l at k more fits e

  pub upper-agrees : upper (get_or s k 0) ≡ upper (get_or l (at + k) 0) → stands_first true (drop k s) (drop (at + k) l) ≡ stands_first true (drop (k + 1) s) (drop (at + (k + 1)) l)
  unfolding folded
  upper-agrees e = agrees true s l at k more fits e

module _ (isWord : ℕ → Bool) (w u : Bool) (s l : List ℕ) (at : ℕ) where
  pub not-here : stands_first u s (drop at l) ≡ false → stands_at isWord w u s l at ≡ false
  unfolding stands_at
  not-here e = rw e

  module _ (first : stands_first u s (drop at l) ≡ true) where
    pub here-apart : w ≡ true → stands_at isWord w u s l at ≡ is_apart isWord true l at (at + length s)
    unfolding stands_at
    here-apart e = rw (first, e)

    pub here : w ≡ false → stands_at isWord w u s l at ≡ true
    unfolding stands_at is_apart
    here e = rw (first, e)

pub as-asked : (u v : Bool) (s bs : List ℕ) → u ≡ v → stands_first v s bs ≡ stands_first u s bs
as-asked u v s bs e = rw e
