-- Bytes that are written one after another over the first bytes of a list. Assumes nothing.
use mathlib.Core.Path.{◌≡◌, sym, ap, ◌∙◌}
use Prim.Native.Nat.{ℕ, suc, ◌+◌, ◌≤◌, ◌<◌}
use native.Mathlib.Omega.{arith}
use mathlib.Core.List.{List, [], ◌∷◌, ◌++◌, append_assoc}
use lib.ListN.{length, take, drop, get_or, set, length-append, length-drop, take-append-drop}
use lib.Seq.{drop-cons, drop-drop, set_at, take_at, length-take-le, paste}
use Rattle.text.proofs.Pastes.{paste-parts}
use Rattle.changes.specs.Current.{written}

module _ (d x : List ℕ) (k : ℕ) {r q : List ℕ} (was : r ≡ written d x) (long : length x ≡ k) where
  -- one byte more
  pub then-byte : (v : ℕ) → q ≡ set r k v → k < length d → q ≡ written d (x ++ (v ∷ []))
  unfolding written
  then-byte v e h =
      let n : length (x ++ (v ∷ [])) ≡ suc k = simp length-append (omega arith) in
      e ∙ rw (was, long, n, drop-cons d k 0 h, set_at x (get_or d k 0) (drop (suc k) d) v k long) (sym (append_assoc x (v ∷ []) (drop (suc k) d)))

  -- n bytes more
  pub then-part : (s : List ℕ) (n : ℕ) → q ≡ paste r k s n → n ≤ length s → k + n ≤ length d → q ≡ written d (x ++ take n s)
  unfolding written
  then-part s n e hs h =
      let D : List ℕ = drop k d in
      let room : n ≤ length D = simp length-drop (omega arith) in
      let is : r ≡ x ++ (take n D ++ drop n D) = was ∙ rw (long, take-append-drop n D) in
      let l : length (x ++ take n s) ≡ k + n = simp length-append (omega (arith, length-take-le n s hs)) in
      e ∙ ap (λ (z : List ℕ). paste z k s n) is ∙ paste-parts x (take n D) (drop n D) s k n long (length-take-le n D room)
      ∙ rw (l, drop-drop n k d) (sym (append_assoc x (take n s) (drop (k + n) d)))

pub first-written : (d x : List ℕ) (n : ℕ) → length x ≡ n → take n (written d x) ≡ x
unfolding written
first-written d x n e = take_at x (drop (length x) d) n e
