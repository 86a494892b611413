-- Laws of bytes written into a buffer, `laid d at out`. Assumes nothing.
use Rattle.std.proofs.Common.{◌≡◌, ℕ, ◌+◌, ◌-◌, ◌≤◌, List, [], ◌++◌, length, take, drop, sym, ap, ◌∙◌, append_assoc, add-zero, zero-add, arith, length-append, length-drop, take-append-drop, length-take-le, drop-drop, take_at, drop_at}
use Rattle.text.specs.Buffer.{laid}
use Rattle.text.proofs.Parts.{put}

-- a part that is lent, and is `out` when it comes back
pub laid-lent : (d : List ℕ) (at : ℕ) (out : List ℕ) → put at (at + length out) d out ≡ laid d at out
unfolding laid
laid-lent d at out =
    let n : at + length out - at ≡ length out = omega arith in
    rw (n, drop-drop (length out) at d)

pub laid_none : (d : List ℕ) (at : ℕ) → laid d at [] ≡ d
unfolding laid
laid_none d at = rw (add-zero at) (take-append-drop at d)

module _ (d : List ℕ) (at : ℕ) (a : List ℕ) (fits : at + length a ≤ length d) where
  pub laid-length : length (laid d at a) ≡ length d
  unfolding laid
  laid-length = simp (length-append, length-drop) (rw (length-take-le at d (omega arith)) (omega arith))

  head-length : length (take at d ++ a) ≡ at + length a
  head-length = rw (length-append, length-take-le at d (omega arith))

  -- bytes written after bytes
  pub laid-laid : (b : List ℕ) → laid (laid d at a) (at + length a) b ≡ laid d at (a ++ b)
  unfolding laid
  laid-laid b =
      let rest : List ℕ = drop (at + length a) d in
      let sum : at + length a + length b ≡ at + length (a ++ b) = rw length-append (omega arith) in
      let far : drop (length b) rest ≡ drop (at + length (a ++ b)) d =
      drop-drop (length b) (at + length a) d ∙ ap (λ (n : ℕ). drop n d) sum in
      rw (← append_assoc (take at d) a rest, take_at (take at d ++ a) rest (at + length a) head-length, ← drop-drop (length b) (at + length a) (take at d ++ a ++ rest), drop_at (take at d ++ a) rest (at + length a) head-length, far)
      (append_assoc (take at d) a (b ++ drop (at + length (a ++ b)) d) ∙ ap (λ (r : List ℕ). take at d ++ r) (sym (append_assoc a b (drop (at + length (a ++ b)) d))))

-- from the buffer's start
pub laid-zero : (d out : List ℕ) → laid d 0 out ≡ out ++ drop (length out) d
unfolding laid
laid-zero d out = rw (zero-add (length out))
