-- Bytes written over others, `paste d at s n`. Assumes nothing.
use Rattle.std.proofs.Common.{◌≡◌, ℕ, ◌+◌, List, ◌++◌, length, take, drop, append_assoc, arith, length-append, take_at, drop_at}
use lib.Seq.{paste}

-- a part of a buffer that is written over
pub paste-parts : (A M Z s : List ℕ) (at n : ℕ) → length A ≡ at → length M ≡ n → paste (A ++ (M ++ Z)) at s n ≡ A ++ (take n s ++ Z)
paste-parts A M Z s at n la lm =
    let l : length (A ++ M) ≡ at + n = simp length-append (omega arith) in
    let d : drop (at + n) (A ++ (M ++ Z)) ≡ Z = rw (← append_assoc A M Z) (drop_at (A ++ M) Z (at + n) l) in
    rw (take_at A (M ++ Z) at la, d) (append_assoc A (take n s) Z)
