-- Bytes written over others, `paste d at s n`, a piece at a time: by way of other bytes, on, downward and upward. Assumes nothing.
use Rattle.std.proofs.Common.{◌≡◌, ℕ, ◌+◌, ◌-◌, ◌≤◌, List, ◌++◌, length, take, drop, sym, ap, ◌∙◌, append_assoc, zero-add, arith, length-drop, take-append-drop, length-take-le, take-take, drop-drop, take-add, drop_at}
use lib.Seq.{paste, take-paste, drop-paste, take-append-le, drop-append-le}

-- by way of other bytes
pub paste-through : (d z s : List ℕ) (at from n : ℕ) → from + n ≤ length s → paste d at (drop 0 (paste z 0 (drop from s) n)) n ≡ paste d at (drop from s) n
paste-through d z s at from n h =
    let inside : n ≤ length (drop from s) = simp length-drop (omega arith) in
    let same : take n (paste z 0 (drop from s) n) ≡ take n (drop from s) =
    ap (λ (m : ℕ). take m (paste z 0 (drop from s) n)) (sym (zero-add n)) ∙ take-paste z 0 (drop from s) n (omega arith) inside in
    ap (λ (l : List ℕ). take at d ++ l ++ drop (at + n) d) same

-- a copy that goes on behind the first i bytes
pub paste-on : (d s : List ℕ) (at from i k : ℕ) → at ≤ length d → from + i ≤ length s
    → paste (paste d at (drop from s) i) (at + i) (drop (from + i) s) k ≡ paste d at (drop from s) (i + k)
paste-on d s at from i k hd hs =
    let S : List ℕ = drop from s in
    let inside : i ≤ length S = simp length-drop (omega arith) in
    let sum : at + i + k ≡ at + (i + k) = omega arith in
    let far : drop (at + i + k) (paste d at S i) ≡ drop (at + (i + k)) d =
    sym (drop-drop k (at + i) (paste d at S i)) ∙ ap (drop k) (drop-paste d at S i hd inside) ∙ drop-drop k (at + i) d ∙ ap (λ (m : ℕ). drop m d) sum in
    rw (take-paste d at S i hd inside, far, take-add i k S, ← drop-drop i from s)
    (ap (λ (r : List ℕ). r ++ drop (at + (i + k)) d) (append_assoc (take at d) (take i S) (take k (drop i S))))

-- downward: what is copied next is not written over yet
pub paste-down : (x : List ℕ) (at from i k : ℕ) → at ≤ from → from + i ≤ length x
    → paste (paste x at (drop from x) i) (at + i) (drop (from + i) (paste x at (drop from x) i)) k ≡ paste x at (drop from x) (i + k)
paste-down x at from i k h l =
    let inside : i ≤ length (drop from x) = simp length-drop (omega arith) in
    let P : List ℕ = paste x at (drop from x) i in
    let e : at + i + (from - at) ≡ from + i = omega arith in
    let far : drop (from + i) P ≡ drop (from + i) x =
    rw (← e, ← drop-drop (from - at) (at + i) P, drop-paste x at (drop from x) i (omega arith) inside) (drop-drop (from - at) (at + i) x) in
    rw far (paste-on x x at from i k (omega arith) l)

-- upward, k bytes before the last i: they are not written over yet
paste-before : (x : List ℕ) (at from k i : ℕ) → from ≤ at → at + k + i ≤ length x
    → paste (paste x (at + k) (drop (from + k) x) i) at (drop from (paste x (at + k) (drop (from + k) x) i)) k ≡ paste x at (drop from x) (k + i)
paste-before x at from k i h l =
    let A : List ℕ = take (at + k) x in
    let M : List ℕ = take i (drop (from + k) x) in
    let R : List ℕ = drop (at + k + i) x in
    let la : length A ≡ at + k = length-take-le (at + k) x (omega arith) in
    let inside : k ≤ length (drop from A) = simp length-drop (omega arith) in
    let front : (Q : List ℕ) → take k (drop from (A ++ Q)) ≡ take k (drop from A) =
    λ Q. rw (drop-append-le from A Q (omega arith)) (take-append-le k (drop from A) Q inside) in
    let same : take k (drop from (A ++ (M ++ R))) ≡ take k (drop from x) =
    front (M ++ R) ∙ sym (front (drop (at + k) x)) ∙ ap (λ (l : List ℕ). take k (drop from l)) (take-append-drop (at + k) x) in
    let head : take at (A ++ (M ++ R)) ≡ take at x = take-append-le at A (M ++ R) (omega arith) ∙ take-take at (at + k) x (omega arith) in
    let sum : at + (k + i) ≡ at + k + i = omega arith in
    rw (append_assoc A M R, same, head, drop_at A (M ++ R) (at + k) la, take-add k i (drop from x), drop-drop k from x, sum) (simp append_assoc)

-- and so from the last bytes on, `left` of n bytes being left
pub paste-up : (x : List ℕ) (at from n left k : ℕ) → k ≤ left → left ≤ n → from ≤ at → at + n ≤ length x
    → paste (paste x (at + left) (drop (from + left) x) (n - left)) (at + (left - k)) (drop (from + (left - k)) (paste x (at + left) (drop (from + left) x) (n - left))) k
    ≡ paste x (at + (left - k)) (drop (from + (left - k)) x) (n - (left - k))
paste-up x at from n left k few some h l =
    let m : ℕ = left - k in
    let to : at + m + k ≡ at + left = omega arith in
    let of : from + m + k ≡ from + left = omega arith in
    let sum : k + (n - left) ≡ n - m = omega arith in
    rw to (rw (to, of, sum) at (paste-before x (at + m) (from + m) k (n - left) (omega arith) (omega arith)))
