-- Whether no mark is set, as the code tests it. Assumes nothing.
use Rattle.std.specs.Prelude.{◌≡◌, refl, Bool, true, ◌&&◌, List, [], ◌∷◌, ◌++◌, ℕ, zero, suc, ◌≤◌, length, take, eqb}
use Rattle.std.proofs.Common.{ap, ap₂, not-suc-le-zero, arith, eqb-true}
use Rattle.std.proofs.Math.Bool.{and-eq-true_iff}
use Rattle.marks.specs.Sweeping.{never, no_marks}

unfoldable pub are_idle : List ℕ → Bool
are_idle [] = true
are_idle (m ∷ ms) = eqb m never && are_idle ms

pub idle-none : (ms : List ℕ) → are_idle ms ≡ true → ms ≡ no_marks (length ms)
unfolding are_idle no_marks
idle-none [] h = refl
idle-none (m ∷ ms) h =
    let both = (and-eq-true_iff (eqb m never) (are_idle ms)).0 h in
    ap₂ ◌∷◌ (eqb-true m never both.0) (idle-none ms both.1)

pub none-idle : (n : ℕ) → are_idle (no_marks n) ≡ true
unfolding are_idle no_marks never
none-idle zero = refl
none-idle (suc n) = none-idle n

none-taken : (n k : ℕ) → are_idle (take n (no_marks k)) ≡ true
unfolding are_idle no_marks never
none-taken zero k = refl
none-taken (suc n) zero = refl
none-taken (suc n) (suc k) = none-taken n k

-- what comes after the marks of a pattern is never set
pub idle-first : (ms : List ℕ) (n k : ℕ) → length ms ≤ n → are_idle (take n (ms ++ no_marks k)) ≡ are_idle ms
unfolding are_idle
idle-first [] n k h = none-taken n k
idle-first (m ∷ ms) zero k h = absurd (not-suc-le-zero h)
idle-first (m ∷ ms) (suc n) k h = ap (λ (t : Bool). eqb m never && t) (idle-first ms n k (omega arith))
