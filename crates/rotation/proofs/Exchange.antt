-- Two blocks exchanged byte by byte. No function of this repository does so (std's `rotate_left` turns all at once); the law is for one that does. Assumes nothing.
use mathlib.Core.Path.{◌≡◌, sym, ap, ◌∙◌}
use Prim.Native.Nat.{ℕ, suc, ◌+◌, ◌-◌, ◌<◌}
use native.Mathlib.Numerals.{add-one}
use native.Mathlib.Omega.{arith}
use mathlib.Core.List.{List, ◌∷◌, ◌++◌, append_assoc}
use lib.ListN.{length, take, drop, get_or, set, length-append, length-drop}
use lib.Seq.{take-suc, drop-cons, set_at, get_or_at, get_or-take, get_or-drop, length-take-le}
use Rattle.rotation.specs.Rotation.{exchanged}

-- two bytes
swap-two : (p q t : List ℕ) (a b i j : ℕ) → length p ≡ i → length (p ++ (a ∷ q)) ≡ j
    → set (set (p ++ (a ∷ (q ++ (b ∷ t)))) i (get_or (p ++ (a ∷ (q ++ (b ∷ t)))) j 0)) j (get_or (p ++ (a ∷ (q ++ (b ∷ t)))) i 0) ≡ p ++ (b ∷ (q ++ (a ∷ t)))
swap-two p q t a b i j li lj =
    let far : get_or (p ++ (a ∷ (q ++ (b ∷ t)))) j 0 ≡ b = rw (← append_assoc p (a ∷ q) (b ∷ t)) (get_or_at (p ++ (a ∷ q)) b t 0 j lj) in
    let near : get_or (p ++ (a ∷ (q ++ (b ∷ t)))) i 0 ≡ a = get_or_at p a (q ++ (b ∷ t)) 0 i li in
    let lb : length (p ++ (b ∷ q)) ≡ j = length-append p (b ∷ q) ∙ sym (length-append p (a ∷ q)) ∙ lj in
    rw (far, near, set_at p a (q ++ (b ∷ t)) b i li, ← append_assoc p (b ∷ q) (b ∷ t), set_at (p ++ (b ∷ q)) b t a j lb, append_assoc p (b ∷ q) (a ∷ t))

-- one pair more of two blocks that are exchanged
pub exchange-step : (k i : ℕ) (x : List ℕ) → i < k → k + i < length x
    → set (set (exchanged k i x) i (get_or (exchanged k i x) (k + i) 0)) (k + i) (get_or (exchanged k i x) i 0) ≡ exchanged k (i + 1) x
unfolding exchanged
exchange-step k i x h l =
    let D : List ℕ = drop k x in
    let T : List ℕ = take k x in
    let lt : length T ≡ k = length-take-le k x (omega arith) in
    let ld : length D ≡ length x - k = length-drop k x in
    let a : ℕ = get_or x i 0 in
    let b : ℕ = get_or D i 0 in
    let p : List ℕ = take i D in
    let q : List ℕ = drop (suc i) T ++ take i x in
    let t : List ℕ = drop (suc (k + i)) x in
    let li : length p ≡ i = length-take-le i D (omega arith) in
    let lq : length (p ++ (a ∷ q)) ≡ k + i = simp (length-append, length-drop) (omega (arith, lt, li, length-take-le i x (omega arith))) in
    let dT : drop i T ≡ a ∷ drop (suc i) T = drop-cons T i 0 (omega arith) ∙ ap (λ (z : ℕ). z ∷ drop (suc i) T) (get_or-take k x i 0 h) in
    let dx : drop (k + i) x ≡ b ∷ t = drop-cons x (k + i) 0 l ∙ ap (λ (z : ℕ). z ∷ t) (sym (get_or-drop k x i 0)) in
    let now : take i D ++ (drop i T ++ (take i x ++ drop (k + i) x)) ≡ p ++ (a ∷ (q ++ (b ∷ t))) =
    rw (dT, dx) (ap (λ (z : List ℕ). p ++ (a ∷ z)) (sym (append_assoc (drop (suc i) T) (take i x) (b ∷ t)))) in
    let further : k + (i + 1) ≡ suc (k + i) = omega arith in
    rw now
    (swap-two p q t a b i (k + i) li lq
    ∙ rw (further, add-one i, take-suc D i 0 (omega arith), take-suc x i 0 (omega arith)) (simp append_assoc))
