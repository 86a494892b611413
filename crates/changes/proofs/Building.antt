-- Records and lines that are built from parts. Assumes nothing.
use mathlib.Core.Path.{◌≡◌, refl, ap, ◌∙◌}
use Prim.Native.Nat.{ℕ, ◌+◌, ◌-◌, ◌≤◌}
use native.Mathlib.Omega.{arith}
use mathlib.Core.List.{List, [], ◌∷◌, ◌++◌, append_assoc}
use lib.ListN.{length, take, drop, set, length-append, length-drop}
use lib.Seq.{take_all, length-take-le, paste}
use Rattle.definitions.specs.Edit.{splice}
use Rattle.changes.specs.Current.{written}
use Rattle.changes.proofs.Written.{then-byte, then-part}

module _ (d line : List ℕ) (len : ℕ) (fits : len ≤ length line) where
  pub plain-built : (mark : ℕ) {r1 r2 r3 r4 : List ℕ} → len + 3 ≤ length d
      → r1 ≡ set d 0 mark → r2 ≡ set r1 1 mark → r3 ≡ paste r2 2 (drop 0 line) len → r4 ≡ set r3 (len + 2) 10
      → r4 ≡ written d (mark ∷ mark ∷ (take len line ++ (10 ∷ [])))
  unfolding written
  plain-built mark room e1 e2 e3 e4 =
      let l : length (mark ∷ mark ∷ take len line) ≡ len + 2 = omega (arith, length-take-le len line fits) in
      then-byte d (mark ∷ mark ∷ take len line) (len + 2)
      (then-part d (mark ∷ mark ∷ []) 2 (then-byte d (mark ∷ []) 1 (then-byte d [] 0 refl refl mark e1 (omega arith)) refl mark e2 (omega arith)) refl line len e3 fits (omega arith))
      l 10 e4 (omega arith)

  pub changed-built : (old : List ℕ) (n : ℕ) {r1 r2 r3 r4 r5 r6 : List ℕ} → n ≤ length old → n + len + 4 ≤ length d
      → r1 ≡ set d 0 60 → r2 ≡ set r1 1 62 → r3 ≡ paste r2 2 old n → r4 ≡ set r3 (n + 2) 0 → r5 ≡ paste r4 (n + 3) (drop 0 line) len → r6 ≡ set r5 (n + len + 3) 10
      → r6 ≡ written d (60 ∷ 62 ∷ ((take n old ++ (0 ∷ take len line)) ++ (10 ∷ [])))
  unfolding written
  changed-built old n have room e1 e2 e3 e4 e5 e6 =
      let O : List ℕ = take n old in
      let lo : length O ≡ n = length-take-le n old have in
      let two : _ = then-byte d (60 ∷ []) 1 (then-byte d [] 0 refl refl 60 e1 (omega arith)) refl 62 e2 (omega arith) in
      let three : _ = then-part d (60 ∷ 62 ∷ []) 2 two refl old n e3 have (omega arith) in
      let four : _ = then-byte d (60 ∷ 62 ∷ O) (n + 2) three (omega arith) 0 e4 (omega arith) in
      let l4 : length (60 ∷ 62 ∷ (O ++ (0 ∷ []))) ≡ n + 3 = simp length-append (omega arith) in
      let five : _ = then-part d (60 ∷ 62 ∷ (O ++ (0 ∷ []))) (n + 3) four l4 line len e5 fits (omega arith) in
      let l5 : length (60 ∷ 62 ∷ ((O ++ (0 ∷ [])) ++ take len line)) ≡ n + len + 3 = simp length-append (omega (arith, length-take-le len line fits)) in
      let six : _ = then-byte d (60 ∷ 62 ∷ ((O ++ (0 ∷ [])) ++ take len line)) (n + len + 3) five l5 10 e6 (omega arith) in
      six ∙ ap (λ (z : List ℕ). written d (60 ∷ 62 ∷ (z ++ (10 ∷ [])))) (append_assoc O (0 ∷ []) (take len line))

-- the line with other bytes for some of its own
pub splice-built : (d old new : List ℕ) (i n m : ℕ) {r1 r2 r3 : List ℕ} → i + n ≤ length old → m ≤ length new → length old + m ≤ length d + n
    → r1 ≡ paste d 0 (drop 0 old) i → r2 ≡ paste r1 i (drop 0 new) m → r3 ≡ paste r2 (i + m) (drop (i + n) old) (length old - (i + n))
    → r3 ≡ written d (splice old i n (take m new))
unfolding splice written
splice-built d old new i n m order have room e1 e2 e3 =
    let one : _ = then-part d [] 0 refl refl old i e1 (omega arith) (omega arith) in
    let l1 : length (take i old) ≡ i = length-take-le i old (omega arith) in
    let two : _ = then-part d (take i old) i one l1 new m e2 have (omega arith) in
    let l2 : length (take i old ++ take m new) ≡ i + m = simp length-append (omega (arith, length-take-le m new have)) in
    let R : List ℕ = drop (i + n) old in
    let lr : length R ≡ length old - (i + n) = length-drop (i + n) old in
    let three : _ = then-part d (take i old ++ take m new) (i + m) two l2 R (length old - (i + n)) e3 (omega arith) (omega arith) in
    let all : take (length old - (i + n)) R ≡ R = take_all (length old - (i + n)) R (omega arith) in
    let whole : (take i old ++ take m new) ++ take (length old - (i + n)) R ≡ take i old ++ (take m new ++ R) = rw all (append_assoc (take i old) (take m new) R) in
    three ∙ ap (λ (z : List ℕ). written d z) whole
