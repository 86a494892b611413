-- A sweep from no marks on: what it says of the empty match, and of the byte. Assumes nothing.
use mathlib.Core.Path.{◌≡◌, refl, sym, ap, ap₂, ◌∙◌}
use mathlib.Core.Bool.{Bool, true, false, cond, not, ◌||◌, not-not}
use mathlib.Core.List.{List, ◌∷◌, ◌++◌}
use Prim.Native.Nat.{ℕ, zero, suc, ◌+◌, ◌-◌, ◌≤◌}
use native.Mathlib.Omega.{arith}
use lib.ListN.{take, drop, replicate}
use lib.Seq.{drop_at}
use Rattle.definitions.specs.Patterns.{Pattern}
use Rattle.marks.specs.Sweeping.{never, slots, out_of, swept, no_marks, takes_none, begins}
use Rattle.marks.specs.Fronts.{swept-length, out-front, swept-front}
use Rattle.marks.specs.Idle.{idle, none-length, none-append, out_none, idle-stays, idle-moves}
use Rattle.marks.specs.Idling.{are_idle, idle-none, none-idle, idle-first}
use Rattle.leads.specs.Leading.{may_begin}

-- no marks, as the code writes them
abbrev filled : ℕ → List ℕ
filled n = replicate n 65535

filled_none : (n : ℕ) → filled n ≡ no_marks n
unfolding never no_marks
filled_none zero = refl
filled_none (suc n) = ap (λ (ms : List ℕ). 65535 ∷ ms) (filled_none n)

-- no mark is set exactly if the byte begins no match
idle-after : (b : ℕ) (p : Pattern) → are_idle (swept b 0 p (idle p)) ≡ not (begins p b)
unfolding never
idle-after b p = go (begins p b) refl (are_idle (swept b 0 p (idle p))) refl
  where
    go : (t : Bool) → begins p b ≡ t → (u : Bool) → are_idle (swept b 0 p (idle p)) ≡ u → u ≡ not t
    go false e u f = sym f ∙ ap are_idle (idle-stays b 0 p e) ∙ none-idle (slots p)
    go true e true f =
        absurd (idle-moves b 0 p (omega arith) e (idle-none (swept b 0 p (idle p)) f ∙ ap no_marks (swept-length b 0 p (idle p))))
    go true e false f = refl

-- n marks, with room for those of the pattern
module _ (p : Pattern) (b n : ℕ) (room : slots p ≤ n) where
  rest : List ℕ
  rest = no_marks (n - slots p)

  parted : no_marks n ≡ idle p ++ rest
  unfolding rest
  parted = let long : n ≡ slots p + (n - slots p) = omega arith in ap no_marks long ∙ none-append (slots p) (n - slots p)

  out-of-none : out_of 0 p (no_marks n) ≡ cond (takes_none p) 0 65535
  unfolding never
  out-of-none = ap (out_of 0 p) parted ∙ out-front 0 p (idle p) rest (none-length (slots p)) ∙ out_none p 0 (omega arith)

  swept_none : swept b 0 p (no_marks n) ++ drop (slots p) (no_marks n) ≡ swept b 0 p (idle p) ++ rest
  swept_none =
      ap₂ ◌++◌ (ap (swept b 0 p) parted ∙ swept-front b 0 p (idle p) rest (none-length (slots p)))
      (ap (drop (slots p)) parted ∙ drop_at (idle p) rest (slots p) (none-length (slots p)))

  -- what the sweep answers, and the marks after it
  module _ (out : ℕ) (ms : List ℕ) (told : (out ≡ out_of 0 p (filled n)) × (ms ≡ swept b 0 p (filled n) ++ drop (slots p) (filled n))) where
    out-is : out ≡ cond (takes_none p) 0 65535
    out-is = told.0 ∙ ap (out_of 0 p) (filled_none n) ∙ out-of-none

    -- an empty match comes out
    pub out-empty : (out ≡ 65535 → ⊥) → true ≡ may_begin p b
    unfolding may_begin
    out-empty some = go (takes_none p) refl
      where
        go : (t : Bool) → takes_none p ≡ t → true ≡ (t || begins p b)
        go true e = refl
        go false e = absurd (some (out-is ∙ ap (λ (t : Bool). cond t 0 65535) e))

    -- none does: the byte begins a match if a mark is set
    pub out-begun : out ≡ 65535 → (m : ℕ) → slots p ≤ m → (t : Bool) → t ≡ are_idle (take m ms) → not t ≡ may_begin p b
    unfolding rest may_begin
    out-begun none m long t is = ap not (is ∙ idle-told) ∙ not-not (begins p b) ∙ sym (go (takes_none p) refl)
      where
        idle-told : are_idle (take m ms) ≡ not (begins p b)
        idle-told =
            ap (λ (l : List ℕ). are_idle (take m l)) (told.1 ∙ ap (λ (l : List ℕ). swept b 0 p l ++ drop (slots p) l) (filled_none n) ∙ swept_none)
            ∙ idle-first (swept b 0 p (idle p)) m (n - slots p) (omega (arith, swept-length b 0 p (idle p), long)) ∙ idle-after b p

        go : (t : Bool) → takes_none p ≡ t → (t || begins p b) ≡ begins p b
        go true e = absurd (omega (arith, sym (out-is ∙ ap (λ (t : Bool). cond t 0 65535) e) ∙ none))
        go false e = refl
