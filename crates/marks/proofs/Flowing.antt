-- What flows through a pattern, from what flows through its parts. Assumes nothing.
use mathlib.Core.Path.{◌≡◌, refl, sym, ap, ap₂, ◌∙◌}
use mathlib.Core.Bool.{Bool, cond}
use mathlib.Core.List.{List, [], ◌∷◌, ◌++◌}
use Prim.Native.Nat.{ℕ, suc, ◌+◌, ◌<◌, min}
use native.Mathlib.Nat.{add-zero, add_assoc}
use native.Mathlib.Numerals.{add-one}
use native.Mathlib.Omega.{arith}
use lib.ListN.{length, drop, set, get_or}
use lib.Seq.{sets, drop-cons, drop-drop, drop-set-lt}
use Rattle.definitions.specs.WordSet.{Named}
use Rattle.definitions.specs.Patterns.{Pattern, one_byte, empty_row, in_row, either_of, any_number, fits}
use Rattle.wordset.proofs.Setting.{set_below}
use Rattle.marks.specs.Sweeping.{never, slots, out_of, with_end, swept}
use Rattle.marks.specs.Fronts.{swept-length, out-row, out-either}
use Rattle.marks.specs.Written.{Flows, both}
use Rattle.marks.specs.declared.Flow.{Flow}

-- ---- a run of stores

sets-append : (vs ws l : List ℕ) (i : ℕ) → sets (sets l i vs) (i + length vs) ws ≡ sets l i (vs ++ ws)
sets-append [] ws l i = ap (λ (k : ℕ). sets l k ws) (add-zero i)
sets-append (v ∷ vs) ws l i =
    let place : i + suc (length vs) ≡ suc i + length vs = omega arith in
    ap (λ (k : ℕ). sets (sets (set l i v) (suc i) vs) k ws) place ∙ sets-append vs ws (set l i v) (suc i)

drop-sets : (vs l : List ℕ) (i : ℕ) → drop (i + length vs) (sets l i vs) ≡ drop (i + length vs) l
drop-sets [] l i = refl
drop-sets (v ∷ vs) l i =
    let place : i + suc (length vs) ≡ suc i + length vs = omega arith in
    rw place (drop-sets vs (set l i v) (suc i) ∙ drop-set-lt (suc i + length vs) l i v (omega arith))

-- ---- rows and alternatives

-- past a sign of the pattern
abbrev pub past : Flow → Flow
past f = record { at = f.at + 1; slot = f.slot; old = f.old; new = f.new }

-- what flows into the alternative that begins where g is: what flowed into the first
abbrev pub another : Flow → Flow → Flow
another f g = record { at = g.at; slot = g.slot; old = f.old; new = f.new }

module _ (b : ℕ) where
  pub flows-none : (ms : List ℕ) (f : Flow) → Flows b empty_row f.at ms f ms f
  unfolding slots out_of swept
  flows-none ms f = record { at = refl; slot = sym (add-zero f.slot); old = refl; new = refl; marks = refl }

  -- the marks after those of p, where the sweep of p is written
  rest-marks : (e : ℕ) (p : Pattern) (ms : List ℕ) (k : ℕ) → drop (k + slots p) (sets ms k (swept b e p (drop k ms))) ≡ drop (slots p) (drop k ms)
  rest-marks e p ms k = rw (← swept-length b e p (drop k ms)) (drop-sets (swept b e p (drop k ms)) ms k ∙ sym (drop-drop (length (swept b e p (drop k ms))) k ms))

  module _ {p : Pattern} {mid : ℕ} {ms m₁ : List ℕ} {f g : Flow} (first : Flows b p mid ms f m₁ g) where
    abbrev ws : List ℕ
    ws = swept b f.old p (drop f.slot ms)

    long : length ws ≡ slots p
    long = swept-length b f.old p (drop f.slot ms)

    left : drop g.slot m₁ ≡ drop (slots p) (drop f.slot ms)
    left = ap₂ drop first.slot first.marks ∙ rest-marks f.old p ms f.slot

    stored : (vs : List ℕ) → sets m₁ g.slot vs ≡ sets ms f.slot (ws ++ vs)
    stored vs = ap₂ (λ l k. sets l k vs) first.marks (first.slot ∙ ap (λ (n : ℕ). f.slot + n) (sym long)) ∙ sets-append ws vs ms f.slot

    further : (q : Pattern) → g.slot + slots q ≡ f.slot + (slots p + slots q)
    further q = ap (λ (n : ℕ). n + slots q) first.slot ∙ add_assoc f.slot (slots p) (slots q)

    pub flows-row : {q : Pattern} {end : ℕ} {m₂ : List ℕ} {h : Flow} → Flows b q end m₁ g m₂ h → Flows b (in_row p q) end ms f m₂ h
    unfolding slots out_of swept
    flows-row {q = q} second =
        let vs = swept b (out_of f.old p (drop f.slot ms)) q (drop (slots p) (drop f.slot ms)) in
        let same : swept b g.old q (drop g.slot m₁) ≡ vs = ap₂ (λ e l. swept b e q l) first.old left in
        record {
          at = second.at;
          slot = second.slot ∙ further q;
          old = second.old ∙ ap₂ (λ e l. out_of e q l) first.old left;
          new = second.new ∙ ap₂ (λ e l. out_of e q l) first.new same ∙ sym (out-row p q ws vs long f.new);
          marks = second.marks ∙ ap (sets m₁ g.slot) same ∙ stored vs;
        }

    pub flows-either : {q : Pattern} {end : ℕ} {m₂ : List ℕ} {h : Flow} → Flows b q end m₁ (another f (past g)) m₂ h → Flows b (either_of p q) end ms f m₂ (both g h)
    unfolding slots out_of swept both
    flows-either {q = q} second =
        let vs = swept b f.old q (drop (slots p) (drop f.slot ms)) in
        let same : swept b f.old q (drop g.slot m₁) ≡ vs = ap (swept b f.old q) left in
        record {
          at = second.at;
          slot = second.slot ∙ further q;
          old = ap₂ min first.old (second.old ∙ ap (out_of f.old q) left);
          new = ap₂ min first.new (second.new ∙ ap (out_of f.new q) same) ∙ sym (out-either p q ws vs long f.new);
          marks = second.marks ∙ ap (sets m₁ g.slot) same ∙ stored vs;
        }

  -- ---- parts and items

  module _ (ms : List ℕ) (f : Flow) (within : f.slot < length ms) where
    -- the first mark, and those after it
    here : drop f.slot ms ≡ get_or ms f.slot 0 ∷ drop (suc f.slot) ms
    here = drop-cons ms f.slot 0 within

    pub flows-one : (m : Bool) (x : Named) (end v : ℕ) → v ≡ cond (fits m x b) f.old never
        → Flows b (one_byte m x) end ms f (set ms f.slot v) (record { at = end; slot = f.slot + 1; old = get_or ms f.slot 0; new = v })
    unfolding slots out_of swept
    flows-one m x end v e = record { at = refl; slot = refl; old = rw here refl; new = e; marks = rw e refl }

    pub flows-many : {p : Pattern} {end : ℕ} {m₁ : List ℕ} {e g : Flow} → e.slot ≡ suc f.slot → e.old ≡ min f.old (get_or ms f.slot 0) → e.new ≡ never
        → Flows b p end ms e m₁ g
        → Flows b (any_number p) end ms f (set m₁ f.slot g.new) (record { at = g.at; slot = g.slot; old = e.old; new = min f.new g.new })
    unfolding slots out_of swept with_end
    flows-many {p = p} {e = e} {g = g} slot old new inner =
        let vs = swept b e.old p (drop e.slot ms) in
        let entered : min f.old (get_or (drop f.slot ms) 0 never) ≡ e.old = ap (λ (l : List ℕ). min f.old (get_or l 0 never)) here ∙ sym old in
        let after : drop 1 (drop f.slot ms) ≡ drop e.slot ms = ap (drop 1) here ∙ ap (λ (k : ℕ). drop k ms) (sym slot) in
        let whole : with_end p (swept b (min f.old (get_or (drop f.slot ms) 0 never)) p (drop 1 (drop f.slot ms))) ≡ g.new ∷ vs =
        ap₂ (λ v l. with_end p (swept b v p l)) entered after ∙ ap (λ (v : ℕ). v ∷ vs) (sym (inner.new ∙ ap (λ (v : ℕ). out_of v p vs) new)) in
        record {
          at = inner.at;
          slot = omega (arith, inner.slot, slot);
          old = sym entered;
          new = ap (λ (l : List ℕ). min f.new (get_or l 0 never)) (sym whole);
          marks =
              ap (λ (l : List ℕ). set l f.slot g.new) inner.marks
              ∙ set_below vs ms e.slot f.slot g.new (omega (arith, slot))
              ∙ ap (λ (k : ℕ). sets (set ms f.slot g.new) k vs) slot
              ∙ ap (sets ms f.slot) (sym whole);
        }

  -- a bracket: the same with a byte before it and a byte after it
  pub flows-bracket : {p : Pattern} {end : ℕ} {ms m₁ : List ℕ} {f g : Flow}
      → Flows b p end ms (record { at = f.at + 1; slot = f.slot; old = f.old; new = f.new }) m₁ g
      → Flows b p (suc end) ms f m₁ (record { at = g.at + 1; slot = g.slot; old = g.old; new = g.new })
  flows-bracket {end = end} inner =
      record { at = ap (λ (n : ℕ). n + 1) inner.at ∙ add-one end; slot = inner.slot; old = inner.old; new = inner.new; marks = inner.marks }
