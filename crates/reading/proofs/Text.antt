-- A kept record's text in the buffer, and a changed record in its place. Assumes nothing.
use mathlib.Core.Path.{◌≡◌, refl, sym, ap, ◌∙◌}
use mathlib.Core.Bool.{Bool, true}
use Prim.Native.Nat.{ℕ, suc, ◌+◌, ◌-◌, ◌≤◌}
use native.Mathlib.Omega.{arith}
use mathlib.Core.List.{List, [], ◌∷◌, ◌++◌, append_assoc}
use lib.ListN.{length, take, drop, set, length-append, length-replicate, length-drop, replicate-append-replicate, take-append-drop}
use lib.Seq.{paste, set_at, take_at, drop_at, length-take-le}
use Rattle.gap.specs.Gap.{zeros}
use Rattle.text.proofs.Pastes.{paste-parts}
use Rattle.definitions.specs.Bytes.{Line, eq_line, is_line}
use Rattle.definitions.specs.Journal.{Record, kept, changed}
use Rattle.definitions.specs.Given.{Carried}
use Rattle.definitions.specs.Globals.{left_by}
use Rattle.definitions.specs.Editor.{current}
use Rattle.editor.specs.Records.{enc, enc_all, enc_before}
use Rattle.editor.specs.Shows.{Holds, TextAt}
use Rattle.editor.specs.declared.State.{State}
use Rattle.editor.proofs.Records.{line-short, sources-cons, old-bytes-cons}
use Rattle.globals.specs.Passing.{Passed, LeftAs}
use Rattle.reading.specs.Lines.{JustPassed}

-- ---- the text at a place

module _ {j : List ℕ} {at from n : ℕ} (l : Line) (x : TextAt j at from n (kept l)) where
  -- its length
  pub text-long : n ≡ length l
  unfolding current
  text-long = sym (length-take-le n (drop from j) (simp length-drop (omega (arith, x.within)))) ∙ ap length x.text

  pub text-few : is_line l ≡ true → n ≤ 255
  text-few good = omega (arith, text-long, line-short l good)

  -- copied to the start of a line
  pub text-copied : (d k : List ℕ) → n ≤ length d → k ≡ paste d 0 (drop from j) n → take n k ≡ l
  unfolding current
  text-copied d k fits q =
      let whole : paste d 0 (drop from j) n ≡ take n (drop from j) ++ drop n d =
      ap (λ (z : List ℕ). paste z 0 (drop from j) n) (sym (take-append-drop n d)) ∙ paste-parts [] (take n d) (drop n d) (drop from j) 0 n refl (length-take-le n d fits) in
      ap (take n) (q ∙ whole ∙ ap (λ (z : List ℕ). z ++ drop n d) x.text) ∙ take_at l (drop n d) n (sym text-long)

  -- and passed through the globals
  pub pass-left : (r : Passed) (line : List ℕ) (c : Carried) (d k : List ℕ) → n ≤ length d → k ≡ paste d 0 (drop from j) n → LeftAs r line (left_by c (take n k)) → LeftAs r line (left_by c l)
  pass-left r line c d k fits q h = rw (text-copied d k fits q) at h

-- ---- the record just before the gap

module _ {j : List ℕ} {st : State} {f : ℕ} {l : Line} {b a : List Record} (h : JustPassed j st f l b a) where
  abbrev behind : List ℕ
  behind = zeros (st.back - st.front) ++ enc_all a

  -- where it starts
  near-start : length (enc_before b) ≡ f
  unfolding enc_before
  near-start = omega (arith, h.start, h.holds.front, length-append (enc_before b) (enc (kept l)), length-append l (10 ∷ []))

  near-bytes : j ≡ enc_before b ++ (61 ∷ 61 ∷ (l ++ (10 ∷ behind)))
  unfolding enc_before
  near-bytes = h.holds.bytes ∙ simp append_assoc

  pub near_within : st.front ≤ length j
  near_within = rw (near-bytes) (omega (arith, near-start, h.start, length-append (enc_before b) (61 ∷ 61 ∷ (l ++ (10 ∷ behind))), length-append l (10 ∷ behind)))

  pub near-text : take (st.front - 1 - (f + 2)) (drop (f + 2) j) ≡ l
  near-text =
      let long : st.front - 1 - (f + 2) ≡ length l = omega (arith, h.start) in
      let two : length (enc_before b ++ (61 ∷ 61 ∷ [])) ≡ f + 2 = length-append (enc_before b) (61 ∷ 61 ∷ []) ∙ ap (λ (i : ℕ). i + 2) near-start in
      let is : j ≡ (enc_before b ++ (61 ∷ 61 ∷ [])) ++ (l ++ (10 ∷ behind)) = near-bytes ∙ sym (append_assoc (enc_before b) (61 ∷ 61 ∷ []) (l ++ (10 ∷ behind))) in
      rw (long, is, drop_at (enc_before b ++ (61 ∷ 61 ∷ [])) (l ++ (10 ∷ behind)) (f + 2) two) (take_at l (10 ∷ behind) (length l) refl)

  -- the same text, or another
  pub same-near : (new : Line) {x : Bool} → eq_line (take (st.front - 1 - (f + 2)) (drop (f + 2) j)) new ≡ x → eq_line l new ≡ x
  same-near new q = rw near-text at q

-- g zeros, where m bytes and a line feed go in
split-zeros : (g m r : ℕ) → g ≡ m + suc r → (Z : List ℕ) → zeros g ++ Z ≡ zeros m ++ (0 ∷ (zeros r ++ Z))
split-zeros g m r is Z = rw (is, ← replicate-append-replicate {A = ℕ} m (suc r) 0) (append_assoc (zeros m) (0 ∷ zeros r) Z)

-- the bytes that `change_passed` writes
module _ (B l A s : List ℕ) (f end m r : ℕ) (at : length B ≡ f) (ends : f + (length l + 3) ≡ end) (fits : m ≤ length s) where
  change-bytes : set (paste (set (set (set (B ++ (61 ∷ 61 ∷ (l ++ (10 ∷ (zeros m ++ (0 ∷ (zeros r ++ A))))))) f 60) (f + 1) 62) (end - 1) 0) end s m) (end + m) 10
      ≡ (B ++ (60 ∷ 62 ∷ ((l ++ (0 ∷ take m s)) ++ (10 ∷ [])))) ++ (zeros r ++ A)
  change-bytes =
      let Z : List ℕ = zeros r ++ A in
      let R : List ℕ = zeros m ++ (0 ∷ Z) in
      let one : length (B ++ (60 ∷ [])) ≡ f + 1 = length-append B (60 ∷ []) ∙ ap (λ (i : ℕ). i + 1) at in
      let M : List ℕ = B ++ (60 ∷ 62 ∷ l) in
      let long : length M ≡ end - 1 = length-append B (60 ∷ 62 ∷ l) ∙ omega (arith, at, ends) in
      let N : List ℕ = M ++ (0 ∷ []) in
      let zero : length N ≡ end = length-append M (0 ∷ []) ∙ omega (arith, long, ends) in
      let last : length (N ++ take m s) ≡ end + m = length-append N (take m s) ∙ rw (zero, length-take-le m s fits) in
      let first : set (B ++ (61 ∷ 61 ∷ (l ++ (10 ∷ R)))) f 60 ≡ (B ++ (60 ∷ [])) ++ (61 ∷ (l ++ (10 ∷ R))) =
      set_at B 61 (61 ∷ (l ++ (10 ∷ R))) 60 f at ∙ sym (append_assoc B (60 ∷ []) (61 ∷ (l ++ (10 ∷ R)))) in
      let second : set ((B ++ (60 ∷ [])) ++ (61 ∷ (l ++ (10 ∷ R)))) (f + 1) 62 ≡ M ++ (10 ∷ R) =
      set_at (B ++ (60 ∷ [])) 61 (l ++ (10 ∷ R)) 62 (f + 1) one ∙ simp append_assoc in
      let third : set (M ++ (10 ∷ R)) (end - 1) 0 ≡ N ++ (zeros m ++ (0 ∷ Z)) = set_at M 10 R 0 (end - 1) long ∙ sym (append_assoc M (0 ∷ []) R) in
      let text : paste (N ++ (zeros m ++ (0 ∷ Z))) end s m ≡ (N ++ take m s) ++ (0 ∷ Z) =
      paste-parts N (zeros m) (0 ∷ Z) s end m zero (length-replicate m 0) ∙ sym (append_assoc N (take m s) (0 ∷ Z)) in
      rw (first, second, third, text, set_at (N ++ take m s) 0 Z 10 (end + m) last) (simp append_assoc)

-- what it makes of a buffer
pub change-holds : (j k : List ℕ) (st s : State) (f : ℕ) (text : List ℕ) (m : ℕ) → m ≤ length text → is_line (take m text) ≡ true → st.front + (m + 1) ≤ st.back
    → k ≡ set (paste (set (set (set j f 60) (f + 1) 62) (st.front - 1) 0) st.front text m) (st.front + m) 10
    → s.front ≡ st.front + m + 1 → s.back ≡ st.back → s.past ≡ st.past → s.lines ≡ st.lines → s.source ≡ st.source → s.size ≡ st.size
    → (l : Line) (b a : List Record) → JustPassed j st f l b a → Holds k s (changed l (take m text) ∷ b) a
unfolding enc_before
change-holds j k st s f text m fits good room is fr e c n o z l b a h =
    let r : ℕ = s.back - s.front in
    let B : List ℕ = enc_before b in
    let T : List ℕ = take m text in
    let long : length T ≡ m = length-take-le m text fits in
    let j-is : j ≡ B ++ (61 ∷ 61 ∷ (l ++ (10 ∷ (zeros m ++ (0 ∷ (zeros r ++ enc_all a)))))) =
    near-bytes h ∙ ap (λ (q : List ℕ). B ++ (61 ∷ 61 ∷ (l ++ (10 ∷ q)))) (split-zeros (st.back - st.front) m r (omega arith) (enc_all a)) in
    let size : length (enc (changed l T)) ≡ 4 + (length l + length T) = simp length-append (omega arith) in
    record {
      bytes = is ∙ rw j-is (change-bytes B l (enc_all a) text f st.front m r (near-start h) h.start fits);
      front = rw length-append (omega (arith, near-start h, h.start, size));
      order = omega arith;
      past_good = ((h.holds.past_good.0, good), h.holds.past_good.1);
      good = h.holds.good;
      past = omega (arith, h.holds.past, sources-cons (kept l) b, sources-cons (changed l T) b);
      lines = omega (arith, h.holds.lines, sources-cons (kept l) b, sources-cons (changed l T) b);
      source = omega (arith, h.holds.source, old-bytes-cons (kept l) b, old-bytes-cons (changed l T) b);
      size = omega (arith, h.holds.size, old-bytes-cons (kept l) b, old-bytes-cons (changed l T) b);
      few = omega (arith, h.holds.few);
    }
