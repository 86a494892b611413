-- A line written into the gap as an inserted record before the current one. Assumes nothing.
use mathlib.Core.Path.{◌≡◌, refl, sym, ap, ◌∙◌}
use mathlib.Core.Bool.{true}
use Prim.Native.Nat.{ℕ, suc, ◌+◌, ◌-◌, ◌≤◌}
use native.Mathlib.Omega.{arith}
use mathlib.Core.List.{List, [], ◌∷◌, ◌++◌, map, reverse_aux, append_assoc}
use lib.ListN.{length, take, drop, set, length-append, length-replicate, length-drop, replicate-append-replicate}
use lib.Seq.{paste, set_at, length-take-le}
use Rattle.gap.specs.Gap.{zeros}
use Rattle.text.proofs.Pastes.{paste-parts}
use Rattle.definitions.specs.Bytes.{Line, is_line}
use Rattle.definitions.specs.Journal.{Record, inserted, record_length, journal_length}
use Rattle.definitions.specs.Editor.{put_before}
use Rattle.editor.specs.Records.{enc_all, enc_before, LineIn}
use Rattle.editor.specs.Shows.{Holds}
use Rattle.editor.specs.declared.State.{State}
use Rattle.editor.proofs.Records.{line-short, sources-cons, old-bytes-cons, sum-reverse, all-length, before-all}
use Rattle.editor.proofs.Held.{held-length}

-- ---- bytes

-- g zeros, where a record with n bytes of text goes in
split-zeros : (g n r : ℕ) → g ≡ n + 3 + r → (Z : List ℕ) → zeros g ++ Z ≡ 0 ∷ 0 ∷ (zeros n ++ (0 ∷ (zeros r ++ Z)))
split-zeros g n r is Z =
    let two : g ≡ suc (suc (n + suc r)) = omega arith in
    rw (two, ← replicate-append-replicate {A = ℕ} n (suc r) 0) (ap (λ (z : List ℕ). 0 ∷ 0 ∷ z) (append_assoc (zeros n) (0 ∷ zeros r) Z))

module _ (B A s : List ℕ) (f n r : ℕ) (at : length B ≡ f) (fits : n ≤ length s) where
  marked-at : set (set (B ++ (0 ∷ 0 ∷ (zeros n ++ (0 ∷ (zeros r ++ A))))) f 43) (f + 1) 43 ≡ (B ++ (43 ∷ 43 ∷ [])) ++ (zeros n ++ (0 ∷ (zeros r ++ A)))
  marked-at =
      let R : List ℕ = zeros n ++ (0 ∷ (zeros r ++ A)) in
      let one : length (B ++ (43 ∷ [])) ≡ f + 1 = length-append B (43 ∷ []) ∙ ap (λ (i : ℕ). i + 1) at in
      rw (set_at B 0 (0 ∷ R) 43 f at, ← append_assoc B (43 ∷ []) (0 ∷ R), set_at (B ++ (43 ∷ [])) 0 R 43 (f + 1) one)
      (append_assoc B (43 ∷ []) (43 ∷ R) ∙ sym (append_assoc B (43 ∷ 43 ∷ []) R))

  pub put-bytes : set (paste (set (set (B ++ (0 ∷ 0 ∷ (zeros n ++ (0 ∷ (zeros r ++ A))))) f 43) (f + 1) 43) (f + 2) s n) (f + 2 + n) 10
      ≡ (B ++ (43 ∷ 43 ∷ (take n s ++ (10 ∷ [])))) ++ (zeros r ++ A)
  put-bytes =
      let M : List ℕ = B ++ (43 ∷ 43 ∷ []) in
      let Z : List ℕ = zeros r ++ A in
      let two : length M ≡ f + 2 = length-append B (43 ∷ 43 ∷ []) ∙ ap (λ (i : ℕ). i + 2) at in
      let end : length (M ++ take n s) ≡ f + 2 + n = length-append M (take n s) ∙ rw (two, length-take-le n s fits) in
      let text : paste (M ++ (zeros n ++ (0 ∷ Z))) (f + 2) s n ≡ (M ++ take n s) ++ (0 ∷ Z) =
      paste-parts M (zeros n) (0 ∷ Z) s (f + 2) n two (length-replicate n 0) ∙ sym (append_assoc M (take n s) (0 ∷ Z)) in
      rw (marked-at, text, set_at (M ++ take n s) 0 Z 10 (f + 2 + n) end) (simp append_assoc)

-- what `put_line` makes of a buffer
pub put_holds : (j k : List ℕ) (st s : State) (text : List ℕ) (n : ℕ) → n ≤ length text → is_line (take n text) ≡ true → st.front + (n + 3) ≤ st.back
    → k ≡ set (paste (set (set j st.front 43) (st.front + 1) 43) (st.front + 2) text n) (st.front + 2 + n) 10
    → s.front ≡ st.front + 2 + n + 1 → s.back ≡ st.back → s.past ≡ st.past → s.lines ≡ st.lines → s.source ≡ st.source → s.size ≡ st.size
    → (b a : List Record) → Holds j st b a → Holds k s (put_before (take n text ∷ []) b) a
unfolding enc_before put_before
put_holds j k st s text n fits good room is f e c l o z b a h =
    let T : List ℕ = take n text in
    let r : ℕ = s.back - s.front in
    let long : length T ≡ n = length-take-le n text fits in
    let j-is : j ≡ enc_before b ++ (0 ∷ 0 ∷ (zeros n ++ (0 ∷ (zeros r ++ enc_all a)))) =
    h.bytes ∙ ap (λ (z : List ℕ). enc_before b ++ z) (split-zeros (st.back - st.front) n r (omega arith) (enc_all a)) in
    record {
      bytes = is ∙ rw j-is (put-bytes (enc_before b) (enc_all a) text st.front n r h.front fits);
      front = rw (length-append, length-append) (omega (arith, h.front));
      order = omega arith;
      past_good = (good, h.past_good);
      good = h.good;
      past = omega (arith, h.past, sources-cons (inserted T) b);
      lines = omega (arith, h.lines, sources-cons (inserted T) b);
      source = omega (arith, h.source, old-bytes-cons (inserted T) b);
      size = omega (arith, h.size, old-bytes-cons (inserted T) b);
      few = omega (arith, h.few);
    }

-- the text of a line is short
pub text-length : (s : List ℕ) (from n : ℕ) → from + n ≤ length s → length (take n (drop from s)) ≡ n
text-length s from n fits = length-take-le n (drop from s) (simp length-drop (omega arith))

pub text-short : (s : List ℕ) (from n : ℕ) → LineIn s from n → n ≤ 255
text-short s from n h = omega (arith, line-short (take n (drop from s)) h.1, text-length s from n h.0)

-- ---- the journal's length

-- what is not the gap is the journal
pub held-journal : {j : List ℕ} {st : State} {b a : List Record} → Holds j st b a → journal_length (reverse_aux b a) + (st.back - st.front) ≡ length j
held-journal {b = b} {a = a} h =
    omega (arith, all-length (reverse_aux b a), ap length (before-all b a), length-append (enc_before b) (enc_all a), h.front, h.order, held-length h)

pub length-reverse : (b a : List Record) → journal_length (reverse_aux b a) ≡ journal_length b + journal_length a
unfolding journal_length
length-reverse = sum-reverse journal_length record_length refl (λ r rs. refl)

-- lines put before the current one, as records
pub put-length : (ls : List Line) (b a : List Record) → journal_length (reverse_aux (put_before ls b) a) ≡ journal_length (map inserted ls) + journal_length (reverse_aux b a)
unfolding journal_length record_length put_before
put-length [] b a = omega arith
put-length (l ∷ ls) b a = omega (arith, put-length ls (inserted l ∷ b) a, length-reverse (inserted l ∷ b) a, length-reverse b a)

-- the text is in the slice
pub text-fits : (s : List ℕ) (from n : ℕ) → from + n ≤ length s → n ≤ length (drop from s)
text-fits s from n fits = simp length-drop (omega arith)

pub put_is : (k l : List ℕ) (end x : ℕ) → k ≡ l → set k end x ≡ set l end x
put_is k l end x q = ap (λ (z : List ℕ). set z end x) q
