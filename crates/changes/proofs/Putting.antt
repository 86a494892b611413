-- The current record's bytes replaced, the gap growing or shrinking. Assumes nothing.
use mathlib.Core.Path.{◌≡◌, sym, ap, ◌∙◌}
use Prim.Native.Nat.{ℕ, ◌+◌, ◌-◌, ◌≤◌, ◌<◌}
use native.Mathlib.Omega.{arith}
use mathlib.Core.List.{List, ◌∷◌, ◌++◌, reverse_aux, append_assoc}
use lib.ListN.{length, take, drop, length-append, length-drop, length-replicate, take-append-drop, replicate-append-replicate}
use lib.Seq.{length-take-le, paste}
use Rattle.gap.specs.Gap.{zeros, cleared}
use Rattle.gap.proofs.Laws.{clear-parts}
use Rattle.text.proofs.Pastes.{paste-parts}
use Rattle.definitions.specs.Journal.{Record, old_of, journal_length}
use Rattle.editor.specs.Records.{enc, enc_all, enc_before, Good}
use Rattle.editor.specs.Shows.{Holds}
use Rattle.editor.specs.declared.State.{State}
use Rattle.editor.proofs.Records.{all-length, before-all}
use Rattle.editor.proofs.Held.{held-length, replaced-holds}
use Rattle.changes.specs.Current.{SetTo}

zeros-split : (g m n : ℕ) → g ≡ m + n → zeros g ≡ zeros m ++ zeros n
zeros-split g m n e = rw (e, replicate-append-replicate {A = ℕ} m n 0)

pub journal-length : (b : List Record) (x : Record) (a : List Record) → journal_length (reverse_aux b (x ∷ a)) ≡ length (enc_before b) + (length (enc x) + length (enc_all a))
unfolding enc_all
journal-length b x a =
    sym (all-length (reverse_aux b (x ∷ a))) ∙ ap length (sym (before-all b (x ∷ a))) ∙ length-append (enc_before b) (enc x ++ enc_all a)
    ∙ ap (λ (n : ℕ). length (enc_before b) + n) (length-append (enc x) (enc_all a))

module _ {j : List ℕ} {st : State} {b : List Record} {r : Record} {a : List Record} (h : Holds j st b (r ∷ a)) (end n : ℕ) (rec : List ℕ) (x : Record)
    (ends : end ≡ st.back + length (enc r)) (fits : n ≤ length rec) (is : take n rec ≡ enc x) where
  long : n ≡ length (enc x)
  long = sym (length-take-le n rec fits) ∙ ap length is

  whole : length j ≡ end + length (enc_all a)
  unfolding enc_all
  whole = omega (arith, held-length h, length-append (enc r) (enc_all a))

  total : journal_length (reverse_aux b (x ∷ a)) ≡ st.front + (n + length (enc_all a))
  total = omega (arith, journal-length b x a, long, h.front)

  -- how long the journal is with the record in the place of the current one
  pub put-total : journal_length (reverse_aux b (x ∷ a)) + end ≡ st.front + n + length j
  put-total = omega (arith, total, whole)

  module _ (good : Good x) (src : old_of x ≡ old_of r) (q : ℕ) where
    module _ (room : st.front + n ≤ end) (k : List ℕ) where
      put_holds : (s : State) → s.front ≡ st.front → s.back ≡ end - n → s.past ≡ st.past → s.lines ≡ st.lines → s.source ≡ st.source → s.size ≡ st.size
          → k ≡ enc_before b ++ (zeros ((end - n) - st.front) ++ (enc x ++ enc_all a)) → Holds k s b (x ∷ a)
      unfolding enc_all
      put_holds s f e p l o z bytes = replaced-holds h good src f (omega (arith, h.order)) p l o z (rw (e, f) bytes)

      -- the record is no shorter: the gap's last bytes are written over
      grown-bytes : end - n ≤ st.back → k ≡ paste j (end - n) rec n → k ≡ enc_before b ++ (zeros ((end - n) - st.front) ++ (enc x ++ enc_all a))
      unfolding enc_all
      grown-bytes le e =
          let g : ℕ = (end - n) - st.front in
          let m : ℕ = st.back - (end - n) in
          let A : List ℕ = enc_before b ++ zeros g in
          let M : List ℕ = zeros m ++ enc r in
          let z : zeros (st.back - st.front) ≡ zeros g ++ zeros m = zeros-split (st.back - st.front) g m (omega (arith, h.order)) in
          let was : j ≡ A ++ (M ++ enc_all a) = h.bytes ∙ rw z (simp append_assoc) in
          let la : length A ≡ end - n = simp (length-append, length-replicate) (omega (arith, h.front, h.order)) in
          let lz : length (zeros m) ≡ m = length-replicate m 0 in
          let lm : length M ≡ n = length-append (zeros m) (enc r) ∙ omega (arith, h.order) in
          e ∙ ap (λ (y : List ℕ). paste y (end - n) rec n) was ∙ paste-parts A M (enc_all a) rec (end - n) n la lm
          ∙ rw is (append_assoc (enc_before b) (zeros g) (enc x ++ enc_all a))

      pub put-grown : (s : State) → s.front ≡ st.front → s.back ≡ end - n → s.past ≡ st.past → s.lines ≡ st.lines → s.source ≡ st.source → s.size ≡ st.size → s.furthest ≡ st.furthest → s.p ≡ q
          → end - n ≤ st.back → k ≡ paste j (end - n) rec n → SetTo st end n k s b (x ∷ a) q
      put-grown s f e p l o z far w le bytes =
          record { holds = put_holds s f e p l o z (grown-bytes le bytes); front = f; back = omega (arith, e); furthest = far; lines = l; p = w }

      -- the record is shorter: what it leaves is cleared
      shrunk-bytes : st.back < end - n → (i : List ℕ) → i ≡ paste j (end - n) rec n → k ≡ cleared st.back ((end - n) - st.back) i
          → k ≡ enc_before b ++ (zeros ((end - n) - st.front) ++ (enc x ++ enc_all a))
      unfolding enc_all
      shrunk-bytes lt i e c =
          let g : ℕ = st.back - st.front in
          let m : ℕ = (end - n) - st.back in
          let B : List ℕ = enc_before b ++ zeros g in
          let T : List ℕ = take m (enc r) in
          let M : List ℕ = drop m (enc r) in
          let Z : List ℕ = enc x ++ enc_all a in
          let cut : enc r ≡ T ++ M = sym (take-append-drop m (enc r)) in
          let was : j ≡ (B ++ T) ++ (M ++ enc_all a) = h.bytes ∙ ap (λ (y : List ℕ). enc_before b ++ (zeros g ++ (y ++ enc_all a))) cut ∙ simp append_assoc in
          let lb : length B ≡ st.back = simp (length-append, length-replicate) (omega (arith, h.front, h.order)) in
          let lt' : length T ≡ m = length-take-le m (enc r) (omega arith) in
          let la : length (B ++ T) ≡ end - n = length-append B T ∙ omega (arith, lb, lt') in
          let lm : length M ≡ n = length-drop m (enc r) ∙ omega arith in
          let i-is : i ≡ B ++ (T ++ Z) = e ∙ ap (λ (y : List ℕ). paste y (end - n) rec n) was ∙ paste-parts (B ++ T) M (enc_all a) rec (end - n) n la lm ∙ rw is (append_assoc B T Z) in
          c ∙ ap (λ (y : List ℕ). cleared st.back m y) i-is ∙ clear-parts B T Z st.back m lb lt'
          ∙ rw (zeros-split ((end - n) - st.front) g m (omega (arith, h.order))) (simp append_assoc)

      pub put-shrunk : (s : State) → s.front ≡ st.front → s.back ≡ end - n → s.past ≡ st.past → s.lines ≡ st.lines → s.source ≡ st.source → s.size ≡ st.size → s.furthest ≡ st.furthest → s.p ≡ q
          → st.back < end - n → (i : List ℕ) → i ≡ paste j (end - n) rec n → k ≡ cleared st.back ((end - n) - st.back) i → SetTo st end n k s b (x ∷ a) q
      put-shrunk s f e p l o z far w lt i bytes clears =
          record { holds = put_holds s f e p l o z (shrunk-bytes lt i bytes clears); front = f; back = omega (arith, e); furthest = far; lines = l; p = w }
