-- The gap goes back over records that it has passed. Assumes nothing.
use mathlib.Core.Path.{◌≡◌, sym, ap, ◌∙◌}
use Prim.Native.Nat.{ℕ, ◌+◌, ◌-◌, ◌≤◌}
use native.Mathlib.Omega.{arith}
use mathlib.Core.List.{List, [], ◌∷◌, ◌++◌, reverse_aux}
use lib.ListN.{length, length-append}
use Rattle.gap.specs.Gap.{zeros, ZeroGap, moved_up}
use Rattle.gap.proofs.Laws.{up-parts}
use Rattle.definitions.specs.Journal.{Record}
use Rattle.theorems.specs.RecordLaws.{sources-append, sources-reverse}
use Rattle.editor.specs.Records.{enc_all, enc_before, Goods, old_bytes}
use Rattle.editor.specs.Shows.{Holds}
use Rattle.editor.specs.declared.State.{State}
use Rattle.editor.proofs.Records.{old-bytes-nil, old-bytes-cons, old-bytes-reverse, all-before, enc-append, goods-append}
use Rattle.editor.proofs.Held.{held-length, held-gap}

old-bytes-append : (m a : List Record) → old_bytes (m ++ a) ≡ old_bytes m + old_bytes a
old-bytes-append [] a = omega (arith, old-bytes-nil)
old-bytes-append (r ∷ m) a = omega (arith, old-bytes-append m a, old-bytes-cons r (m ++ a), old-bytes-cons r m)

goods-parts : (m b : List Record) → Goods (reverse_aux m b) → Goods m × Goods b
goods-parts [] b g = (tt, g)
goods-parts (r ∷ m) b g =
    let w : Goods m × Goods (r ∷ b) = goods-parts m (r ∷ b) g in
    ((w.1.0, w.0), w.1.1)

module _ {i j : List ℕ} {there st : State} (b m a x : List Record) (was : Holds i there b x) (h : Holds j st (reverse_aux m b) a) where
  passed-bytes : enc_before (reverse_aux m b) ≡ enc_before b ++ enc_all m
  passed-bytes = all-before m b

  -- so far has it come
  pub back-far : there.front + length (enc_all m) ≡ st.front
  back-far = omega (arith, was.front, h.front, ap length passed-bytes, length-append (enc_before b) (enc_all m))

  -- what the move of the bytes asks
  pub back-moves : (there.front ≤ st.front) × (st.front ≤ st.back) × (st.back ≤ length j) × ZeroGap st.front st.back j
  back-moves = (omega (arith, back-far), h.order, omega (arith, held-length h), held-gap h)

  back-bytes : moved_up there.front st.front st.back j ≡ enc_before b ++ (zeros (st.back - st.front) ++ enc_all (m ++ a))
  back-bytes =
      let g : ℕ = st.back - st.front in
      let is : j ≡ (enc_before b ++ enc_all m) ++ (zeros g ++ enc_all a) = h.bytes ∙ ap (λ (z : List ℕ). z ++ (zeros g ++ enc_all a)) passed-bytes in
      ap (moved_up there.front st.front st.back) is
      ∙ up-parts (enc_before b) (enc_all m) (enc_all a) g there.front st.front st.back was.front back-far (omega (arith, h.order))
      ∙ ap (λ (z : List ℕ). enc_before b ++ (zeros g ++ z)) (sym (enc-append m a))

  pub back-holds : (k : List ℕ) (s : State) → k ≡ moved_up there.front st.front st.back j → s.front ≡ there.front → s.back ≡ st.back - (st.front - there.front)
      → s.past ≡ there.past → s.lines ≡ st.lines → s.source ≡ there.source → s.size ≡ st.size → Holds k s b (m ++ a)
  back-holds k s q f e n l o z =
      let wide : s.back - s.front ≡ st.back - st.front = omega (arith, h.order, back-far) in
      let parts : Goods m × Goods b = goods-parts m b h.past_good in
      record {
        bytes = rw wide (q ∙ back-bytes);
        front = was.front ∙ sym f;
        order = omega (arith, h.order, back-far);
        past_good = parts.1;
        good = goods-append m a parts.0 h.good;
        past = n ∙ was.past;
        lines = omega (arith, h.lines, sources-reverse m b, sources-append m a);
        source = o ∙ was.source;
        size = omega (arith, h.size, old-bytes-reverse m b, old-bytes-append m a);
        few = omega (arith, h.few);
      }
