-- Where the current record's first line ends in the buffer, and where the record does. Assumes nothing.
use mathlib.Core.Path.{◌≡◌, refl, sym, ◌∙◌}
use Prim.Native.Nat.{ℕ, ◌+◌, ◌-◌}
use native.Mathlib.Omega.{arith}
use mathlib.Core.List.{List, [], ◌∷◌, ◌++◌, append_assoc}
use lib.ListN.{length, drop, get_or, length-append}
use lib.Seq.{drop-drop, take_at}
use Rattle.definitions.specs.Bytes.{Line}
use Rattle.definitions.specs.Journal.{Record, kept, changed, deleted, inserted}
use Rattle.definitions.specs.Editor.{current}
use Rattle.editor.specs.Records.{enc, enc_all, Good}
use Rattle.editor.specs.Shows.{Holds, TextAt}
use Rattle.editor.specs.declared.State.{State}
use Rattle.editor.proofs.Held.{held-drop, held_bytes, held-mark}
use Rattle.editor.proofs.Texts.{text-size}
use Rattle.changes.specs.Current.{first_line, EndsAt}

-- the text of the current record, as `text_at` gives it
pub text_of : {j : List ℕ} {st : State} {from n : ℕ} {b a : List Record} {r : Record} → ((x : Record) (z : List ℕ) → Good x → drop st.back j ≡ enc x ++ z → TextAt j st.back from n x)
    → Holds j st b (r ∷ a) → TextAt j st.back from n r
text_of {a = a} {r} texts h = texts r (enc_all a) h.good.0 (held_bytes h)

module _ {j : List ℕ} (st : State) (from n : ℕ) where
  -- a record of one line
  one_line : (r : Record) → TextAt j st.back from n r → current r ≡ first_line r → length (enc r) ≡ length (current r) + 3
      → EndsAt j st.back (record { old = from + n; end = from + n + 1 }) r
  one_line r x first long =
      let start : st.back + 2 ≡ from = omega (arith, x.ends, text-size x) in
      let size : (from + n) - from ≡ n = omega arith in
      record {
        first = rw (start, size) (x.text ∙ first);
        after = omega arith;
        inside = omega arith;
        ends = x.ends;
        within = omega (arith, x.within);
      }

  pub ends-plain : {b a : List Record} → (get_or j st.back 0 ≡ 60 → ⊥) → (r : Record) → Holds j st b (r ∷ a) → TextAt j st.back from n r
      → EndsAt j st.back (record { old = from + n; end = from + n + 1 }) r
  unfolding current
  ends-plain m (kept l) h x = one_line (kept l) x refl (simp length-append (omega arith))
  ends-plain m (changed o l) h x = absurd (m (held-mark h))
  ends-plain m (deleted l) h x = one_line (deleted l) x refl (simp length-append (omega arith))
  ends-plain m (inserted l) h x = one_line (inserted l) x refl (simp length-append (omega arith))

  -- the first line of a changed record ends before the second
  two-lines : {b a : List Record} (o l : Line) → Holds j st b (changed o l ∷ a) → TextAt j st.back from n (changed o l)
      → EndsAt j st.back (record { old = from - 1; end = from + n + 1 }) (changed o l)
  unfolding current enc_all
  two-lines {b} {a} o l h x =
      let Z : List ℕ = 0 ∷ (l ++ ((10 ∷ []) ++ enc_all a)) in
      let long : length (enc (changed o l)) ≡ length o + length l + 4 = simp length-append (omega arith) in
      let start : from ≡ st.back + (length o + 3) = omega (arith, x.ends, text-size x) in
      let old : (from - 1) - (st.back + 2) ≡ length o = omega arith in
      let is : drop (st.back + 2) j ≡ o ++ Z = sym (drop-drop 2 st.back j) ∙ rw (held-drop h) (simp append_assoc) in
      record {
        first = rw (old, is) (take_at o Z (length o) refl);
        after = omega arith;
        inside = omega arith;
        ends = x.ends;
        within = omega (arith, x.within);
      }

  pub ends-changed : {b a : List Record} → get_or j st.back 0 ≡ 60 → (r : Record) → Holds j st b (r ∷ a) → TextAt j st.back from n r
      → EndsAt j st.back (record { old = from - 1; end = from + n + 1 }) r
  ends-changed m (kept l) h x = absurd (omega (arith, held-mark h))
  ends-changed m (changed o l) h x = two-lines o l h x
  ends-changed m (deleted l) h x = absurd (omega (arith, held-mark h))
  ends-changed m (inserted l) h x = absurd (omega (arith, held-mark h))
