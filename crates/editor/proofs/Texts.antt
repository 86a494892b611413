-- Where the text of a line stands in the journal. Assumes nothing.
use mathlib.Core.Path.{◌≡◌, refl, sym, ap, ◌∙◌}
use mathlib.Core.Bool.{true}
use Prim.Native.Nat.{ℕ, suc, ◌+◌, ◌-◌, ◌≤◌, ◌<◌}
use native.Mathlib.Omega.{arith}
use mathlib.Core.List.{List, [], ◌∷◌, ◌++◌, map, append_assoc}
use lib.ListN.{length, take, drop, get_or, length-append, length-drop}
use lib.Seq.{take_at, drop-drop, drop_at, length-take-le}
use Rattle.definitions.specs.Bytes.{Line, is_line}
use Rattle.definitions.specs.Journal.{Record, kept, changed, deleted, inserted}
use Rattle.definitions.specs.Tape.{Tape, rest_lines}
use Rattle.definitions.specs.Editor.{Ed, ed, before_of, after_of, current}
use Rattle.text.specs.Feeds.{line_length}
use Rattle.editor.specs.Records.{enc, enc_all, Good, zero_place}
use Rattle.editor.specs.Shows.{Shows, TextAt}
use Rattle.editor.specs.Current.{current_line}
use Rattle.editor.specs.declared.State.{State}
use Rattle.editor.proofs.Held.{held_bytes}
use Rattle.editor.proofs.Parts.{shown-record}
use Rattle.editor.proofs.Sizes.{first_byte, whole-inside, line-whole, zero-place}

-- ---- where it stands

-- a text after m bytes of what stands from b on
text-from : (j m l z : List ℕ) (b : ℕ) → drop b j ≡ m ++ (l ++ z) → take (length l) (drop (b + length m) j) ≡ l
text-from j m l z b q =
    rw (← drop-drop (length m) b j, q, drop_at m (l ++ z) (length m) refl) (take_at l z (length l) refl)

module _ (j : List ℕ) (at : ℕ) (z : List ℕ) where
  -- the line of a record that is not of a changed one
  plain_at : (x y : ℕ) (l : Line) (r : Record) → enc r ≡ x ∷ y ∷ (l ++ (10 ∷ [])) → current r ≡ l → Good r → drop at j ≡ enc r ++ z
      → (end : ℕ) → end ≡ at + line_length (drop at j) - 1 → TextAt j at (at + 2) (end - (at + 2)) r
  plain_at x y l r is c g h end ends =
      let size : length (enc r) ≡ suc (suc (length l + 1)) = ap length is ∙ ap (λ (i : ℕ). suc (suc i)) (length-append l (10 ∷ [])) in
      let n : end - (at + 2) ≡ length l = omega (arith, line-whole j at r z g h) in
      let q : drop at j ≡ (x ∷ y ∷ []) ++ (l ++ ((10 ∷ []) ++ z)) = h ∙ rw is (simp append_assoc) in
      record {
        text = rw n (text-from j (x ∷ y ∷ []) l ((10 ∷ []) ++ z) at q ∙ sym c);
        after = omega arith;
        ends = omega arith;
        within = omega (arith, whole-inside j at r z h);
      }

  pub text-plain : (get_or j at 0 ≡ 60 → ⊥) → (r : Record) → Good r → drop at j ≡ enc r ++ z
      → (end : ℕ) → end ≡ at + line_length (drop at j) - 1 → TextAt j at (at + 2) (end - (at + 2)) r
  unfolding current
  text-plain m (kept l) g h = plain_at 61 61 l (kept l) refl refl g h
  text-plain m (changed o n) g h = absurd (m (first_byte j at (changed o n) z h))
  text-plain m (deleted l) g h = plain_at 45 45 l (deleted l) refl refl g h
  text-plain m (inserted l) g h = plain_at 43 43 l (inserted l) refl refl g h

  new-at : (o n : Line) → Good (changed o n) → drop at j ≡ enc (changed o n) ++ z → (end k : ℕ) → end ≡ at + line_length (drop at j) - 1
      → k ≡ at + zero_place (drop at j) → TextAt j at (k + 1) (end - (k + 1)) (changed o n)
  unfolding current
  new-at o n g h end k ends place =
      let m : List ℕ = (60 ∷ 62 ∷ o) ++ (0 ∷ []) in
      let R : List ℕ = (10 ∷ []) ++ z in
      let q : drop at j ≡ m ++ (n ++ R) = h ∙ simp append_assoc in
      let zp : zero_place (drop at j) ≡ 2 + length o = zero-place j at o n z g h in
      let size : length (enc (changed o n)) ≡ 4 + (length o + length n) = simp length-append (omega arith) in
      let lm : length m ≡ length o + 3 = simp length-append (omega arith) in
      let from : k + 1 ≡ at + length m = omega arith in
      let len : end - (k + 1) ≡ length n = omega (arith, line-whole j at (changed o n) z g h) in
      record {
        text = rw (len, from) (text-from j m n R at q);
        after = omega arith;
        ends = omega (arith, line-whole j at (changed o n) z g h);
        within = omega (arith, whole-inside j at (changed o n) z h, line-whole j at (changed o n) z g h);
      }

  pub text-new : get_or j at 0 ≡ 60 → (r : Record) → Good r → drop at j ≡ enc r ++ z → (end k : ℕ) → end ≡ at + line_length (drop at j) - 1
      → k ≡ at + zero_place (drop at j) → TextAt j at (k + 1) (end - (k + 1)) r
  text-new m (kept l) g h = absurd (omega (arith, first_byte j at (kept l) z h))
  text-new m (changed o n) g h = new-at o n g h
  text-new m (deleted l) g h = absurd (omega (arith, first_byte j at (deleted l) z h))
  text-new m (inserted l) g h = absurd (omega (arith, first_byte j at (inserted l) z h))

  -- a place inside the record
  pub zero-inside : get_or j at 0 ≡ 60 → (r : Record) → Good r → drop at j ≡ enc r ++ z → zero_place (drop at j) + 2 ≤ length (enc r)
  zero-inside m (kept l) g h = absurd (omega (arith, first_byte j at (kept l) z h))
  zero-inside m (changed o n) g h =
      let zp : zero_place (drop at j) ≡ 2 + length o = zero-place j at o n z g h in
      let size : length (enc (changed o n)) ≡ 4 + (length o + length n) = simp length-append (omega arith) in
      omega arith
  zero-inside m (deleted l) g h = absurd (omega (arith, first_byte j at (deleted l) z h))
  zero-inside m (inserted l) g h = absurd (omega (arith, first_byte j at (inserted l) z h))

-- where the current line's text stands
pub record TextHere (j : List ℕ) (from n : ℕ) (l : Line) : Type 0 where
  pub text : take n (drop from j) ≡ l
  pub within : from + n < length j

pub text-here : {j : List ℕ} {st : State} {from n : ℕ} (e : Ed) (t : Tape) → Shows j st e t → st.back < length j
    → ((r : Record) (z : List ℕ) → Good r → drop st.back j ≡ enc r ++ z → TextAt j st.back from n r) → TextHere j from n (current_line e)
unfolding before_of after_of
text-here (ed b [] p) t h more texts = absurd (shown-record b p t h more)
text-here {j} {st} {from} {n} (ed b (r ∷ a) p) t h more texts =
    let x : TextAt j st.back from n r = texts r (enc_all (a ++ map kept (rest_lines t))) h.holds.good.0 (held_bytes h.holds) in
    record { text = x.text; within = x.within }

pub current-good : (r : Record) → Good r → is_line (current r) ≡ true
unfolding current
current-good (kept l) g = g
current-good (changed o n) g = g.1
current-good (deleted l) g = g
current-good (inserted l) g = g

-- the text's length
pub text-size : {j : List ℕ} {b from n : ℕ} {r : Record} → TextAt j b from n r → length (current r) ≡ n
text-size {j} {b} {from} {n} x = ap length (sym x.text) ∙ length-take-le n (drop from j) (simp length-drop (omega (arith, x.within)))
