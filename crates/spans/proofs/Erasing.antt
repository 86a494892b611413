-- A record whose line is deleted where it stands. Assumes nothing.
use mathlib.Core.Path.{◌≡◌, refl, sym, ap, ◌∙◌}
use Prim.Native.Nat.{ℕ, ◌+◌, ◌-◌, ◌≤◌, ◌<◌}
use native.Mathlib.Omega.{arith}
use mathlib.Core.List.{List, [], ◌∷◌, ◌++◌, append_assoc}
use lib.ListN.{length, take, drop, get_or, set, length-append, length-drop, length-replicate, replicate-append-replicate, take-append-drop}
use lib.Seq.{drop_at, length-take-le}
use Rattle.text.specs.Feeds.{place_of, line_length}
use Rattle.gap.specs.Gap.{zeros, ZeroGap, moved_up, cleared}
use Rattle.gap.proofs.Laws.{clear-parts, gap_of, up-parts}
use Rattle.definitions.specs.Bytes.{Line}
use Rattle.definitions.specs.Journal.{Record, kept, changed, deleted, inserted, erase, old_side, old_of, record_length, journal_length}
use Rattle.definitions.specs.Editor.{sources}
use Rattle.theorems.specs.RecordLaws.{old-append}
use Rattle.editor.specs.Records.{enc, enc_all, enc_before, Goods, old_bytes, zero_place}
use Rattle.editor.specs.Shows.{Holds, Stays}
use Rattle.editor.specs.declared.State.{State}
use Rattle.editor.proofs.Records.{text-place, line-text, three-bytes, enc-length, enc-append, goods-append}
use Rattle.editor.proofs.Held.{held-length}
use Rattle.editor.proofs.Striking.{mark_set}
use Rattle.spans.specs.Spans.{freed_by, Stands, StandsAt, widened, ClosesHole}
use Rattle.spans.proofs.Struck.{all_append}
use Rattle.spans.proofs.Standing.{stands-mark, stands-more, stands-record}

-- ---- the bytes that one record leaves

pub freed-inserted : {j : List ℕ} {at next : ℕ} → get_or j at 0 ≡ 43 → (r : Record) (rs : List Record) → Stands j at (r ∷ rs) → next ≡ at + length (enc r) → next - at ≡ freed_by r
unfolding freed_by record_length
freed-inserted m (kept l) rs h is = absurd (omega (arith, stands-mark h))
freed-inserted m (changed o n) rs h is = absurd (omega (arith, stands-mark h))
freed-inserted m (deleted l) rs h is = absurd (omega (arith, stands-mark h))
freed-inserted m (inserted l) rs h is = omega (arith, enc-length (inserted l))

-- where the 0 of a changed line's record stands
zero-place : {j : List ℕ} {at : ℕ} (o n : List ℕ) (rs : List Record) → Stands j at (changed o n ∷ rs) → zero_place (drop at j) ≡ 2 + length o
unfolding place_of enc_all
zero-place {j} {at} o n rs h =
    let q : drop at j ≡ 60 ∷ 62 ∷ (o ++ (0 ∷ ((n ++ (10 ∷ [])) ++ enc_all rs))) = h.bytes ∙ simp append_assoc in
    rw (q, text-place 0 (omega arith) o ((n ++ (10 ∷ [])) ++ enc_all rs) (line-text o h.good.0.0)) (omega arith)

-- its new text and the 0
pub freed-changed : {j : List ℕ} {at next : ℕ} → get_or j at 0 ≡ 60 → (z : ℕ) → z ≡ at + zero_place (drop at j) → (r : Record) (rs : List Record) → Stands j at (r ∷ rs) → next ≡ at + length (enc r)
    → (z + 1 ≤ next) × (next - 1 - z ≡ freed_by r)
unfolding freed_by record_length
freed-changed m z zi (kept l) rs h is = absurd (omega (arith, stands-mark h))
freed-changed m z zi (changed o n) rs h is =
    (omega (arith, enc-length (changed o n), zero-place o n rs h), omega (arith, enc-length (changed o n), zero-place o n rs h))
freed-changed m z zi (deleted l) rs h is = absurd (omega (arith, stands-mark h))
freed-changed m z zi (inserted l) rs h is = absurd (omega (arith, stands-mark h))

pub freed-none : {j : List ℕ} {at : ℕ} → (get_or j at 0 ≡ 43 → ⊥) → (get_or j at 0 ≡ 60 → ⊥) → (r : Record) (rs : List Record) → Stands j at (r ∷ rs) → 0 ≡ freed_by r
unfolding freed_by
freed-none m n (kept l) rs h = refl
freed-none m n (changed o p) rs h = absurd (n (stands-mark h))
freed-none m n (deleted l) rs h = refl
freed-none m n (inserted l) rs h = absurd (m (stands-mark h))

-- the journal is so much shorter
pub erased-length : (r : Record) (c : List Record) → journal_length (erase r ++ c) + freed_by r ≡ journal_length (r ∷ c)
unfolding erase freed_by journal_length record_length
erased-length (kept l) c = omega arith
erased-length (changed o n) c = omega arith
erased-length (deleted l) c = omega arith
erased-length (inserted l) c = omega arith

-- ---- bytes that go

-- bytes that are cleared are a gap
pub cleared-gap : (x : List ℕ) (f b : ℕ) → f ≤ b → b ≤ length x → ZeroGap f b (cleared f (b - f) x)
cleared-gap x f b order fits =
    let D : List ℕ = drop f x in
    let la : length (take f x) ≡ f = length-take-le f x (omega arith) in
    let lm : length (take (b - f) D) ≡ b - f = length-take-le (b - f) D (simp length-drop (omega arith)) in
    let is : x ≡ take f x ++ (take (b - f) D ++ drop (b - f) D) = sym (take-append-drop f x) ∙ ap (λ (z : List ℕ). take f x ++ z) (sym (take-append-drop (b - f) D)) in
    let q : cleared f (b - f) x ≡ take f x ++ (zeros (b - f) ++ drop (b - f) D) =
    ap (cleared f (b - f)) is ∙ clear-parts (take f x) (take (b - f) D) (drop (b - f) D) f (b - f) la lm in
    rw q (gap_of (take f x) (drop (b - f) D) (b - f) f b la (omega arith))

-- H goes, and M moves up
hole-closed : (P M H Z : List ℕ) (b f t : ℕ) → length P ≡ b → b + length M ≡ f → f + length H ≡ t
    → moved_up b f t (cleared f (t - f) (P ++ (M ++ (H ++ Z)))) ≡ P ++ (zeros (t - f) ++ (M ++ Z))
hole-closed P M H Z b f t lp lm lh =
    let size : length H ≡ t - f = omega arith in
    let two : length (P ++ M) ≡ f = omega (arith, length-append P M) in
    let is : P ++ (M ++ (H ++ Z)) ≡ (P ++ M) ++ (H ++ Z) = sym (append_assoc P M (H ++ Z)) in
    ap (λ (x : List ℕ). moved_up b f t (cleared f (t - f) x)) is ∙ ap (moved_up b f t) (clear-parts (P ++ M) H Z f (t - f) two size) ∙ up-parts P M Z (t - f) b f t lp lm (omega arith)

-- ---- records at a place behind the gap

goods-first : (m c : List Record) → Goods (m ++ c) → Goods m
goods-first [] c g = tt
goods-first (r ∷ m) c g = (g.0, goods-first m c g.1)

goods-later : (m c : List Record) → Goods (m ++ c) → Goods c
goods-later [] c g = g
goods-later (r ∷ m) c g = goods-later m c g.1

module _ {j : List ℕ} {st : State} (b m c : List Record) (h : Holds j st b (m ++ c)) (at : ℕ) (is : at + length (enc_all c) ≡ length j) where
  -- the bytes up to the gap's end
  abbrev P : List ℕ
  P = enc_before b ++ zeros (st.back - st.front)

  front_long : length P ≡ st.back
  front_long = simp (length-append, length-replicate) (omega (arith, h.front, h.order))

  pub at_place : st.back + length (enc_all m) ≡ at
  at_place = omega (arith, held-length h, all_append m c)

  at-bytes : j ≡ P ++ (enc_all m ++ enc_all c)
  at-bytes = h.bytes ∙ sym (append_assoc (enc_before b) (zeros (st.back - st.front)) (enc_all (m ++ c))) ∙ ap (λ (z : List ℕ). P ++ z) (enc-append m c)

  at_long : length (P ++ enc_all m) ≡ at
  at_long = omega (arith, length-append P (enc_all m), front_long, at_place)

  pub at-stands : Stands j at c
  at-stands = record {
    bytes = rw at-bytes (rw (← append_assoc P (enc_all m) (enc_all c)) (drop_at (P ++ enc_all m) (enc_all c) at at_long));
    inside = omega (arith, is);
    good = goods-later m c h.good;
  }

  -- other records in their place, with the same source lines: n bytes fewer
  at-holds : (k : List ℕ) (s : State) (n : ℕ) (d : List Record) → Goods d → old_side d ≡ old_side c → s.front ≡ st.front → s.back ≡ st.back + n → s.past ≡ st.past
      → s.lines ≡ st.lines → s.source ≡ st.source → s.size ≡ st.size → k ≡ P ++ (zeros n ++ (enc_all m ++ enc_all d)) → Holds k s b (m ++ d)
  unfolding sources old_bytes
  at-holds k s n d good old sf sb sp sl so sz q =
      let g : ℕ = st.back - st.front in
      let same : old_side (m ++ c) ≡ old_side (m ++ d) = old-append m c ∙ ap (λ (z : List Line). old_side m ++ z) (sym old) ∙ sym (old-append m d) in
      let wide : s.back - s.front ≡ g + n = omega (arith, h.order) in
      let two : zeros (g + n) ≡ zeros g ++ zeros n = sym (replicate-append-replicate {A = ℕ} g n 0) in
      record {
        bytes = q ∙ rw (wide, two, enc-append m d) (simp append_assoc);
        front = h.front ∙ sym sf;
        order = omega (arith, h.order);
        past_good = h.past_good;
        good = goods-append m d (goods-first m c h.good) good;
        past = sp ∙ h.past;
        lines = rw same at (sl ∙ h.lines);
        source = so ∙ h.source;
        size = rw same at (sz ∙ h.size);
        few = omega (arith, h.few);
      }

-- the bytes of the first of them, and those before and after it
at-parts : {j : List ℕ} {st : State} (b m : List Record) (x : Record) (a : List Record) (h : Holds j st b (m ++ (x ∷ a))) (at : ℕ) (is : at + length (enc_all (x ∷ a)) ≡ length j)
    → j ≡ ((P b m (x ∷ a) h at is ++ enc_all m) ++ enc x) ++ enc_all a
unfolding enc_all
at-parts b m x a h at is = at-bytes b m (x ∷ a) h at is ∙ simp append_assoc

-- ---- what deletion of its line asks

-- a record has three bytes at least
pub at-inside : {j : List ℕ} {st : State} (at : ℕ) → StandsAt j st at → at + 3 ≤ length j
at-inside at (b, m, x, a, h, is) = omega (arith, stands-more (at-stands b m (x ∷ a) h at is), three-bytes x)

-- and ends after its place
pub at-ends : {j : List ℕ} {st : State} {at : ℕ} → StandsAt j st at → (next : ℕ) → next ≡ at + line_length (drop at j) → at < next
at-ends {at = at} (b, m, x, a, h, is) next to = omega (arith, stands-record (at-stands b m (x ∷ a) h at is), three-bytes x)

pub hole-inserted : {j : List ℕ} {st : State} {at : ℕ} → StandsAt j st at → (next : ℕ) → next ≡ at + line_length (drop at j) → (st.back ≤ at) × (at ≤ next) × (next ≤ length j)
hole-inserted {j} {st} {at} (b, m, x, a, h, is) next to =
    let w : Stands j at (x ∷ a) = at-stands b m (x ∷ a) h at is in
    (omega (arith, at_place b m (x ∷ a) h at is), omega arith, omega (arith, stands-record w, stands-more w))

-- where the new text of a changed line stands, with the 0 before it
changed-ends : {j : List ℕ} {at : ℕ} (o n : List ℕ) (rs : List Record) → Stands j at (changed o n ∷ rs) → (next z : ℕ) → next ≡ at + line_length (drop at j) → z ≡ at + zero_place (drop at j)
    → (z ≡ at + (2 + length o)) × (z + length (0 ∷ n) ≡ next - 1)
unfolding record_length
changed-ends o n rs w next z to zi =
    (omega (arith, zero-place o n rs w), omega (arith, zero-place o n rs w, stands-record w, enc-length (changed o n)))

pub hole-changed : {j : List ℕ} {st : State} (at : ℕ) → get_or j at 0 ≡ 60 → StandsAt j st at → (next z : ℕ) → next ≡ at + line_length (drop at j) → z ≡ at + zero_place (drop at j)
    → (st.back ≤ z) × (z ≤ next - 1) × (next - 1 ≤ length j)
hole-changed at m (b, c, kept l, a, h, is) next z to zi = absurd (omega (arith, stands-mark (at-stands b c (kept l ∷ a) h at is)))
hole-changed {j} {st} at m (b, c, changed o n, a, h, is) next z to zi =
    let w : Stands j at (changed o n ∷ a) = at-stands b c (changed o n ∷ a) h at is in
    let e : (z ≡ at + (2 + length o)) × (z + length (0 ∷ n) ≡ next - 1) = changed-ends o n a w next z to zi in
    (omega (arith, at_place b c (changed o n ∷ a) h at is), omega (arith, e.1), omega (arith, stands-record w, stands-more w))
hole-changed at m (b, c, deleted l, a, h, is) next z to zi = absurd (omega (arith, stands-mark (at-stands b c (deleted l ∷ a) h at is)))
hole-changed at m (b, c, inserted l, a, h, is) next z to zi = absurd (omega (arith, stands-mark (at-stands b c (inserted l ∷ a) h at is)))

-- ---- what is left

module _ (j : List ℕ) (st : State) (at : ℕ) (b m : List Record) where
  -- the record x, `left` of it being there now
  abbrev Erased : List ℕ → State → Record → List Record → Type 0
  Erased k s x a = Holds j st b (m ++ (x ∷ a)) → at + length (enc_all (x ∷ a)) ≡ length j → Holds k s b (m ++ (erase x ++ a)) × (s.back ≡ st.back + freed_by x)

  -- an inserted record goes
  pub erased-inserted : {k : List ℕ} {s : State} (next : ℕ) → get_or j at 0 ≡ 43 → next ≡ at + line_length (drop at j) → ClosesHole at next j st k s → (x : Record) (a : List Record) → Erased k s x a
  unfolding erase freed_by enc_all old_side old_of record_length
  erased-inserted next mk to does (kept l) a h is = absurd (omega (arith, stands-mark (at-stands b m (kept l ∷ a) h at is)))
  erased-inserted next mk to does (changed o n) a h is = absurd (omega (arith, stands-mark (at-stands b m (changed o n ∷ a) h at is)))
  erased-inserted next mk to does (deleted l) a h is = absurd (omega (arith, stands-mark (at-stands b m (deleted l ∷ a) h at is)))
  erased-inserted {k} {s} next mk to does (inserted l) a h is =
      let x : Record = inserted l in
      let w : Stands j at (x ∷ a) = at-stands b m (x ∷ a) h at is in
      let long : at + length (enc x) ≡ next = omega (arith, stands-record w) in
      let bytes : k ≡ P b m (x ∷ a) h at is ++ (zeros (next - at) ++ (enc_all m ++ enc_all a)) =
      does.0 ∙ ap (λ (z : List ℕ). moved_up st.back at next (cleared at (next - at) z)) (at-bytes b m (x ∷ a) h at is)
      ∙ hole-closed (P b m (x ∷ a) h at is) (enc_all m) (enc x) (enc_all a) st.back at next (front_long b m (x ∷ a) h at is) (at_place b m (x ∷ a) h at is) long in (
        rw does.1 (at-holds b m (x ∷ a) h at is k (widened st (next - at)) (next - at) a w.good.1 refl refl refl refl refl refl refl bytes),
        rw does.1 (omega (arith, enc-length x)),
      )

  -- a kept one, or one that is deleted before, gets the mark
  pub erased-kept : {k : List ℕ} → (get_or j at 0 ≡ 43 → ⊥) → (get_or j at 0 ≡ 60 → ⊥) → k ≡ set (set j at 45) (at + 1) 45 → (x : Record) (a : List Record) → Erased k st x a
  unfolding erase freed_by enc_all old_side old_of
  erased-kept {k} ni nc q (kept l) a h is =
      let x : Record = kept l in
      let w : Stands j at (x ∷ a) = at-stands b m (x ∷ a) h at is in
      let bytes : k ≡ P b m (x ∷ a) h at is ++ (enc_all m ++ enc_all (deleted l ∷ a)) =
      q ∙ ap (λ (z : List ℕ). set (set z at 45) (at + 1) 45) (at-parts b m x a h at is)
      ∙ mark_set (P b m (x ∷ a) h at is ++ enc_all m) (l ++ (10 ∷ [])) (enc_all a) at 61 61 (at_long b m (x ∷ a) h at is) ∙ simp append_assoc in
      (at-holds b m (x ∷ a) h at is k st 0 (deleted l ∷ a) w.good refl refl (omega arith) refl refl refl refl bytes, omega arith)
  erased-kept ni nc q (changed o n) a h is = absurd (nc (stands-mark (at-stands b m (changed o n ∷ a) h at is)))
  erased-kept {k} ni nc q (deleted l) a h is =
      let x : Record = deleted l in
      let w : Stands j at (x ∷ a) = at-stands b m (x ∷ a) h at is in
      let bytes : k ≡ P b m (x ∷ a) h at is ++ (enc_all m ++ enc_all (deleted l ∷ a)) =
      q ∙ ap (λ (z : List ℕ). set (set z at 45) (at + 1) 45) (at-parts b m x a h at is)
      ∙ mark_set (P b m (x ∷ a) h at is ++ enc_all m) (l ++ (10 ∷ [])) (enc_all a) at 45 45 (at_long b m (x ∷ a) h at is) ∙ simp append_assoc in
      (at-holds b m (x ∷ a) h at is k st 0 (deleted l ∷ a) w.good refl refl (omega arith) refl refl refl refl bytes, omega arith)
  erased-kept ni nc q (inserted l) a h is = absurd (ni (stands-mark (at-stands b m (inserted l ∷ a) h at is)))

  -- a changed one gets the mark, and its new text goes
  pub erased-changed : {i k : List ℕ} {s : State} (next z : ℕ) → get_or j at 0 ≡ 60 → next ≡ at + line_length (drop at j) → z ≡ at + zero_place (drop at j)
      → i ≡ set (set j at 45) (at + 1) 45 → ClosesHole z (next - 1) i st k s → (x : Record) (a : List Record) → Erased k s x a
  unfolding erase freed_by enc_all old_side old_of
  erased-changed next z mk to zi q does (kept l) a h is = absurd (omega (arith, stands-mark (at-stands b m (kept l ∷ a) h at is)))
  erased-changed {i} {k} {s} next z mk to zi q does (changed o n) a h is =
      let x : Record = changed o n in
      let w : Stands j at (x ∷ a) = at-stands b m (x ∷ a) h at is in
      let B : List ℕ = P b m (x ∷ a) h at is in
      let M : List ℕ = enc_all m ++ (45 ∷ 45 ∷ o) in
      let e : (z ≡ at + (2 + length o)) × (z + length (0 ∷ n) ≡ next - 1) = changed-ends o n a w next z to zi in
      let marks : i ≡ B ++ (M ++ ((0 ∷ n) ++ (10 ∷ enc_all a))) =
      q ∙ ap (λ (y : List ℕ). set (set y at 45) (at + 1) 45) (at-parts b m x a h at is)
      ∙ mark_set (B ++ enc_all m) ((o ++ (0 ∷ n)) ++ (10 ∷ [])) (enc_all a) at 60 62 (at_long b m (x ∷ a) h at is) ∙ simp append_assoc in
      let far : st.back + length M ≡ z = omega (arith, length-append (enc_all m) (45 ∷ 45 ∷ o), at_place b m (x ∷ a) h at is, e.0) in
      let bytes : k ≡ B ++ (zeros (next - 1 - z) ++ (enc_all m ++ enc_all (deleted o ∷ a))) =
      does.0 ∙ ap (λ (y : List ℕ). moved_up st.back z (next - 1) (cleared z (next - 1 - z) y)) marks
      ∙ hole-closed B M (0 ∷ n) (10 ∷ enc_all a) st.back z (next - 1) (front_long b m (x ∷ a) h at is) far e.1 ∙ simp append_assoc in (
        rw does.1 (at-holds b m (x ∷ a) h at is k (widened st (next - 1 - z)) (next - 1 - z) (deleted o ∷ a) (w.good.0.0, w.good.1) refl refl refl refl refl refl refl bytes),
        rw does.1 (omega (arith, e.1)),
      )
  erased-changed next z mk to zi q does (deleted l) a h is = absurd (omega (arith, stands-mark (at-stands b m (deleted l ∷ a) h at is)))
  erased-changed next z mk to zi q does (inserted l) a h is = absurd (omega (arith, stands-mark (at-stands b m (inserted l ∷ a) h at is)))

pub stays-wider : {st s : State} (n : ℕ) → s ≡ widened st n → Stays st s
stays-wider n q = rw q (record { furthest = refl; lines = refl; p = refl })
