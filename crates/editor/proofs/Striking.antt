-- Deletion of the line of the record before the gap. Assumes nothing.
use mathlib.Core.Path.{◌≡◌, refl, sym, ap, ◌∙◌}
use Prim.Native.Nat.{ℕ, suc, ◌+◌, ◌-◌, ◌≤◌}
use native.Mathlib.Omega.{arith}
use mathlib.Core.List.{List, [], ◌∷◌, ◌++◌, append_assoc}
use lib.ListN.{length, drop, get_or, set, length-append, length-replicate, replicate-append-replicate}
use lib.Seq.{set_at, drop_at}
use Rattle.gap.specs.Gap.{zeros, cleared}
use Rattle.gap.proofs.Laws.{clear-parts}
use Rattle.definitions.specs.Journal.{Record, kept, changed, deleted, inserted, erase}
use Rattle.text.specs.Feeds.{place_of}
use Rattle.editor.specs.Records.{enc, enc_all, enc_before, mark, zero_place}
use Rattle.editor.specs.Shows.{Holds, HoldsCut}
use Rattle.editor.specs.declared.State.{State}
use Rattle.editor.proofs.Records.{text-place, line-text, sources-cons, old-bytes-cons, three-bytes}
use Rattle.editor.proofs.Held.{held-near-mark, held-less, held-length}

-- ---- the new text of a changed line goes

module _ {j : List ℕ} {st : State} {f : ℕ} {o n : List ℕ} {b a : List Record} (h : HoldsCut j st f o n b a) where
  -- the bytes after the old text
  abbrev after : List ℕ
  after = (n ++ (10 ∷ [])) ++ (zeros (st.back - st.front) ++ enc_all a)

  cut-bytes : j ≡ (enc_before b ++ (45 ∷ 45 ∷ o)) ++ (0 ∷ after)
  cut-bytes = h.bytes ∙ simp append_assoc

  cut-front : length (enc_before b ++ (45 ∷ 45 ∷ o)) ≡ f + (2 + length o)
  cut-front = length-append (enc_before b) (45 ∷ 45 ∷ o) ∙ (let q : length (enc_before b) + suc (suc (length o)) ≡ f + (2 + length o) = omega (arith, h.start) in q)

  pub cut-place : zero_place (drop f j) ≡ 2 + length o
  unfolding place_of
  cut-place =
      let q : drop f j ≡ 45 ∷ 45 ∷ (o ++ (0 ∷ after)) = rw (cut-bytes, append_assoc (enc_before b) (45 ∷ 45 ∷ o) (0 ∷ after)) (drop_at (enc_before b) (45 ∷ 45 ∷ (o ++ (0 ∷ after))) f h.start) in
      rw (q, text-place 0 (omega arith) o after (line-text o h.record_good.0)) (omega arith)

  pub cut-length : st.back ≤ length j
  cut-length = ap-length (ap length cut-bytes)
    where
      ap-length : length j ≡ length ((enc_before b ++ (45 ∷ 45 ∷ o)) ++ (0 ∷ after)) → st.back ≤ length j
      ap-length q = omega (arith, simp (length-append, length-replicate) at q, h.start, h.front, h.order)

  pub cut_holds : (k : List ℕ) (s : State) (z : ℕ) → z ≡ f + zero_place (drop f j) → k ≡ cleared (z + 1) (st.front - (z + 1)) (set j z 10)
      → s.front ≡ z + 1 → s.back ≡ st.back → s.past ≡ st.past → s.lines ≡ st.lines
      → s.source ≡ st.source → s.size ≡ st.size → Holds k s (deleted o ∷ b) a
  unfolding enc_before
  cut_holds k s z at is sf sb sp sl so sz =
      let P : List ℕ = enc_before b ++ (45 ∷ 45 ∷ o) in
      let g : ℕ = st.back - st.front in
      let Z : List ℕ = zeros g ++ enc_all a in
      let m : ℕ = length n + 1 in
      let place : f + (2 + length o) ≡ z = omega (arith, cut-place) in
      let lf : set j z 10 ≡ (P ++ (10 ∷ [])) ++ ((n ++ (10 ∷ [])) ++ Z) =
      rw cut-bytes (set_at P 0 after 10 z (cut-front ∙ place) ∙ sym (append_assoc P (10 ∷ []) after)) in
      let one : length (P ++ (10 ∷ [])) ≡ z + 1 = length-append P (10 ∷ []) ∙ ap (λ (i : ℕ). i + 1) (cut-front ∙ place) in
      let size : st.front - (z + 1) ≡ m = omega (arith, h.front) in
      let gone : cleared (z + 1) (st.front - (z + 1)) (set j z 10) ≡ (P ++ (10 ∷ [])) ++ (zeros m ++ Z) =
      rw (size, lf) (clear-parts (P ++ (10 ∷ [])) (n ++ (10 ∷ [])) Z (z + 1) m one (length-append n (10 ∷ []))) in
      let wide : s.back - s.front ≡ m + g = omega (arith, h.front, h.order) in
      let joined : zeros (m + g) ++ enc_all a ≡ zeros m ++ Z = rw (← replicate-append-replicate {A = ℕ} m g 0) (append_assoc (zeros m) (zeros g) (enc_all a)) in
      record {
        bytes = is ∙ gone ∙ rw (wide, joined, append_assoc (enc_before b) (45 ∷ 45 ∷ o) (10 ∷ []));
        front = rw (length-append, length-append) (omega (arith, h.start));
        order = omega (arith, h.front, h.order);
        past_good = (h.record_good.0, h.past_good);
        good = h.good;
        past = omega (arith, h.past, sources-cons (deleted o) b);
        lines = omega (arith, h.lines, sources-cons (deleted o) b);
        source = omega (arith, h.source, old-bytes-cons (deleted o) b);
        size = omega (arith, h.size, old-bytes-cons (deleted o) b);
        few = omega (arith, h.few);
      }

-- ---- the mark

-- both bytes of a mark
pub mark_set : (B X Z : List ℕ) (f x y : ℕ) → length B ≡ f → set (set ((B ++ (x ∷ y ∷ X)) ++ Z) f 45) (f + 1) 45 ≡ (B ++ (45 ∷ 45 ∷ X)) ++ Z
mark_set B X Z f x y at =
    let one : length (B ++ (45 ∷ [])) ≡ f + 1 = length-append B (45 ∷ []) ∙ ap (λ (i : ℕ). i + 1) at in
    rw (append_assoc B (x ∷ y ∷ X) Z, set_at B x (y ∷ (X ++ Z)) 45 f at, ← append_assoc B (45 ∷ []) (y ∷ (X ++ Z)), set_at (B ++ (45 ∷ [])) y (X ++ Z) 45 (f + 1) one)
    (simp append_assoc)

near-mark : {j : List ℕ} {st : State} (f : ℕ) (x : Record) (b a : List Record) → Holds j st (x ∷ b) a → length (enc_before b) ≡ f → get_or j f 0 ≡ mark x
near-mark f x b a h at = rw (← at) (held-near-mark h)

-- the record has its three bytes at least, before the gap
pub strike-room : {j : List ℕ} {st : State} (f : ℕ) → ((x : Record) × (b : List Record) × (a : List Record) × Holds j st (x ∷ b) a × (length (enc_before b) ≡ f))
    → (f + 3 ≤ st.front) × (st.front ≤ length j)
strike-room f w = (omega (arith, held-less w.3, w.4, three-bytes w.0), omega (arith, w.3.order, held-length w.3))

module _ {j k : List ℕ} {st : State} (f : ℕ) where
  -- an inserted record goes
  pub strike-inserted : (s : State) → get_or j f 0 ≡ 43 → k ≡ cleared f (st.front - f) j
      → s.front ≡ f → s.back ≡ st.back → s.past ≡ st.past → s.lines ≡ st.lines → s.source ≡ st.source → s.size ≡ st.size
      → (x : Record) (b a : List Record) → Holds j st (x ∷ b) a → length (enc_before b) ≡ f → Holds k s (erase x ++ b) a
  unfolding erase enc_before
  strike-inserted s m q sf sb sp sl so sz (kept l) b a h at = absurd (omega (arith, near-mark f (kept l) b a h at))
  strike-inserted s m q sf sb sp sl so sz (changed o n) b a h at = absurd (omega (arith, near-mark f (changed o n) b a h at))
  strike-inserted s m q sf sb sp sl so sz (deleted l) b a h at = absurd (omega (arith, near-mark f (deleted l) b a h at))
  strike-inserted s m q sf sb sp sl so sz (inserted l) b a h at =
      let g : ℕ = st.back - st.front in
      let e : List ℕ = enc (inserted l) in
      let size : st.front - f ≡ length e = omega (arith, held-less h) in
      let wide : s.back - s.front ≡ length e + g = omega (arith, held-less h, h.order) in
      let joined : zeros (length e + g) ++ enc_all a ≡ zeros (length e) ++ (zeros g ++ enc_all a) =
      rw (← replicate-append-replicate {A = ℕ} (length e) g 0) (append_assoc (zeros (length e)) (zeros g) (enc_all a)) in
      record {
        bytes = q ∙ rw (size, h.bytes, append_assoc (enc_before b) e (zeros g ++ enc_all a)) (clear-parts (enc_before b) e (zeros g ++ enc_all a) f (length e) at refl ∙ rw (wide, joined));
        front = at ∙ sym sf;
        order = omega (arith, held-less h, h.order);
        past_good = h.past_good.1;
        good = h.good;
        past = omega (arith, h.past, sources-cons (inserted l) b);
        lines = omega (arith, h.lines, sources-cons (inserted l) b);
        source = omega (arith, h.source, old-bytes-cons (inserted l) b);
        size = omega (arith, h.size, old-bytes-cons (inserted l) b);
        few = omega (arith, h.few);
      }

  -- a kept one, or one that is deleted before, gets the mark
  pub strike-kept : (get_or j f 0 ≡ 43 → ⊥) → (get_or j f 0 ≡ 60 → ⊥) → k ≡ set (set j f 45) (f + 1) 45
      → (x : Record) (b a : List Record) → Holds j st (x ∷ b) a → length (enc_before b) ≡ f → Holds k st (erase x ++ b) a
  unfolding erase enc_before
  strike-kept m n q (kept l) b a h at = record {
    bytes = q ∙ rw h.bytes (mark_set (enc_before b) (l ++ (10 ∷ [])) (zeros (st.back - st.front) ++ enc_all a) f 61 61 at);
    front = length-append (enc_before b) (enc (deleted l)) ∙ sym (length-append (enc_before b) (enc (kept l))) ∙ h.front;
    order = h.order;
    past_good = h.past_good;
    good = h.good;
    past = omega (arith, h.past, sources-cons (kept l) b, sources-cons (deleted l) b);
    lines = omega (arith, h.lines, sources-cons (kept l) b, sources-cons (deleted l) b);
    source = omega (arith, h.source, old-bytes-cons (kept l) b, old-bytes-cons (deleted l) b);
    size = omega (arith, h.size, old-bytes-cons (kept l) b, old-bytes-cons (deleted l) b);
    few = h.few;
  }
  strike-kept m n q (changed o p) b a h at = absurd (n (near-mark f (changed o p) b a h at))
  strike-kept m n q (deleted l) b a h at = record {
    bytes = q ∙ rw h.bytes (mark_set (enc_before b) (l ++ (10 ∷ [])) (zeros (st.back - st.front) ++ enc_all a) f 45 45 at);
    front = h.front;
    order = h.order;
    past_good = h.past_good;
    good = h.good;
    past = h.past;
    lines = h.lines;
    source = h.source;
    size = h.size;
    few = h.few;
  }
  strike-kept m n q (inserted l) b a h at = absurd (m (near-mark f (inserted l) b a h at))

  cut_of : k ≡ set (set j f 45) (f + 1) 45 → (o n : List ℕ) (b a : List Record) → Holds j st (changed o n ∷ b) a → length (enc_before b) ≡ f
      → HoldsCut k st f o n b a
  unfolding enc_before
  cut_of q o n b a h at = record {
    bytes = q ∙ rw h.bytes (mark_set (enc_before b) ((o ++ (0 ∷ n)) ++ (10 ∷ [])) (zeros (st.back - st.front) ++ enc_all a) f 60 62 at);
    start = at;
    front = omega (arith, simp length-append at (held-less h));
    order = h.order;
    record_good = h.past_good.0;
    past_good = h.past_good.1;
    good = h.good;
    past = h.past ∙ sources-cons (changed o n) b;
    lines = omega (arith, h.lines, sources-cons (changed o n) b);
    source = omega (arith, h.source, old-bytes-cons (changed o n) b);
    size = omega (arith, h.size, old-bytes-cons (changed o n) b);
    few = h.few;
  }

  -- what `cut_new` asks
  pub cut-asks : get_or j f 0 ≡ 60 → k ≡ set (set j f 45) (f + 1) 45 → ((x : Record) × (b : List Record) × (a : List Record) × Holds j st (x ∷ b) a × (length (enc_before b) ≡ f))
      → (o : List ℕ) × (n : List ℕ) × (b : List Record) × (a : List Record) × HoldsCut k st f o n b a
  cut-asks m q (kept l, b, a, h, at) = absurd (omega (arith, near-mark f (kept l) b a h at))
  cut-asks m q (changed o n, b, a, h, at) = (o, n, b, a, cut_of q o n b a h at)
  cut-asks m q (deleted l, b, a, h, at) = absurd (omega (arith, near-mark f (deleted l) b a h at))
  cut-asks m q (inserted l, b, a, h, at) = absurd (omega (arith, near-mark f (inserted l) b a h at))

  -- a changed one gets the mark, and its new text is cut then
  pub strike-changed : get_or j f 0 ≡ 60 → k ≡ set (set j f 45) (f + 1) 45
      → {i : List ℕ} {s : State} → ((o n : List ℕ) (b a : List Record) → HoldsCut k st f o n b a → Holds i s (deleted o ∷ b) a)
      → (x : Record) (b a : List Record) → Holds j st (x ∷ b) a → length (enc_before b) ≡ f → Holds i s (erase x ++ b) a
  unfolding erase enc_before
  strike-changed m q cuts (kept l) b a h at = absurd (omega (arith, near-mark f (kept l) b a h at))
  strike-changed m q cuts (changed o n) b a h at = cuts o n b a (cut_of q o n b a h at)
  strike-changed m q cuts (deleted l) b a h at = absurd (omega (arith, near-mark f (deleted l) b a h at))
  strike-changed m q cuts (inserted l) b a h at = absurd (omega (arith, near-mark f (inserted l) b a h at))
