-- The laws of a buffer that holds records, and of the gap that moves over one. Assumes nothing.
use mathlib.Core.Path.{◌≡◌, refl, sym, ap, ◌∙◌}
use Prim.Native.Nat.{ℕ, ◌+◌, ◌-◌, ◌≤◌, ◌<◌}
use native.Mathlib.Omega.{arith}
use mathlib.Core.List.{List, [], ◌∷◌, ◌++◌, append_assoc}
use lib.ListN.{length, drop, get_or, length-append, length-replicate}
use lib.Seq.{drop_at, get_or_at}
use Rattle.gap.specs.Gap.{zeros, ZeroGap, moved_down, moved_up}
use Rattle.gap.proofs.Laws.{gap_of, down-parts, up-parts}
use Rattle.definitions.specs.Bytes.{Line}
use Rattle.definitions.specs.Journal.{Record, old_of, old_side}
use Rattle.definitions.specs.Editor.{sources}
use Rattle.text.specs.Feeds.{line_length, line_start}
use Rattle.editor.specs.Records.{enc, enc_all, enc_before, mark, Good, old_bytes}
use Rattle.editor.specs.Shows.{Holds, Placed, Stays}
use Rattle.editor.specs.declared.State.{State}
use Rattle.editor.proofs.Records.{unmarked, marked, some_bytes, sourced, sources-cons, old_size, old-bytes-cons, old-bytes-one, has-source, record-line, start_of, first_of, none_of, nearest-of, no-nearest}

module _ {j : List ℕ} {st : State} {b a : List Record} (h : Holds j st b a) where
  front-part : length (enc_before b ++ zeros (st.back - st.front)) ≡ st.back
  front-part = simp (length-append, length-replicate) (omega (arith, h.front, h.order))

  pub held-length : length j ≡ st.back + length (enc_all a)
  held-length = rw (h.bytes, ← append_assoc (enc_before b) (zeros (st.back - st.front)) (enc_all a), length-append, front-part)

  pub held-drop : drop st.back j ≡ enc_all a
  held-drop =
      rw (h.bytes, ← append_assoc (enc_before b) (zeros (st.back - st.front)) (enc_all a))
      (drop_at (enc_before b ++ zeros (st.back - st.front)) (enc_all a) st.back front-part)

  pub held-gap : ZeroGap st.front st.back j
  held-gap = rw h.bytes (gap_of (enc_before b) (enc_all a) (st.back - st.front) st.front st.back h.front (omega (arith, h.order)))

  -- a record is current, or none
  pub held_first : st.back < length j → (r : Record) × (c : List Record) × (a ≡ r ∷ c)
  held_first k = first_of a (omega (arith, held-length))

  pub held_none : length j ≤ st.back → a ≡ []
  held_none k = none_of a (omega (arith, held-length))

  pub held-nearest : 0 < st.front → (r : Record) × (c : List Record) × (b ≡ r ∷ c)
  held-nearest k = nearest-of b (omega (arith, h.front))

  pub held_start : st.front ≡ 0 → b ≡ []
  held_start k = no-nearest b (omega (arith, h.front))

module _ {j : List ℕ} {st : State} {b : List Record} {r : Record} {a : List Record} (h : Holds j st b (r ∷ a)) where
  pub held-mark : get_or j st.back 0 ≡ mark r
  unfolding enc_all
  held-mark =
      let B : List ℕ = enc_before b ++ zeros (st.back - st.front) in
      let q : j ≡ B ++ (mark r ∷ (unmarked r ++ enc_all a)) =
      h.bytes ∙ rw (marked r) (sym (append_assoc (enc_before b) (zeros (st.back - st.front)) (mark r ∷ (unmarked r ++ enc_all a)))) in
      rw q (get_or_at B (mark r) (unmarked r ++ enc_all a) 0 st.back (front-part h))

  pub held_bytes : drop st.back j ≡ enc r ++ enc_all a
  unfolding enc_all
  held_bytes = held-drop h

  pub held-record : line_length (drop st.back j) ≡ length (enc r)
  unfolding enc_all
  held-record = rw (held-drop h) (record-line r (enc_all a) h.good.0)

  pub held_more : st.back + length (enc r) ≤ length j
  unfolding enc_all
  held_more = omega (arith, held-length h, length-append (enc r) (enc_all a))

  passed-bytes : moved_down st.front st.back (length (enc r)) j ≡ enc_before (r ∷ b) ++ (zeros (st.back - st.front) ++ enc_all a)
  unfolding enc_all enc_before
  passed-bytes =
      let g : ℕ = st.back - st.front in
      rw h.bytes
      (down-parts (enc_before b) (enc r) (enc_all a) g st.front st.back (length (enc r)) h.front (omega (arith, h.order)) refl
      ∙ sym (append_assoc (enc_before b) (enc r) (zeros g ++ enc_all a)))

  -- where the record has come to
  pub passed_first : (k : List ℕ) (n : ℕ) → k ≡ moved_down st.front st.back n j → n ≡ line_length (drop st.back j)
      → (x : Record) × (z : List ℕ) × Good x × (drop st.front k ≡ enc x ++ z) × (n ≡ length (enc x))
  unfolding enc_before
  passed_first k n q ends =
      let Z : List ℕ = zeros (st.back - st.front) ++ enc_all a in
      let long : n ≡ length (enc r) = ends ∙ held-record in
      let is : k ≡ enc_before b ++ (enc r ++ Z) = q ∙ rw long (passed-bytes ∙ append_assoc (enc_before b) (enc r) Z) in
      (r, Z, h.good.0, rw is (drop_at (enc_before b) (enc r ++ Z) st.front h.front), long)

  -- its bytes of the table are counted
  pub source-room : st.source + old_size r ≤ st.size
  source-room = omega (arith, h.source, h.size, old-bytes-cons r a)

  -- the record moved over the gap, with the numbers that go with it
  pub passed-holds : (k : List ℕ) (s : State) → k ≡ moved_down st.front st.back (length (enc r)) j
      → s.front ≡ st.front + length (enc r) → s.back ≡ st.back + length (enc r) → s.past ≡ st.past + sourced r → s.lines ≡ st.lines
      → s.source ≡ st.source + old_size r → s.size ≡ st.size → Holds k s (r ∷ b) a
  unfolding enc_before
  passed-holds k s q f e n l o z =
      let wide : s.back - s.front ≡ st.back - st.front = omega (arith, h.order) in
      record {
        bytes = rw wide (q ∙ passed-bytes);
        front = rw length-append (omega (arith, h.front));
        order = omega (arith, h.order);
        past_good = (h.good.0, h.past_good);
        good = h.good.1;
        past = omega (arith, h.past, sources-cons r b);
        lines = omega (arith, h.lines, sources-cons r b, sources-cons r a);
        source = omega (arith, h.source, old-bytes-cons r b);
        size = omega (arith, h.size, old-bytes-cons r b, old-bytes-cons r a);
        few = omega (arith, h.few);
      }

module _ {j : List ℕ} {st : State} {r : Record} {b a : List Record} (h : Holds j st (r ∷ b) a) where
  pub held-lo : line_start j (st.front - 1) ≡ length (enc_before b)
  held-lo = rw h.bytes (rw h.front at (start_of r b (zeros (st.back - st.front) ++ enc_all a) h.past_good.0))

  pub held-less : length (enc_before b) + length (enc r) ≡ st.front
  unfolding enc_before
  held-less = sym (length-append (enc_before b) (enc r)) ∙ h.front

  pub held-near-mark : get_or j (length (enc_before b)) 0 ≡ mark r
  unfolding enc_before
  held-near-mark =
      let Z : List ℕ = zeros (st.back - st.front) ++ enc_all a in
      let q : j ≡ enc_before b ++ (mark r ∷ (unmarked r ++ Z)) = h.bytes ∙ append_assoc (enc_before b) (enc r) Z ∙ rw (marked r) in
      rw q (get_or_at (enc_before b) (mark r) (unmarked r ++ Z) 0 (length (enc_before b)) refl)

  unpassed-bytes : moved_up (length (enc_before b)) st.front st.back j ≡ enc_before b ++ (zeros (st.back - st.front) ++ (enc r ++ enc_all a))
  unfolding enc_before
  unpassed-bytes =
      rw h.bytes
      (up-parts (enc_before b) (enc r) (enc_all a) (st.back - st.front) (length (enc_before b)) st.front st.back refl held-less (omega (arith, h.order)))

  -- where the record has come to
  pub unpassed-first : (k : List ℕ) (lo at n : ℕ) → k ≡ moved_up lo st.front st.back j → lo ≡ line_start j (st.front - 1) → n ≡ st.front - lo → at ≡ st.back - n
      → (x : Record) × (z : List ℕ) × Good x × (drop at k ≡ enc x ++ z) × (n ≡ length (enc x))
  unpassed-first k lo at n q start size to =
      let g : ℕ = st.back - st.front in
      let low : lo ≡ length (enc_before b) = start ∙ held-lo in
      let B : List ℕ = enc_before b ++ zeros g in
      let is : k ≡ B ++ (enc r ++ enc_all a) = q ∙ rw low (unpassed-bytes ∙ sym (append_assoc (enc_before b) (zeros g) (enc r ++ enc_all a))) in
      let there : length B ≡ at = simp (length-append, length-replicate) (omega (arith, held-less, h.order)) in
      (r, enc_all a, h.past_good.0, rw is (drop_at B (enc r ++ enc_all a) at there), omega (arith, held-less))

  -- its source line is counted before the gap
  pub source-past : old_size r ≤ st.source
  source-past = omega (arith, h.source, old-bytes-cons r b)

  pub some-past : 0 < old_size r → 1 ≤ st.past
  some-past old = omega (arith, h.past, sources-cons r b, has-source r old)

  -- the record moved back over the gap
  pub unpassed-holds : (k : List ℕ) (s : State) → k ≡ moved_up (length (enc_before b)) st.front st.back j
      → s.front ≡ length (enc_before b) → s.back ≡ st.back - length (enc r) → st.past ≡ s.past + sourced r → s.lines ≡ st.lines
      → st.source ≡ s.source + old_size r → s.size ≡ st.size → Holds k s b (r ∷ a)
  unfolding enc_all
  unpassed-holds k s q f e n l o z =
      let g : ℕ = st.back - st.front in
      let wide : s.back - s.front ≡ g = omega (arith, h.order, held-less) in
      record {
        bytes = rw wide (q ∙ unpassed-bytes);
        front = sym f;
        order = omega (arith, h.order, held-less);
        past_good = h.past_good.1;
        good = (h.past_good.0, h.good);
        past = omega (arith, h.past, sources-cons r b);
        lines = omega (arith, h.lines, sources-cons r b, sources-cons r a);
        source = omega (arith, h.source, old-bytes-cons r b);
        size = omega (arith, h.size, old-bytes-cons r b, old-bytes-cons r a);
        few = omega (arith, h.few);
      }

-- What `pass_record` does: the record has `old` bytes of the table, which are looked at where it has come to.
module _ {j k : List ℕ} {st : State} (n old : ℕ)
    (moves : k ≡ moved_down st.front st.back n j)
    (ends : n ≡ line_length (drop st.back j))
    (measures : (r : Record) (z : List ℕ) → Good r → drop st.front k ≡ enc r ++ z → n ≡ length (enc r) → old ≡ old_bytes (r ∷ [])) where
  pub pass-old : (b : List Record) (r : Record) (a : List Record) → Holds j st b (r ∷ a) → old ≡ old_size r
  unfolding passed_first
  pass-old b r a h =
      let w : (x : Record) × (z : List ℕ) × Good x × (drop st.front k ≡ enc x ++ z) × (n ≡ length (enc x)) = passed_first h k n moves ends in
      measures r w.1 w.2 w.3 w.4 ∙ old-bytes-one r

  -- d is 1 if the record has a source line, and else 0
  module _ (s : State) (d : ℕ) (counts : (r : Record) → old ≡ old_size r → sourced r ≡ d)
      (front : s.front ≡ st.front + n) (back : s.back ≡ st.back + n) (past : s.past ≡ st.past + d) (lines : s.lines ≡ st.lines)
      (source : s.source ≡ st.source + old) (size : s.size ≡ st.size) where
    pass-holds : (b : List Record) (r : Record) (a : List Record) → Holds j st b (r ∷ a) → Holds k s (r ∷ b) a
    pass-holds b r a h =
        let long : n ≡ length (enc r) = ends ∙ held-record h in
        let has : old ≡ old_size r = pass-old b r a h in
        let c : sourced r ≡ d = counts r has in
        passed-holds h k s (rw long at moves) (omega arith) (omega arith) (omega arith) lines (omega arith) size

    pub pass_all : Stays st s → ((b : List Record) × (r : Record) × (a : List Record) × Holds j st b (r ∷ a))
        → ((b : List Record) (r : Record) (a : List Record) → Holds j st b (r ∷ a) → Holds k s (r ∷ b) a) × Stays st s × (st.back < s.back)
    pass_all stays w = (pass-holds, stays, omega (arith, held-record w.3, some_bytes w.1))

-- what `unpass_record` does
module _ {j k : List ℕ} {st : State} (lo at n old : ℕ)
    (moves : k ≡ moved_up lo st.front st.back j)
    (starts : lo ≡ line_start j (st.front - 1))
    (long : n ≡ st.front - lo) (to : at ≡ st.back - n)
    (measures : (r : Record) (z : List ℕ) → Good r → drop at k ≡ enc r ++ z → n ≡ length (enc r) → old ≡ old_bytes (r ∷ [])) where
  pub unpass-old : (r : Record) (b : List Record) (a : List Record) → Holds j st (r ∷ b) a → old ≡ old_size r
  unfolding unpassed-first
  unpass-old r b a h =
      let w : (x : Record) × (z : List ℕ) × Good x × (drop at k ≡ enc x ++ z) × (n ≡ length (enc x)) = unpassed-first h k lo at n moves starts long to in
      measures r w.1 w.2 w.3 w.4 ∙ old-bytes-one r

  module _ (s : State) (d : ℕ) (counts : (r : Record) → old ≡ old_size r → sourced r ≡ d)
      (front : s.front ≡ lo) (back : s.back ≡ at) (past : s.past ≡ st.past - d) (lines : s.lines ≡ st.lines)
      (source : s.source ≡ st.source - old) (size : s.size ≡ st.size) where
    unpass-holds : (r : Record) (b : List Record) (a : List Record) → Holds j st (r ∷ b) a → Holds k s b (r ∷ a)
    unpass-holds r b a h =
        let is : lo ≡ length (enc_before b) = starts ∙ held-lo h in
        let has : old ≡ old_size r = unpass-old r b a h in
        let c : sourced r ≡ d = counts r has in
        unpassed-holds h k s (rw is at moves) (front ∙ is) (omega (arith, held-less h)) (omega (arith, h.past, sources-cons r b)) lines (omega (arith, source-past h)) size

    pub unpass-all : Stays st s → ((r : Record) × (b : List Record) × (a : List Record) × Holds j st (r ∷ b) a)
        → ((r : Record) (b : List Record) (a : List Record) → Holds j st (r ∷ b) a → Holds k s b (r ∷ a)) × Stays st s × (s.front < st.front)
    unpass-all stays w = (unpass-holds, stays, omega (arith, held-lo w.3, held-less w.3, some_bytes w.0))

-- the numbers that moves leave
pub stays-still : {s : State} → Stays s s
stays-still = record { furthest = refl; lines = refl; p = refl }

pub stays_on : {s u v : State} → Stays s u → Stays u v → Stays s v
stays_on x y = record {
  furthest = y.furthest ∙ x.furthest;
  lines = y.lines ∙ x.lines;
  p = y.p ∙ x.p;
}

pub holds_as : {j : List ℕ} {st s : State} {b a : List Record} → Placed st s → Holds j st b a → Holds j s b a
holds_as q h = record {
  bytes = rw (q.back, q.front) h.bytes;
  front = h.front ∙ sym q.front;
  order = omega (arith, q.back, q.front, h.order);
  past_good = h.past_good;
  good = h.good;
  past = q.past ∙ h.past;
  lines = q.lines ∙ h.lines;
  source = q.source ∙ h.source;
  size = q.size ∙ h.size;
  few = omega (arith, q.lines, h.few);
}

pub holds-lists : {j : List ℕ} {s : State} {b c a d : List Record} → b ≡ c → a ≡ d → Holds j s b a → Holds j s c d
holds-lists p q h = rw (← p, ← q) h

-- the buffer's bytes go with the same numbers where only `furthest` and p are set
pub placed_by : (st : State) (f q : ℕ)
    → Placed st (record { front = st.front; back = st.back; past = st.past; furthest = f; lines = st.lines; source = st.source; size = st.size; p = q })
placed_by st f q = record { front = refl; back = refl; past = refl; lines = refl; source = refl; size = refl }

-- A record in the place of the current one, with the same source line.
pub replaced-holds : {j k : List ℕ} {st s : State} {b : List Record} {r x : Record} {a : List Record} → Holds j st b (r ∷ a) → Good x → old_of x ≡ old_of r
    → s.front ≡ st.front → st.front ≤ s.back → s.past ≡ st.past → s.lines ≡ st.lines → s.source ≡ st.source → s.size ≡ st.size
    → k ≡ enc_before b ++ (zeros (s.back - s.front) ++ enc_all (x ∷ a)) → Holds k s b (x ∷ a)
unfolding sources old_bytes old_side
replaced-holds {s = s} {r = r} {x = x} {a = a} h good old f e p l o z bytes =
    let same : old_side (r ∷ a) ≡ old_side (x ∷ a) = ap (λ (ls : List Line). ls ++ old_side a) (sym old) in
    record {
      bytes = bytes;
      front = h.front ∙ sym f;
      order = omega arith;
      past_good = h.past_good;
      good = (good, h.good.1);
      past = p ∙ h.past;
      lines = rw same at (l ∙ h.lines);
      source = o ∙ h.source;
      size = rw same at (z ∙ h.size);
      few = omega (arith, h.few);
    }
