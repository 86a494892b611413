-- Walks of the gap over records: where they end is what the definitions say, and the way back. Assumes nothing.
use mathlib.Core.Path.{◌≡◌, refl, sym, ap, ◌∙◌}
use mathlib.Core.Logic.{◌⊎◌, inl, inr}
use Prim.Native.Nat.{ℕ, ◌+◌, ◌-◌, ◌≤◌, ◌<◌, min, max}
use native.Mathlib.Omega.{arith}
use mathlib.Core.List.{List, [], ◌∷◌, ◌++◌, reverse_aux, append_assoc}
use lib.ListN.{length, take, drop, get_or, length-append, take-append-drop}
use lib.Seq.{take_at, drop_at, take-append-le, drop-append-le}
use Rattle.definitions.specs.Journal.{Record}
use Rattle.definitions.specs.Editor.{ed, before_of, after_of, sources, land}
use Rattle.gap.specs.Gap.{zeros, ZeroGap, moved_down, moved_up}
use Rattle.gap.proofs.Laws.{down-parts, up-parts}
use Rattle.editor.specs.Records.{enc, enc_all, enc_before, mark, Good}
use Rattle.editor.specs.Shows.{Holds, Placed, PassesOver, PassesBack, Walks, back_to, on_to, to_source, Away, raised, line_at}
use Rattle.editor.specs.declared.State.{State}
use Rattle.editor.proofs.Records.{sourced, new_line, old-line, some_bytes, sources-cons, sources-nil, before-all}
use Rattle.editor.proofs.Held.{stays_on, holds_as, holds-lists, placed_by, held-length, held-gap, held_first, held_none, held-nearest, held-less, held-mark, held_bytes, held_more}
use Rattle.editor.proofs.Reaching.{land-over, land-live, land-eof, back-here, back_more, back_on, on-over, on-here, on-eof, source-same}

-- ---- where a walk has come to

-- The gap stands elsewhere among the same records, and what `walk` gives from there is what it gives from the start.
pub record Way {A : Type 0} (walk : List Record → List Record → A) (j : List ℕ) (s : State) (b a : List Record) : Type 0 where
  pub front : List Record
  pub back : List Record
  pub holds : Holds j s front back
  pub same : reverse_aux front back ≡ reverse_aux b a
  pub way : walk front back ≡ walk b a

pub way-start : {A : Type 0} {walk : List Record → List Record → A} {j : List ℕ} {s : State} (b a : List Record) → Holds j s b a → Way walk j s b a
way-start b a h = record { front = b; back = a; holds = h; same = refl; way = refl }

-- from there the gap can go back to where it was
pub way-away : {A : Type 0} {walk : List Record → List Record → A} {j k : List ℕ} {st s : State} {b a : List Record} → Holds j st b a → Way walk k s b a → length j ≡ length k
    → Away j st k s
way-away {b = b} {a = a} h w long = record { before = b; rest = a; front = w.front; back = w.back; was = h; now = w.holds; same = w.same; long = long }

-- a record stands at the gap's end
pub passable : {j : List ℕ} {s : State} {b a : List Record} → Holds j s b a → s.back < length j → (c : List Record) × (r : Record) × (d : List Record) × Holds j s c (r ∷ d)
passable {j} {s} {b} {a} h more =
    let f : (r : Record) × (d : List Record) × (a ≡ r ∷ d) = held_first h more in
    (b, f.0, f.1, holds-lists refl f.2 h)

-- its bytes
pub standing : {j : List ℕ} {s : State} {b a : List Record} → Holds j s b a → s.back < length j → (r : Record) × (z : List ℕ) × Good r × (drop s.back j ≡ enc r ++ z)
standing h more =
    let w = passable h more in
    (w.1, enc_all w.2, w.3.good.0, held_bytes w.3)

-- and at its start
pub unpassable : {j : List ℕ} {s : State} {b a : List Record} → Holds j s b a → 0 < s.front → (r : Record) × (c : List Record) × (d : List Record) × Holds j s (r ∷ c) d
unpassable {j} {s} {b} {a} h more =
    let f : (r : Record) × (c : List Record) × (b ≡ r ∷ c) = held-nearest h more in
    (f.0, f.1, a, holds-lists f.2 refl h)

-- on over the record at the gap's end
module _ {A : Type 0} {walk : List Record → List Record → A} {j : List ℕ} {s : State} {b a : List Record} (w : Way walk j s b a) (more : s.back < length j) where
  first : (r : Record) × (d : List Record) × (w.back ≡ r ∷ d)
  first = held_first w.holds more

  first-held : Holds j s w.front (first.0 ∷ first.1)
  first-held = holds-lists refl first.2 w.holds

  pub way_on : {k : List ℕ} {u : State} → PassesOver j s k u → ((c : List Record) (r : Record) (d : List Record) → Holds j s c (r ∷ d) → walk (r ∷ c) d ≡ walk c (r ∷ d)) → Way walk k u b a
  way_on moves keeps = record {
    front = first.0 ∷ w.front;
    back = first.1;
    holds = moves.0 w.front first.0 first.1 first-held;
    same = ap (reverse_aux w.front) (sym first.2) ∙ w.same;
    way = keeps w.front first.0 first.1 first-held ∙ ap (walk w.front) (sym first.2) ∙ w.way;
  }

-- back over the record at the gap's start
module _ {A : Type 0} {walk : List Record → List Record → A} {j k : List ℕ} {s u : State} {b a : List Record} (w : Way walk j s b a) (more : 0 < s.front) (moves : PassesBack j s k u) where
  near : (r : Record) × (c : List Record) × (w.front ≡ r ∷ c)
  near = held-nearest w.holds more

  near-was : Holds j s (near.0 ∷ near.1) w.back
  near-was = holds-lists near.2 refl w.holds

  near-held : Holds k u near.1 (near.0 ∷ w.back)
  near-held = moves.0 near.0 near.1 w.back near-was

  near-way : walk (near.0 ∷ near.1) w.back ≡ walk b a
  near-way = ap (λ (z : List Record). walk z w.back) (sym near.2) ∙ w.way

  pub way_back : ((r : Record) (c : List Record) (d : List Record) → Holds j s (r ∷ c) d → Holds k u c (r ∷ d) → walk c (r ∷ d) ≡ walk (r ∷ c) d) → Way walk k u b a
  way_back keeps = record {
    front = near.1;
    back = near.0 ∷ w.back;
    holds = near-held;
    same = ap (λ (z : List Record). reverse_aux z w.back) (sym near.2) ∙ w.same;
    way = keeps near.0 near.1 w.back near-was near-held ∙ near-way;
  }

  -- the record that is then current
  pub back_in : u.back < length k
  back_in = omega (arith, held_more near-held, some_bytes near.0)

  pub back_at : (c : List Record) × (r : Record) × (d : List Record) × Holds k u c (r ∷ d) × (walk (r ∷ c) d ≡ walk b a)
  back_at = (near.1, near.0, w.back, near-held, near-way)

-- ---- over deleted records

module _ {j : List ℕ} {s : State} {b a : List Record} (w : Way land j s b a) where
  pub land-ends : length j ≤ s.back → (v : State) → Placed s v → Holds j v (before_of (land b a)) (after_of (land b a))
  unfolding before_of after_of
  land-ends end v q =
      let is : land b a ≡ ed w.front [] 0 = sym w.way ∙ ap (land w.front) (held_none w.holds end) ∙ land-eof w.front in
      rw is (holds_as q (holds-lists refl (held_none w.holds end) w.holds))

  module _ (more : s.back < length j) where
    pub land-stops : (get_or j s.back 0 ≡ 45 → ⊥) → (v : State) → Placed s v → Holds j v (before_of (land b a)) (after_of (land b a))
    unfolding before_of after_of
    land-stops live v q =
        let f : (r : Record) × (d : List Record) × (w.back ≡ r ∷ d) = held_first w.holds more in
        let held : Holds j s w.front (f.0 ∷ f.1) = holds-lists refl f.2 w.holds in
        let is : land b a ≡ ed w.front (f.0 ∷ f.1) 0 =
        sym w.way ∙ ap (land w.front) f.2 ∙ land-live w.front f.0 f.1 (λ m. live (held-mark held ∙ m)) in
        rw is (holds_as q held)

    pub land-goes : get_or j s.back 0 ≡ 45 → {k : List ℕ} {u : State} → PassesOver j s k u → Way land k u b a
    land-goes dead moves = way_on w more moves (λ c r d h. land-over c r d (sym (held-mark h) ∙ dead))

-- ---- back until at most n source lines stand before the gap

-- a source line is counted before the gap, so a record is there
pub past-some : {j : List ℕ} {s : State} {b a : List Record} → Holds j s b a → 0 < s.past → 0 < s.front
past-some {j} {s} {b} {a} h some = go b h
  where
    go : (b : List Record) → Holds j s b a → 0 < s.front
    go [] h = absurd (omega (arith, h.past, sources-nil))
    go (r ∷ b) h = omega (arith, held-less h, some_bytes r)

pub back-goes : {j k : List ℕ} {s u : State} {b a : List Record} (n : ℕ) → Way (back_to n) j s b a → n < s.past → PassesBack j s k u → Way (back_to n) k u b a
back-goes n w more moves = way_back w (past-some w.holds (omega arith)) moves (λ r c d was h. back_more n c r d (omega (arith, was.past)))

pub back-ends : {j : List ℕ} {s : State} {b a : List Record} (n : ℕ) → Way (back_to n) j s b a → s.past ≤ n → Holds j s (back_to n b a).0 (back_to n b a).1
back-ends {b = b} {a = a} n w low =
    let is : back_to n b a ≡ (w.front, w.back) = sym w.way ∙ back-here n w.front w.back (omega (arith, w.holds.past)) in
    rw is w.holds

-- ---- on until the record after n source lines is current

module _ {j : List ℕ} {s : State} {b a : List Record} (n : ℕ) (w : Way (on_to n) j s b a) where
  pub on-ends : length j ≤ s.back → Holds j s (on_to n b a).0 (on_to n b a).1
  on-ends end =
      let none : w.back ≡ [] = held_none w.holds end in
      let is : on_to n b a ≡ (w.front, []) = sym w.way ∙ ap (on_to n w.front) none ∙ on-eof n w.front in
      rw is (holds-lists refl none w.holds)

  module _ (more : s.back < length j) where
    pub on-stops : n ≤ s.past → (get_or j s.back 0 ≡ 43 → ⊥) → Holds j s (on_to n b a).0 (on_to n b a).1
    on-stops high old =
        let f : (r : Record) × (d : List Record) × (w.back ≡ r ∷ d) = held_first w.holds more in
        let held : Holds j s w.front (f.0 ∷ f.1) = holds-lists refl f.2 w.holds in
        let is : on_to n b a ≡ (w.front, f.0 ∷ f.1) =
        sym w.way ∙ ap (on_to n w.front) f.2 ∙ on-here n w.front f.0 f.1 (omega (arith, held.past)) (λ m. old (held-mark held ∙ m)) in
        rw is held

    pub on-goes : (s.past < n) ⊎ (get_or j s.back 0 ≡ 43) → {k : List ℕ} {u : State} → PassesOver j s k u → Way (on_to n) k u b a
    on-goes way moves = way_on w more moves (λ c r d h. on-over n c r d (by c r d h way))
      where
        by : (c : List Record) (r : Record) (d : List Record) → Holds j s c (r ∷ d) → (s.past < n) ⊎ (get_or j s.back 0 ≡ 43) → (sources c < n) ⊎ (mark r ≡ 43)
        by c r d h (inl l) = inl (omega (arith, h.past))
        by c r d h (inr m) = inr (sym (held-mark h) ∙ m)

-- back, then on
pub source-walks : {j k i : List ℕ} {st s u : State} (n : ℕ) → Walks (back_to n) j st k s → Walks (on_to n) k s i u → Walks (to_source n) j st i u
source-walks n backs ons =
    ((λ b a h. rw (← back_on n b a) (ons.0 (back_to n b a).0 (back_to n b a).1 (backs.0 b a h))), stays_on backs.1 ons.1)

-- ---- the gap goes back

-- from the place of a source line
pub source-away : {j k : List ℕ} {st u : State} {b a : List Record} (n : ℕ) → Holds j st b a → Walks (to_source n) j st k u → length j ≡ length k → Away j st k u
source-away {b = b} {a = a} n h walks long = record {
  before = b;
  rest = a;
  front = (to_source n b a).0;
  back = (to_source n b a).1;
  was = h;
  now = walks.0 b a h;
  same = source-same n b a;
  long = long;
}

-- two ways to write bytes as a first and a second part
split-up : (B A C D : List ℕ) → B ++ A ≡ C ++ D → length B ≤ length C → (M : List ℕ) × (C ≡ B ++ M) × (A ≡ M ++ D)
split-up B A C D q h =
    let M : List ℕ = drop (length B) C in
    let front : B ≡ take (length B) C = sym (take_at B A (length B) refl) ∙ ap (take (length B)) q ∙ take-append-le (length B) C D h in
    let back : A ≡ M ++ D = sym (drop_at B A (length B) refl) ∙ ap (drop (length B)) q ∙ drop-append-le (length B) C D h in
    (M, sym (take-append-drop (length B) C) ∙ ap (λ (z : List ℕ). z ++ M) (sym front), back)

module _ {i j : List ℕ} {there st : State} (w : Away i there j st) where
  all-bytes : enc_before w.before ++ enc_all w.rest ≡ enc_before w.front ++ enc_all w.back
  all-bytes = before-all w.before w.rest ∙ ap enc_all (sym w.same) ∙ sym (before-all w.front w.back)

  -- the gap is as wide
  wide : there.back - there.front ≡ st.back - st.front
  wide =
      omega (
        arith,
        w.long,
        held-length w.was,
        held-length w.now,
        w.was.order,
        w.now.order,
        w.was.front,
        w.now.front,
        ap length all-bytes,
        length-append (enc_before w.before) (enc_all w.rest),
        length-append (enc_before w.front) (enc_all w.back),
      )

  -- up over the bytes that it had gone on over
  pub gap_up : there.front ≤ st.front → (k : List ℕ) → k ≡ moved_up there.front st.front st.back j → k ≡ i
  gap_up h k q =
      up_by q (split-up (enc_before w.before) (enc_all w.rest) (enc_before w.front) (enc_all w.back) all-bytes (omega (arith, w.was.front, w.now.front)))
    where
      up_by : k ≡ moved_up there.front st.front st.back j
          → (M : List ℕ) × (enc_before w.front ≡ enc_before w.before ++ M) × (enc_all w.rest ≡ M ++ enc_all w.back) → k ≡ i
      up_by q (M, front, back) =
          let B : List ℕ = enc_before w.before in
          let g : ℕ = st.back - st.front in
          let now : j ≡ (B ++ M) ++ (zeros g ++ enc_all w.back) = w.now.bytes ∙ ap (λ (z : List ℕ). z ++ (zeros g ++ enc_all w.back)) front in
          let was : i ≡ B ++ (zeros g ++ (M ++ enc_all w.back)) = w.was.bytes ∙ rw (wide, back) in
          let long : there.front + length M ≡ st.front = omega (arith, w.was.front, w.now.front, ap length front, length-append B M) in
          q ∙ ap (moved_up there.front st.front st.back) now
          ∙ up-parts B M (enc_all w.back) g there.front st.front st.back w.was.front long (omega (arith, w.now.order)) ∙ sym was

  -- down over the bytes that it had gone back over
  pub gap_down : st.front ≤ there.front → (k : List ℕ) → k ≡ moved_down st.front st.back (there.front - st.front) j → k ≡ i
  gap_down h k q =
      down_by q
      (split-up (enc_before w.front) (enc_all w.back) (enc_before w.before) (enc_all w.rest) (sym all-bytes) (omega (arith, w.was.front, w.now.front)))
    where
      down_by : k ≡ moved_down st.front st.back (there.front - st.front) j
          → (M : List ℕ) × (enc_before w.before ≡ enc_before w.front ++ M) × (enc_all w.back ≡ M ++ enc_all w.rest) → k ≡ i
      down_by q (M, front, back) =
          let C : List ℕ = enc_before w.front in
          let g : ℕ = st.back - st.front in
          let now : j ≡ C ++ (zeros g ++ (M ++ enc_all w.rest)) = w.now.bytes ∙ ap (λ (z : List ℕ). C ++ (zeros g ++ z)) back in
          let was : i ≡ C ++ (M ++ (zeros g ++ enc_all w.rest)) = w.was.bytes ∙ rw (wide, front, append_assoc C M (zeros g ++ enc_all w.rest)) in
          let long : length M ≡ there.front - st.front = omega (arith, w.was.front, w.now.front, ap length front, length-append C M) in
          q ∙ ap (moved_down st.front st.back (there.front - st.front)) now
          ∙ down-parts C M (enc_all w.rest) g st.front st.back (there.front - st.front) w.now.front (omega (arith, w.now.order)) long ∙ sym was

  -- what the moves of the bytes ask
  pub gap-inside : (st.front ≤ st.back) × (st.back ≤ length j) × ZeroGap st.front st.back j
  gap-inside = (w.now.order, omega (arith, held-length w.now), held-gap w.now)

  pub gap-room : st.front ≤ there.front → st.back + (there.front - st.front) ≤ length j
  gap-room h = omega (arith, w.long, held-length w.was, w.was.order, wide, w.now.order)

-- ---- the line that is current now is read

-- the furthest line is set
pub raised_by : (st : State) (a f : ℕ) → f ≡ max st.furthest (min a (st.lines + 1))
    → record { front = st.front; back = st.back; past = st.past; furthest = f; lines = st.lines; source = st.source; size = st.size; p = st.p } ≡ raised st a
raised_by st a f q =
    ap (λ (n : ℕ). record { front = st.front; back = st.back; past = st.past; furthest = n; lines = st.lines; source = st.source; size = st.size; p = st.p }) q

pub raised-holds : {j : List ℕ} {st s : State} {b r : List Record} (a : ℕ) → s ≡ raised st a → Holds j st b r → Holds j s b r
raised-holds {st = st} a is h = rw is (holds_as (placed_by st _ _) h)

pub line-at-eof : {j : List ℕ} {s : State} (b a : List Record) → Holds j s b a → length j ≤ s.back → s.past + 1 ≡ line_at b a
unfolding line_at
line-at-eof b a h end = rw (held_none h end) (omega (arith, h.past))

module _ {j : List ℕ} {s : State} (b a : List Record) (h : Holds j s b a) (more : s.back < length j) where
  line-at : (n : ℕ) → ((r : Record) → get_or j s.back 0 ≡ mark r → sourced r ≡ n) → s.past + n ≡ line_at b a
  unfolding line_at
  line-at n counts =
      let w : (r : Record) × (c : List Record) × (a ≡ r ∷ c) = held_first h more in
      let q : sourced w.0 ≡ n = counts w.0 (held-mark (holds-lists refl w.2 h)) in
      rw w.2 (omega (arith, h.past, sources-cons w.0 [], sources-nil))

  pub line-at-new : get_or j s.back 0 ≡ 43 → s.past ≡ line_at b a
  line-at-new m = omega (arith, line-at 0 (λ r q. new_line r (sym q ∙ m)))

  pub line-at-old : (get_or j s.back 0 ≡ 43 → ⊥) → s.past + 1 ≡ line_at b a
  line-at-old m = line-at 1 (λ r q. old-line r (λ n. m (q ∙ n)))
