-- The next live line, found and read without a move. Assumes nothing.
use mathlib.Core.Path.{◌≡◌, refl, sym, ap, ◌∙◌}
use mathlib.Core.Bool.{true, false, true≢false}
use mathlib.Core.Option.{none, some}
use mathlib.Core.Logic.{◌⊎◌, inl, inr}
use Prim.Native.Nat.{ℕ, ◌+◌, ◌≤◌, ◌<◌, min, max}
use native.Mathlib.Omega.{arith}
use mathlib.Core.List.{List, [], ◌∷◌, ◌++◌, map, reverse_aux, append_assoc}
use lib.ListN.{length, take, drop, get_or}
use lib.Seq.{drop-append-le}
use Rattle.text.specs.Feeds.{line_length}
use Rattle.definitions.specs.Bytes.{Line}
use Rattle.definitions.specs.Journal.{Record, kept, changed, deleted, inserted, erase}
use Rattle.definitions.specs.Tape.{Tape, unread, ended, rest_lines}
use Rattle.definitions.specs.Given.{Given, no_globals}
use Rattle.definitions.specs.Editor.{Ed, ed, before_of, after_of, sources, current, is_live, has_live, first_live, land, struck_next, strike_next, edit}
use Rattle.definitions.specs.Reading.{Ran, gave, stopped}
use Rattle.definitions.specs.StepProgram.{runs}
use Rattle.definitions.specs.Edit.{read_past}
use Rattle.theorems.specs.RecordLaws.{sources-append, sources-reverse}
use Rattle.theorems.specs.ReadLines.{read_next, lacking, seen_all, read_past_lem}
use Rattle.editor.specs.Records.{enc_all}
use Rattle.editor.specs.Shows.{Holds, Shows, ShowsText, raised, line_at}
use Rattle.editor.specs.declared.State.{State}
use Rattle.editor.proofs.Records.{some_bytes, sourced, new_line, old-line, sources-cons, sources-nil, first_of, none_of}
use Rattle.editor.proofs.Held.{placed_by, holds-lists, held_first, held-mark}
use Rattle.editor.proofs.Reading.{reach_of, shown-reach, shows-anew, reading}
use Rattle.editor.proofs.Parts.{shown-record}
use Rattle.editor.proofs.Reaching.{Landing, land_read, landing_all, lands, land-over, land-live, land-eof}
use Rattle.spans.specs.Spans.{EndsAt, Stands, StandsAt, StrikesAt, freed_by, LiveAt, NextAt, NextBy, CountedTo}
use Rattle.spans.specs.declared.finding.Live.{Live}
use Rattle.spans.specs.declared.Next.{Next}
use Rattle.spans.proofs.Struck.{span-held, span-place}
use Rattle.spans.proofs.Standing.{stands-held, stands-length, stands-more, stands-mark, stands-record, stands_on}
use Rattle.spans.proofs.Erasing.{at-stands}

-- ---- the walk to the first live record of `a`, `b` standing before them

pub record Seeking (j : List ℕ) (at n : ℕ) (b a : List Record) : Type 0 where
  pub front : List Record
  pub left : List Record
  pub stands : Stands j at left
  pub count : n ≡ sources front
  pub sum : sources front + sources left ≡ sources b + sources a
  pub way : land front left ≡ land b a

pub seeking-start : {j : List ℕ} {at n : ℕ} (b a : List Record) → Stands j at a → n ≡ sources b → Seeking j at n b a
seeking-start b a h q = record { front = b; left = a; stands = h; count = q; sum = refl; way = refl }

module _ {j : List ℕ} {at n : ℕ} {b a : List Record} (w : Seeking j at n b a) where
  pub seeking-few : n ≤ sources b + sources a
  seeking-few = omega (arith, w.count, w.sum)

  -- it ends where it stands
  sought : land w.front w.left ≡ ed w.front w.left 0 → Stands j at (after_of (land b a)) × (n ≡ sources (before_of (land b a)))
  unfolding before_of after_of
  sought here = rw (sym w.way ∙ here) (w.stands, w.count)

  pub seeking-eof : length j ≤ at → Stands j at (after_of (land b a)) × (n ≡ sources (before_of (land b a)))
  seeking-eof end =
      let none : w.left ≡ [] = none_of w.left (omega (arith, stands-length w.stands)) in
      sought (rw none (land-eof w.front))

  module _ (more : at < length j) where
    first : (r : Record) × (rs : List Record) × (w.left ≡ r ∷ rs)
    first = first_of w.left (omega (arith, stands-length w.stands))

    first-stands : Stands j at (first.0 ∷ first.1)
    first-stands = rw (← first.2) w.stands

    pub seeking-live : (get_or j at 0 ≡ 45 → ⊥) → Stands j at (after_of (land b a)) × (n ≡ sources (before_of (land b a)))
    seeking-live live = sought (rw first.2 (land-live w.front first.0 first.1 (λ q. live (stands-mark first-stands ∙ q))))

    pub seeking-less : (next : ℕ) → next ≡ at + line_length (drop at j) → (at < next) × (next ≤ length j)
    seeking-less next is = (omega (arith, stands-record first-stands, some_bytes first.0), omega (arith, stands-record first-stands, stands-more first-stands))

    -- a deleted record is passed
    pub seeking-on : (next : ℕ) → next ≡ at + line_length (drop at j) → get_or j at 0 ≡ 45 → Seeking j next (n + 1) b a
    seeking-on next is dead =
        let m : sourced first.0 ≡ 1 = old-line first.0 (λ q. omega (arith, stands-mark first-stands)) in
        record {
          front = first.0 ∷ w.front;
          left = first.1;
          stands = stands_on first-stands next is;
          count = omega (arith, w.count, sources-cons first.0 w.front);
          sum = omega (arith, w.sum, sources-cons first.0 w.front, sources-cons first.0 first.1, ap sources first.2);
          way = land-over w.front first.0 first.1 (sym (stands-mark first-stands) ∙ dead) ∙ ap (land w.front) (sym first.2) ∙ w.way;
        }

-- landing leaves the records
pub land-same : (b a : List Record) → reverse_aux (before_of (land b a)) (after_of (land b a)) ≡ reverse_aux b a
unfolding land before_of after_of
land-same b [] = refl
land-same b (kept l ∷ a) = refl
land-same b (changed o n ∷ a) = refl
land-same b (deleted l ∷ a) = land-same (deleted l ∷ b) a
land-same b (inserted l ∷ a) = refl

-- what the walk asks where it begins
pub live-asks : {j : List ℕ} {st : State} {end past : ℕ} → CountedTo j st end past
    → (b : List Record) × (a : List Record) × Stands j end a × (past ≡ sources b) × (sources b + sources a ≤ 65535)
live-asks {end = end} (c, m, d, h, is, q) = (
  reverse_aux m c,
  d,
  at-stands c m d h end is,
  omega (arith, sources-reverse m c),
  omega (arith, sources-reverse m c, sources-append m d, h.lines, h.few),
)

-- and how many source lines it can count
pub live-few : {j : List ℕ} {st : State} {end past : ℕ} (l : Live) → CountedTo j st end past → ((b a : List Record) → Stands j end a → past ≡ sources b → LiveAt j l b a) → l.past ≤ 65535
live-few l w finds =
    let v = live-asks w in
    omega (
      arith,
      (finds v.0 v.1 v.2 v.3).1,
      v.4,
      ap sources (land-same v.0 v.1),
      sources-reverse (before_of (land v.0 v.1)) (after_of (land v.0 v.1)),
      sources-reverse v.0 v.1,
    )

-- ---- the number of the line to read

pub next-eof : {j : List ℕ} {at n : ℕ} (b a : List Record) → Stands j at a → n ≡ sources b → length j ≤ at → n + 1 ≡ line_at b a
unfolding line_at
next-eof b a h q end =
    let none : a ≡ [] = none_of a (omega (arith, stands-length h)) in
    rw none (omega arith)

module _ {j : List ℕ} {at n : ℕ} (b a : List Record) (h : Stands j at a) (q : n ≡ sources b) (more : at < length j) where
  next-line : (k : ℕ) → ((r : Record) (rs : List Record) → Stands j at (r ∷ rs) → sourced r ≡ k) → n + k ≡ line_at b a
  unfolding line_at
  next-line k counts =
      let w : (r : Record) × (rs : List Record) × (a ≡ r ∷ rs) = first_of a (omega (arith, stands-length h)) in
      let one : sourced w.0 ≡ k = counts w.0 w.1 (rw (← w.2) h) in
      rw w.2 (omega (arith, sources-cons w.0 [], sources-nil))

  pub next-new : get_or j at 0 ≡ 43 → n ≡ line_at b a
  next-new m = omega (arith, next-line 0 (λ r rs s. new_line r (sym (stands-mark s) ∙ m)))

  pub next-old : (get_or j at 0 ≡ 43 → ⊥) → n + 1 ≡ line_at b a
  next-old m = next-line 1 (λ r rs s. old-line r (λ z. m (stands-mark s ∙ z)))

-- ---- what is found

-- the records that a landing passes are deleted
land-split : (b a : List Record) → (passed : List Record) × (passed ++ after_of (land b a) ≡ a) × (has_live passed ≡ false)
unfolding land after_of has_live is_live
land-split b [] = ([], refl, refl)
land-split b (kept l ∷ a) = ([], refl, refl)
land-split b (changed o n ∷ a) = ([], refl, refl)
land-split b (deleted l ∷ a) =
    let w : (passed : List Record) × (passed ++ after_of (land (deleted l ∷ b) a) ≡ a) × (has_live passed ≡ false) = land-split (deleted l ∷ b) a in
    (deleted l ∷ w.0, ap (λ (z : List Record). deleted l ∷ z) w.1, w.2)
land-split b (inserted l ∷ a) = ([], refl, refl)

-- how far n lines more are
read-reach : {j : List ℕ} {st : State} (n : ℕ) (e : Ed) (t : Tape) → Shows j st e t → min (st.furthest + n) (st.lines + 1) ≡ reach_of st.lines (read_next n t).1
read-reach {j} {st} n e t h =
    let s : State = record {
      front = st.front;
      back = st.back;
      past = st.past;
      furthest = min (st.furthest + n) (st.lines + 1);
      lines = st.lines;
      source = st.source;
      size = st.size;
      p = st.p;
    } in
    shown-reach {st = s} (seen_all (read_next n t).0 e) (read_next n t).1 (reading n e t h (placed_by st _ _) refl refl)

module _ {j : List ℕ} {st : State} {end : ℕ} (b a : List Record) (p : ℕ) (t : Tape) (n : ℕ) (h : Shows j st (ed b a p) t) (w : EndsAt j end n (ed b a p) t) where
  abbrev U : List Record
  U = map kept (rest_lines t)

  abbrev m : List Record
  m = take n a

  abbrev d : List Record
  d = drop n a

  -- where a landing after the n records comes to
  abbrev W : Ed
  W = landing_all (reverse_aux m b) d t

  abbrev x : List Line × Tape
  x = land_read d t

  past-stands : Stands j end (d ++ U)
  past-stands = at-stands b m (d ++ U) (span-held b a p t h w) end (span-place b a p t h w)

  landed : Landing (reverse_aux m b) d t
  landed = lands (reverse_aux m b) d t

  far : max st.furthest (min (line_at (before_of W) (after_of W)) (st.lines + 1)) ≡ min (st.furthest + lacking (has_live d)) (st.lines + 1)
  unfolding before_of after_of
  far =
      let total : st.lines ≡ sources (reverse_aux m b) + sources (d ++ U) = omega (arith, sources-reverse m b, sources-append m (d ++ U), (span-held b a p t h w).lines) in
      ap (λ (z : ℕ). max z (min (line_at (before_of W) (after_of W)) (st.lines + 1))) (shown-reach (ed b a p) t h) ∙ sym (landed.furthest st.lines total)
      ∙ sym (read-reach (lacking (has_live d)) (ed b a p) t h)

  next-shows : {s : State} → s ≡ raised st (line_at (before_of W) (after_of W)) → Shows j s (seen_all x.0 (ed b a p)) x.1
  next-shows is = rw is (reading (lacking (has_live d)) (ed b a p) t h (placed_by st _ _) refl far)

  next-at : {at : ℕ} → Stands j at (after_of W) → NextAt j at n (seen_all x.0 (ed b a p)) x.1
  unfolding seen_all after_of
  next-at stands =
      let D : List Record = d ++ map kept x.0 in
      let s : (passed : List Record) × (passed ++ after_of (land (reverse_aux m b) D) ≡ D) × (has_live passed ≡ false) = land-split (reverse_aux m b) D in
      record {
        passed = s.0;
        left = after_of (land (reverse_aux m b) D);
        same = s.1 ∙ sym (drop-append-le n a (map kept x.0) w.within);
        dead = s.2;
        grounded = landed.grounded;
        place = rw (← landed.rest) (stands-length stands);
      }

-- deleted records before others make no difference
pub first-after : (m c : List Record) → has_live m ≡ false → first_live (m ++ c) ≡ first_live c
unfolding first_live has_live is_live
first-after [] c h = refl
first-after (kept l ∷ m) c h = absurd (true≢false h)
first-after (changed o n ∷ m) c h = absurd (true≢false h)
first-after (deleted l ∷ m) c h = first-after m c h
first-after (inserted l ∷ m) c h = absurd (true≢false h)

pub first_live_lem : (x : Record) (a : List Record) → is_live x ≡ true → first_live (x ∷ a) ≡ some (current x)
unfolding first_live is_live current
first_live_lem (kept l) a h = refl
first_live_lem (changed o n) a h = refl
first_live_lem (deleted l) a h = absurd (true≢false (sym h))
first_live_lem (inserted l) a h = refl

pub struck-after : (m c : List Record) → has_live m ≡ false → struck_next (m ++ c) ≡ m ++ struck_next c
unfolding struck_next has_live is_live
struck-after [] c h = refl
struck-after (kept l ∷ m) c h = absurd (true≢false h)
struck-after (changed o n ∷ m) c h = absurd (true≢false h)
struck-after (deleted l ∷ m) c h = ap (λ (z : List Record). deleted l ∷ z) (struck-after m c h)
struck-after (inserted l ∷ m) c h = absurd (true≢false h)

pub struck-live : (x : Record) (a : List Record) → is_live x ≡ true → struck_next (x ∷ a) ≡ erase x ++ a
unfolding struck_next is_live erase
struck-live (kept l) a h = refl
struck-live (changed o n) a h = refl
struck-live (deleted l) a h = absurd (true≢false (sym h))
struck-live (inserted l) a h = refl

no-first : (a u : List Record) → a ++ u ≡ [] → a ≡ []
no-first [] u q = refl
no-first (r ∷ a) u q = absurd (let z : ◌≡◌ {A = ℕ} 0 1 = cc in omega arith)

no-next : (a : List Record) (x : Record) (c : List Record) → a ++ (x ∷ c) ≡ [] → ⊥
no-next [] x c q = let z : ◌≡◌ {A = ℕ} 0 1 = cc in omega arith
no-next (r ∷ a) x c q = let z : ◌≡◌ {A = ℕ} 0 1 = cc in omega arith

-- THE LAW: the first live record after those up to the place `end` is found, and its line, or the one before it, or EOF, is read
pub next-reads : {j : List ℕ} {st : State} {end past : ℕ} (r : Next) (l : Live) → ((b a : List Record) → Stands j end a → past ≡ sources b → LiveAt j l b a) → r.at ≡ l.at
    → ((b a : List Record) → Stands j l.at a → l.past ≡ sources b → r.st ≡ raised st (line_at b a))
    → (g : Given) (e : Ed) (t : Tape) (n : ℕ) → Shows j st e t → EndsAt j end n e t → past ≡ sources (before_of e) + sources (take n (after_of e))
    → let x = runs g no_globals (read_past n) e t in
    NextBy j n r x.0 x.1
unfolding NextBy before_of after_of
next-reads {j} r l finds place reads g (ed b a p) t n h w q =
    let B : List Record = reverse_aux (take n a) b in
    let D : List Record = drop n a ++ map kept (rest_lines t) in
    let f : LiveAt j l B D = finds B D (past-stands b a p t n h w) (q ∙ (let s : sources b + sources (take n a) ≡ sources B = omega (arith, sources-reverse (take n a) b) in s)) in
    let is : r.st ≡ raised _ (line_at (before_of (land B D)) (after_of (land B D))) = reads (before_of (land B D)) (after_of (land B D)) f.0 f.1 in
    rw (read_past_lem g n (ed b a p) t) (next-shows b a p t n h w is, next-at b a p t n h w (rw place f.0))

-- ---- after the current line

-- the source lines through the current line's record, by its first byte
abbrev pub ThroughFirst : List ℕ → State → ℕ → Type 0
ThroughFirst j st past = ((get_or j st.back 0 ≡ 43 → ⊥) × (past ≡ st.past + 1)) ⊎ ((get_or j st.back 0 ≡ 43) × (past ≡ st.past))

first_past : {j : List ℕ} {st : State} {past : ℕ} (b : List Record) (r : Record) (a : List Record) → Holds j st b (r ∷ a) → ThroughFirst j st past → past ≡ sources b + sources (r ∷ [])
first_past b r a h (inl w) = omega (arith, h.past, w.1, sources-cons r [], sources-nil, old-line r (λ q. w.0 (held-mark h ∙ q)))
first_past b r a h (inr w) = omega (arith, h.past, w.1, sources-cons r [], sources-nil, new_line r (sym (held-mark h) ∙ w.0))

pub next-asks : {j : List ℕ} {st : State} → ShowsText j st → st.back < length j → (end past : ℕ) → end ≡ st.back + line_length (drop st.back j) → ThroughFirst j st past → CountedTo j st end past
next-asks (e, t, h) more end past is w =
    let f = held_first h.holds more in
    let held = holds-lists refl f.2 h.holds in
    (before_of e, f.0 ∷ [], f.1, held, stands-length (stands_on (stands-held held) end is), first_past (before_of e) f.0 f.1 held w)

pub next-after : {j : List ℕ} {st : State} {past : ℕ} (e : Ed) (t : Tape) → Shows j st e t → st.back < length j → ThroughFirst j st past
    → past ≡ sources (before_of e) + sources (take 1 (after_of e))
unfolding before_of after_of
next-after (ed b [] p) t h more w = absurd (shown-record b p t h more)
next-after (ed b (r ∷ a) p) t h more w = first_past b r (a ++ map kept (rest_lines t)) h.holds w

-- ---- what callers use

-- the text that is then shown, and what is then unread
pub record NextRead (j : List ℕ) (n : ℕ) (r : Next) (x : Ran (Unit {0}) × Tape) : Type 0 where
  pub text : Ed
  pub tape : Tape
  pub is : x ≡ (gave tt text, tape)
  pub shows : Shows j r.st text tape
  pub next : NextAt j r.at n text tape

pub next-read : {j : List ℕ} {n : ℕ} {r : Next} (x : Ran (Unit {0}) × Tape) → NextBy j n r x.0 x.1 → NextRead j n r x
unfolding NextBy
next-read (gave u e, t) h = record { text = e; tape = t; is = refl; shows = h.0; next = h.1 }
next-read (stopped m e, t) h = absurd h

-- EOF is next: no line is live after the records
pub next-none : {j : List ℕ} {at n : ℕ} (e : Ed) (t : Tape) → NextAt j at n e t → length j ≤ at → first_live (drop n (after_of e)) ≡ none
unfolding first_live
next-none e t w end =
    let u : List Record = map kept (rest_lines t) in
    let nothing : w.left ++ u ≡ [] = none_of (w.left ++ u) (omega (arith, w.place)) in
    let empty : w.left ≡ [] = no-first w.left u nothing in
    sym (ap first_live w.same) ∙ first-after w.passed w.left w.dead ∙ ap first_live empty

-- a line is: its record stands there
pub record NextRecord (j : List ℕ) (at n : ℕ) (e : Ed) (t : Tape) : Type 0 where
  pub passed : List Record
  pub next : Record
  pub rest : List Record
  pub same : passed ++ (next ∷ rest) ≡ drop n (after_of e)
  pub dead : has_live passed ≡ false
  pub live : is_live next ≡ true
  pub place : at + length (enc_all (next ∷ (rest ++ map kept (rest_lines t)))) ≡ length j

pub next-some : {j : List ℕ} {at n : ℕ} (e : Ed) (t : Tape) → NextAt j at n e t → at < length j → NextRecord j at n e t
unfolding rest_lines enc_all
next-some {j} {at} {n} e t w more = go w.left refl t refl
  where
    go : (l : List Record) → w.left ≡ l → (u : Tape) → t ≡ u → NextRecord j at n e t
    go (r ∷ a) q u z = record {
      passed = w.passed;
      next = r;
      rest = a;
      same = rw (← q) w.same;
      dead = w.dead;
      live = rw q at w.grounded;
      place = rw q at w.place;
    }
    go [] q (unread ls) z = absurd (rw (q, z) at w.grounded)
    go [] q ended z = absurd (omega (arith, rw (q, z) at w.place))

-- its text
pub next-text : {j : List ℕ} {at n : ℕ} (e : Ed) (t : Tape) (w : NextRecord j at n e t) → first_live (drop n (after_of e)) ≡ some (current w.next)
next-text e t w = sym (ap first_live w.same) ∙ first-after w.passed (w.next ∷ w.rest) w.dead ∙ first_live_lem w.next w.rest w.live

-- what is left of the records once its line is deleted
pub struck-is : {j : List ℕ} {at n : ℕ} (e : Ed) (t : Tape) (w : NextRecord j at n e t) → struck_next (drop n (after_of e)) ≡ w.passed ++ (erase w.next ++ w.rest)
struck-is e t w =
    sym (ap struck_next w.same) ∙ struck-after w.passed (w.next ∷ w.rest) w.dead ∙ ap (λ (z : List Record). w.passed ++ z) (struck-live w.next w.rest w.live)

-- the records from the current one on, it being among them
pub next-held : {j : List ℕ} {st : State} {at : ℕ} (b : List Record) (r : Record) (a : List Record) (p : ℕ) (t : Tape) → Shows j st (ed b (r ∷ a) p) t → (w : NextRecord j at 1 (ed b (r ∷ a) p) t)
    → Holds j st b ((r ∷ w.passed) ++ (w.next ∷ (w.rest ++ map kept (rest_lines t))))
unfolding before_of after_of
next-held b r a p t h w =
    holds-lists refl
    (ap (λ (z : List Record). r ∷ (z ++ map kept (rest_lines t))) (sym w.same) ∙ ap (λ (z : List Record). r ∷ z) (append_assoc w.passed (w.next ∷ w.rest) (map kept (rest_lines t))))
    h.holds

-- what `strike_at` asks there
pub next-stands : {j : List ℕ} {st : State} {at : ℕ} (e : Ed) (t : Tape) → Shows j st e t → NextRecord j at 1 e t → StandsAt j st at
unfolding before_of after_of
next-stands (ed b [] p) t h w = absurd (no-next w.passed w.next w.rest w.same)
next-stands (ed b (r ∷ a) p) t h w = (b, r ∷ w.passed, w.next, w.rest ++ map kept (rest_lines t), next-held b r a p t h w, w.place)

-- and what it does is the change `strike_next`
pub next-struck : {j k : List ℕ} {st s : State} {at : ℕ} (e : Ed) (t : Tape) → Shows j st e t → (w : NextRecord j at 1 e t) → StrikesAt at j st k s
    → Shows k s (edit strike_next e) t × (s.back ≡ st.back + freed_by w.next)
unfolding edit before_of after_of
next-struck (ed b [] p) t h w strikes = absurd (no-next w.passed w.next w.rest w.same)
next-struck {k = k} {st = st} {s = s} (ed b (r ∷ a) p) t h w strikes =
    let U : List Record = map kept (rest_lines t) in
    let did : Holds k s b ((r ∷ w.passed) ++ (erase w.next ++ (w.rest ++ U))) × (s.back ≡ st.back + freed_by w.next) =
    strikes.0 b (r ∷ w.passed) w.next (w.rest ++ U) (next-held b r a p t h w) w.place in
    let rest : (r ∷ w.passed) ++ (erase w.next ++ (w.rest ++ U)) ≡ (r ∷ struck_next a) ++ U = rw (struck-is (ed b (r ∷ a) p) t w) (simp append_assoc) in (
      shows-anew (ed b (r ∷ a) p) (ed b (r ∷ struck_next a) p) t h (holds-lists refl rest did.0) strikes.1.furthest strikes.1.lines (strikes.1.p ∙ h.p) h.grounded,
      did.1,
    )
