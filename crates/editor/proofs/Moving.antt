-- The parts of a step that move come to what the definitions say, by walks from where the gap stands. Assumes nothing.
use mathlib.Core.Path.{◌≡◌, refl, sym, ap, ◌∙◌}
use Prim.Native.Nat.{ℕ, ◌+◌, ◌-◌, ◌≤◌, ◌<◌, min, max}
use native.Mathlib.Omega.{arith}
use mathlib.Core.List.{List, [], ◌∷◌, ◌++◌, map, reverse_aux, append_assoc, append-nil}
use lib.ListN.{length, get_or, length-append}
use borrow.Author.Tests.{ne_eqb}
use Rattle.definitions.specs.Journal.{Record, kept}
use Rattle.definitions.specs.Tape.{Tape, ended, rest_lines, bind}
use Rattle.definitions.specs.Given.{Given, Carried, no_globals}
use Rattle.definitions.specs.Editor.{Ed, ed, before_of, after_of, records, sources, n20, n21, n22, n23, stop_number, Got, got, stop, Target, Move, to, moved, land, go_back, locate}
use Rattle.definitions.specs.Editor.{Stop as StopNumber}
use Rattle.definitions.specs.Reading.{gave, once_read, read_to}
use Rattle.definitions.specs.StepProgram.{once_moved, runs, state, ◌>>=◌, ◌>>◌}
use Rattle.definitions.specs.Edit.{read_up_to, read_past, go, go_ahead, go_to, goes_on, Op, program, step}
use Rattle.theorems.specs.RecordLaws.{reverse-append, sources-reverse}
use Rattle.theorems.specs.Programs.{runs_on, runs-go}
use Rattle.theorems.specs.ReadLines.{seen_all, read_past_lem}
use Rattle.gap.specs.Gap.{zeros, moved_down}
use Rattle.gap.proofs.Laws.{down-parts}
use Rattle.editor.specs.Records.{enc_all, enc_before}
use Rattle.editor.specs.Shows.{Holds, Stays, Shows, rest_of, Came, Answered, PassesOver, PassesBack, Lands, Walks, to_source, raised, at_point, line_at, target_numbered}
use Rattle.editor.specs.declared.State.{State}
use Rattle.std.specs.Prelude.{Ok}
use Rattle.editor.specs.Stops.{Moved, numbered, stopping}
use Rattle.editor.specs.declared.Stop.TheVariants.{AtEof, MetEof, NoPrevious, LineDeleted}
use Rattle.editor.specs.declared.Stop.{Stop}
use Rattle.editor.proofs.Records.{sources-cons, sources-nil, old-bytes-nil, old-bytes-reverse, all-before, goods-reverse}
use Rattle.editor.proofs.Held.{holds_as, holds-lists, held-length, held_first, held_none, held_start, held-mark, placed_by}
use Rattle.editor.proofs.Reading.{reach_of, shown-reach, shows-at, shows-of, shows-anew, reads-line, reads-eof, line_read, eof-far, eof-read}
use Rattle.editor.proofs.Reaching.{land_read, landing, landing_all, Landing, lands, MovesAlike, stops, lands_on, back-reached, back-over, back-live, back_none, locate-reached, judged, judged-at, judged-none, judged-dead, judged-live}
use Rattle.editor.proofs.Parts.{came-on, then-on, go_on, go-stop, shown-record, perform-line, perform-no-line, goes_on_lem}
use Rattle.editor.proofs.Walking.{Way, way_back, back_at}

-- ---- what a move among the records that are read comes to, by a walk among all of them

-- it lands on a live record
pub reached-on : {k : List ℕ} {s : State} (g : Given) (c : Carried) (x : Move) (e : Ed) (t : Tape) (whole : Got Ed) → MovesAlike (map kept (rest_lines t)) (moved x e) whole
    → (f d : List Record) → whole ≡ got (ed f d 0) → Holds k s f d → s.furthest ≡ reach_of s.lines t → s.p ≡ 0
    → Came k (Ok s) (runs g c (go x) e t)
reached-on {k} {s} g c x e t whole w f d q h far p = by (moved x e) whole w refl q
  where
    by : (part whole : Got Ed) → MovesAlike (map kept (rest_lines t)) part whole → moved x e ≡ part → whole ≡ got (ed f d 0) → Came k (Ok s) (runs g c (go x) e t)
    by _ _ (stops n) is q = absurd (let z : ◌≡◌ {A = ℕ} 0 1 = cc in omega arith)
    by _ _ (lands_on f' r d' live) is q =
        let one : f ≡ f' = cc in
        let two : d ≡ r ∷ (d' ++ map kept (rest_lines t)) = cc in
        go_on g c x e t is (shows-of f' (r ∷ d') 0 t (holds-lists one two h) far p live)

-- it stops, and the buffer shows the text as it was
pub reached-stop : {k : List ℕ} {s : State} (g : Given) (c : Carried) (x : Move) (e : Ed) (t : Tape) (whole : Got Ed) → MovesAlike (map kept (rest_lines t)) (moved x e) whole
    → (i : Stop) (n : StopNumber) → whole ≡ stop n → numbered i ≡ stop_number n → Shows k s e t → Came k (stopping i s) (runs g c (go x) e t)
reached-stop {k} {s} g c x e t whole w i n q number h = by (moved x e) whole w refl q
  where
    by : (part whole : Got Ed) → MovesAlike (map kept (rest_lines t)) part whole → moved x e ≡ part → whole ≡ stop n → Came k (stopping i s) (runs g c (go x) e t)
    by _ _ (stops m) is q =
        let same : stop m ≡ stop n = q in
        go-stop g c x e t i (is ∙ same) number h
    by _ _ (lands_on f r d live) is q = absurd (let z : ◌≡◌ {A = ℕ} 0 1 = cc in omega arith)

-- ---- to the next live line

pub ahead-runs : (g : Given) (b : List Record) (r : Record) (a : List Record) (p : ℕ) (t : Tape)
    → runs g no_globals go_ahead (ed b (r ∷ a) p) t ≡ (gave tt (landing (r ∷ b) a t), (land_read a t).1)
unfolding go_ahead ◌>>◌ after_of seen_all moved
ahead-runs g b r a p t =
    runs_on g no_globals (λ u. go Move.ahead) (read_past 1) (ed b (r ∷ a) p) t (read_past_lem g 1 (ed b (r ∷ a) p) t)
    ∙ runs-go g no_globals Move.ahead (ed b (r ∷ (a ++ map kept (land_read a t).0)) p) (land_read a t).1 refl

-- the numbers after landing, once the line that is then current is read
pub landing-shows : {k : List ℕ} {l s : State} (b a : List Record) (t : Tape)
    → l.lines ≡ sources b + sources (a ++ map kept (rest_lines t)) → l.furthest ≡ reach_of l.lines t
    → Holds k l (before_of (landing_all b a t)) (after_of (landing_all b a t)) → l.p ≡ 0
    → s ≡ raised l (line_at (before_of (landing_all b a t)) (after_of (landing_all b a t)))
    → Shows k s (landing b a t) (land_read a t).1
landing-shows {k} {l} {s} b a t total far held p is =
    let L : Landing b a t = lands b a t in
    let W : Ed = landing_all b a t in
    let m : ℕ = min (line_at (before_of W) (after_of W)) (l.lines + 1) in
    let reach : max l.furthest m ≡ reach_of l.lines (land_read a t).1 = ap (λ (f : ℕ). max f m) far ∙ sym (L.furthest l.lines total) in
    rw is
    (shows-at {s = raised l (line_at (before_of W) (after_of W))} (landing b a t) (land_read a t).1
    (holds-lists L.before L.rest (holds_as (placed_by l _ _) held)) reach (p ∙ sym L.point) L.grounded)

-- over the current record and the deleted ones after it
pub ahead-on : {j k i : List ℕ} {st s l m : State} (g : Given) (e : Ed) (t : Tape) → Shows j st e t → st.back < length j → PassesOver j st k s → Lands k s i l
    → ((b : List Record) (a : List Record) → Holds i l b a → m ≡ raised l (line_at b a)) → Came i (Ok m) (runs g no_globals go_ahead e t)
unfolding before_of after_of
ahead-on g (ed b [] p) t h more passes landed reads = absurd (shown-record b p t h more)
ahead-on {j} {k} {i} {st} {s} {l} {m} g (ed b (r ∷ a) p) t h more passes landed reads =
    let u : List Record = a ++ map kept (rest_lines t) in
    let x : Holds i l (before_of (land (r ∷ b) u)) (after_of (land (r ∷ b) u)) = landed.0 (r ∷ b) u (passes.0 b r u h.holds) in
    let lines : l.lines ≡ st.lines = landed.2 ∙ passes.1.lines in
    let total : l.lines ≡ sources (r ∷ b) + sources u = omega (arith, lines, h.holds.lines, sources-cons r b, sources-cons r u) in
    let far : l.furthest ≡ reach_of l.lines t = landed.1 ∙ passes.1.furthest ∙ shown-reach (ed b (r ∷ a) p) t h ∙ ap (λ (n : ℕ). reach_of n t) (sym lines) in
    came-on (ahead-runs g b r a p t) (landing-shows (r ∷ b) a t total far x landed.3 (reads (before_of (land (r ∷ b) u)) (after_of (land (r ∷ b) u)) x))

-- ---- to the previous live line

-- a deleted record is passed
pub dead_goes : {j k : List ℕ} {s u : State} {b a : List Record} → Way go_back j s b a → 0 < s.front → PassesBack j s k u → get_or k u.back 0 ≡ 45 → Way go_back k u b a
dead_goes w more moves dead = way_back w more moves (λ r c d was h. back-over c r d (sym (held-mark h) ∙ dead))

-- a live one is the one that is looked for
pub back_on : {j k i : List ℕ} {st s u : State} (g : Given) (c : Carried) (e : Ed) (t : Tape) → Shows j st e t → Way go_back k s (before_of e) (rest_of e t) → 0 < s.front
    → PassesBack k s i u → (get_or i u.back 0 ≡ 45 → ⊥) → Stays st u → Came i (Ok (at_point u 0)) (runs g c (go Move.back) e t)
unfolding before_of after_of moved
back_on {u = u} g c (ed b a p) t h w more moves live stays =
    let x : (f : List Record) × (r : Record) × (d : List Record) × Holds _ u f (r ∷ d) × (go_back (r ∷ f) d ≡ go_back b (a ++ map kept (rest_lines t))) = back_at w more moves in
    reached-on g c Move.back (ed b a p) t (go_back b (a ++ map kept (rest_lines t))) (back-reached (map kept (rest_lines t)) b a) x.0 (x.1 ∷ x.2)
    (sym x.4 ∙ back-live x.0 x.1 x.2 (λ m. live (held-mark x.3 ∙ m))) (holds_as (placed_by u _ _) x.3)
    (stays.furthest ∙ shown-reach (ed b a p) t h ∙ ap (λ (n : ℕ). reach_of n t) (sym stays.lines)) refl

-- there is none
pub back-stop : {j k : List ℕ} {st s : State} (g : Given) (c : Carried) (e : Ed) (t : Tape) → Shows j st e t → Way go_back k s (before_of e) (rest_of e t) → s.front ≡ 0
    → Came j (stopping NoPrevious st) (runs g c (go Move.back) e t)
unfolding before_of after_of moved stop_number
back-stop g c (ed b a p) t h w none =
    let whole : go_back b (a ++ map kept (rest_lines t)) ≡ stop n22 =
    sym w.way ∙ ap (λ (z : List Record). go_back z w.back) (held_start w.holds none) ∙ back_none w.back in
    reached-stop g c Move.back (ed b a p) t (go_back b (a ++ map kept (rest_lines t))) (back-reached (map kept (rest_lines t)) b a) NoPrevious n22 whole refl h

-- ---- to source line n

-- the line is read; the gap has gone to its place
module _ {j k : List ℕ} {s u : State} (g : Given) (c : Carried) (n : ℕ) (pos : 0 < n) (b a : List Record) (p : ℕ) (t : Tape) (h : Shows j s (ed b a p) t)
    (far : min n (s.lines + 1) ≤ s.furthest) (walks : Walks (to_source (n - 1)) j s k u) where
  abbrev U : List Record
  U = map kept (rest_lines t)

  abbrev F : List Record
  F = (to_source (n - 1) b (a ++ U)).0

  abbrev D : List Record
  D = (to_source (n - 1) b (a ++ U)).1

  held : Holds k u F D
  unfolding before_of after_of
  held = walks.0 b (a ++ U) h.holds

  whole_is : locate (n - 1) [] (reverse_aux b a ++ U) ≡ judged F D
  whole_is = ap (locate (n - 1) []) (sym (reverse-append b a U)) ∙ judged-at (n - 1) b (a ++ U)

  reached : MovesAlike U (moved (to (Target.line n)) (ed b a p)) (locate (n - 1) [] (reverse_aux b a ++ U))
  unfolding moved records
  reached = locate-reached U (n - 1) [] (reverse_aux b a) (line_read n (ed b a p) t h pos far)

  line-eof-at : length k ≤ u.back → Came j (stopping MetEof s) (runs g c (go (to (Target.line n))) (ed b a p) t)
  unfolding stop_number
  line-eof-at end =
      reached-stop g c (to (Target.line n)) (ed b a p) t _ reached MetEof n21 (whole_is ∙ ap (judged F) (held_none held end) ∙ judged-none F) refl h

  module _ (more : u.back < length k) where
    first : (r : Record) × (d : List Record) × (D ≡ r ∷ d)
    first = held_first held more

    first-held : Holds k u F (first.0 ∷ first.1)
    first-held = holds-lists refl first.2 held

    line-dead-at : get_or k u.back 0 ≡ 45 → Came j (stopping LineDeleted s) (runs g c (go (to (Target.line n))) (ed b a p) t)
    unfolding stop_number
    line-dead-at dead =
        reached-stop g c (to (Target.line n)) (ed b a p) t _ reached LineDeleted n23
        (whole_is ∙ ap (judged F) first.2 ∙ judged-dead F first.0 first.1 (sym (held-mark first-held) ∙ dead)) refl h

    line-live-at : (get_or k u.back 0 ≡ 45 → ⊥) → Came k (Ok (at_point u 0)) (runs g c (go (to (Target.line n))) (ed b a p) t)
    line-live-at live =
        reached-on g c (to (Target.line n)) (ed b a p) t _ reached F (first.0 ∷ first.1)
        (whole_is ∙ ap (judged F) first.2 ∙ judged-live F first.0 first.1 (λ m. live (held-mark first-held ∙ m)))
        (holds_as (placed_by u _ _) first-held)
        (walks.1.furthest ∙ shown-reach (ed b a p) t h ∙ ap (λ (i : ℕ). reach_of i t) (sym walks.1.lines)) refl

-- `M n`, once the line is read: the move is what is left
line-then : {j : List ℕ} {st s : State} (g : Given) (n : ℕ) (e : Ed) (t : Tape) (k : List ℕ) (r : Moved) → Shows j st e t → s ≡ raised st n
    → ((b a : List Record) (p : ℕ) (u : Tape) → Shows j s (ed b a p) u → min n (s.lines + 1) ≤ s.furthest → Came k r (runs g no_globals (go (to (Target.line n))) (ed b a p) u))
    → Came k r (runs g no_globals (go_to (Target.line n)) e t)
unfolding go_to ◌>>◌
line-then {j} {st} {s} g n e t k r h is f =
    then-on g no_globals (read_up_to (Target.line n)) (λ x. go (to (Target.line n))) e t k r (reads-line g e t h n) (λ v x u w. by x u (rw (← is) at w))
  where
    by : (x : Ed) (u : Tape) → Shows j s x u → Came k r (runs g no_globals (go (to (Target.line n))) x u)
    by (ed b a p) u w = f b a p u w (rw is (omega arith))

module _ {j k : List ℕ} {st s u : State} (g : Given) (n : ℕ) (pos : 0 < n) (e : Ed) (t : Tape) (h : Shows j st e t) (is : s ≡ raised st n)
    (walks : Walks (to_source (n - 1)) j s k u) where
  pub line-eof : length k ≤ u.back → Came j (stopping MetEof s) (runs g no_globals (go_to (Target.line n)) e t)
  line-eof end = line-then g n e t j (stopping MetEof s) h is (λ b a p v w far. line-eof-at g no_globals n pos b a p v w far walks end)

  pub line_dead : u.back < length k → get_or k u.back 0 ≡ 45 → Came j (stopping LineDeleted s) (runs g no_globals (go_to (Target.line n)) e t)
  line_dead more dead = line-then g n e t j (stopping LineDeleted s) h is (λ b a p v w far. line-dead-at g no_globals n pos b a p v w far walks more dead)

  pub line-live : u.back < length k → (get_or k u.back 0 ≡ 45 → ⊥) → Came k (Ok (at_point u 0)) (runs g no_globals (go_to (Target.line n)) e t)
  line-live more live = line-then g n e t k (Ok (at_point u 0)) h is (λ b a p v w far. line-live-at g no_globals n pos b a p v w far walks more live)

-- ---- to EOF

-- all of the records moved down
eof-holds : {j k : List ℕ} {st s : State} (b a : List Record) → Holds j st b a → k ≡ moved_down st.front st.back (length j - st.back) j
    → s.front ≡ st.front + (length j - st.back) → s.back ≡ st.back + (length j - st.back) → s.past ≡ st.lines → s.lines ≡ st.lines
    → s.source ≡ st.size → s.size ≡ st.size → Holds k s (reverse_aux a b) []
unfolding enc_all
eof-holds {j} {k} {st} {s} b a h q f e n l o z =
    let g : ℕ = st.back - st.front in
    let wide : s.back - s.front ≡ g = omega (arith, h.order) in
    let long : length j - st.back ≡ length (enc_all a) = omega (arith, held-length h) in
    let whole : j ≡ enc_before b ++ (zeros g ++ (enc_all a ++ [])) = h.bytes ∙ rw (append-nil (enc_all a)) in
    let moved : k ≡ enc_before b ++ (enc_all a ++ (zeros g ++ [])) =
    q ∙ rw (long, whole) (down-parts (enc_before b) (enc_all a) [] g st.front st.back (length (enc_all a)) h.front (omega (arith, h.order)) refl) in
    record {
      bytes = rw (wide, all-before a b) (moved ∙ sym (append_assoc (enc_before b) (enc_all a) (zeros g ++ [])));
      front = rw (all-before a b, length-append) (omega (arith, h.front));
      order = omega (arith, h.order);
      past_good = goods-reverse a b h.good h.past_good;
      good = tt;
      past = omega (arith, h.lines, sources-reverse a b);
      lines = omega (arith, h.lines, sources-reverse a b, sources-nil);
      source = omega (arith, h.size, old-bytes-reverse a b);
      size = omega (arith, h.size, old-bytes-reverse a b, old-bytes-nil);
      few = omega (arith, h.few);
    }

-- EOF is read, and the gap stands at the buffer's end
eof-at : {j k : List ℕ} {st s : State} (g : Given) (c : Carried) (e : Ed) (t : Tape) → Shows j st e t → st.furthest ≡ st.lines + 1
    → k ≡ moved_down st.front st.back (length j - st.back) j
    → s.front ≡ st.front + (length j - st.back) → s.back ≡ st.back + (length j - st.back) → s.past ≡ st.lines → s.lines ≡ st.lines
    → s.source ≡ st.size → s.size ≡ st.size → s.furthest ≡ st.furthest → s.p ≡ 0 → Came k (Ok s) (runs g c (go (to Target.eof)) e t)
unfolding moved before_of after_of rest_lines reach_of
eof-at {j} {k} {st} {s} g c (ed b a p) t h all q f b' n l o z far p' =
    let is : t ≡ ended = eof-read (ed b a p) t h all in
    let rest : a ++ map kept (rest_lines t) ≡ a = rw is (append-nil a) in
    let held : Holds k s (reverse_aux a b) [] = eof-holds b a (holds-lists refl rest h.holds) q f b' n l o z in
    go_on g c (to Target.eof) (ed b a p) t refl (rw is (shows-of (reverse_aux a b) [] 0 ended held (omega arith) p' tt))

pub eof-on : {j k : List ℕ} {st r s : State} (g : Given) (e : Ed) (t : Tape) → Shows j st e t → r ≡ raised st (st.lines + 1)
    → k ≡ moved_down st.front st.back (length j - st.back) j
    → s.front ≡ st.front + (length j - st.back) → s.back ≡ st.back + (length j - st.back) → s.past ≡ st.lines → s.lines ≡ r.lines
    → s.source ≡ st.size → s.size ≡ r.size → s.furthest ≡ r.furthest → s.p ≡ 0 → Came k (Ok s) (runs g no_globals (go_to Target.eof) e t)
unfolding go_to ◌>>◌
eof-on {j} {k} {st} {r} {s} g e t h is q f b n l o z far p =
    then-on g no_globals (read_up_to Target.eof) (λ x. go (to Target.eof)) e t k (Ok s) (reads-eof g e t h)
    (λ v x u w. eof-at g no_globals x u w (eof-far e t h) q f b n (l ∙ ap (λ (y : State). y.lines) is) o (z ∙ ap (λ (y : State). y.size) is) (far ∙ ap (λ (y : State). y.furthest) is) p)

-- ---- p

pub point-shows : {j : List ℕ} {st : State} (q : ℕ) (b a : List Record) (p : ℕ) (t : Tape) → Shows j st (ed b a p) t → Shows j (at_point st q) (ed b a q) t
unfolding before_of after_of
point-shows {st = st} q b a p t h = shows-anew (ed b a p) (ed b a q) t h (holds_as (placed_by st _ _) h.holds) refl refl refl h.grounded

pub point-on : {j : List ℕ} {st : State} (g : Given) (c : Carried) (q : ℕ) (e : Ed) (t : Tape) → Shows j st e t → Came j (Ok (at_point st q)) (runs g c (go (Move.point_to q)) e t)
unfolding moved
point-on g c q (ed b a p) t h = go_on g c (Move.point_to q) (ed b a p) t refl (point-shows q b a p t h)

here-runs : (g : Given) (c : Carried) (b a : List Record) (p : ℕ) (t : Tape) → runs g c (go_to Target.here) (ed b a p) t ≡ (gave tt (ed b a 0), t)
unfolding go_to read_up_to go ◌>>◌ ◌>>=◌ runs bind read_to once_read once_moved moved
here-runs g c b a p t = refl

pub here_on : {j : List ℕ} {st : State} (g : Given) (c : Carried) (e : Ed) (t : Tape) → Shows j st e t → Came j (Ok (at_point st 0)) (runs g c (go_to Target.here) e t)
here_on g c (ed b a p) t h = came-on (here-runs g c b a p t) (point-shows 0 b a p t h)

-- ---- to what M names, by its number

pub target-here : (n : ℕ) → n ≡ 0 → target_numbered n ≡ Target.here
unfolding target_numbered
target-here n q = rw q

pub target-eof : (n : ℕ) → n ≡ 65536 → target_numbered n ≡ Target.eof
unfolding target_numbered
target-eof n q = rw q

pub target-line : (n : ℕ) → (n ≡ 0 → ⊥) → (n ≡ 65536 → ⊥) → target_numbered n ≡ Target.line n
unfolding target_numbered
target-line n p q = rw (ne_eqb n 0 p, ne_eqb n 65536 q)

pub target-by : (g : Given) (c : Carried) (e : Ed) (t : Tape) (k : List ℕ) (r : Moved) (n : ℕ) {a : Target} → target_numbered n ≡ a → Came k r (runs g c (go_to a) e t) → Came k r (runs g c (go_to (target_numbered n)) e t)
target-by g c e t k r n q h = rw q h

pub here-by : {j : List ℕ} {st : State} (g : Given) (c : Carried) (e : Ed) (t : Tape) (r : Moved) (n : ℕ) → Shows j st e t → n ≡ 0 → r ≡ Ok (at_point st 0)
    → Came j r (runs g c (go_to (target_numbered n)) e t)
here-by {j} {st} g c e t r n h z q = target-by g c e t j r n (target-here n z) (rw q (here_on g c e t h))

pub here-as : {j : List ℕ} {st s : State} (g : Given) (c : Carried) (e : Ed) (t : Tape) (n : ℕ) → Shows j st e t → n ≡ 0 → s ≡ at_point st 0
    → Came j (Ok s) (runs g c (go_to (target_numbered n)) e t)
here-as {j} {st} g c e t n h z q = rw q (here-by g c e t (Ok (at_point st 0)) n h z refl)

-- ---- N, P and M

pub next-eof : {j : List ℕ} {st : State} (g : Given) (c : Carried) (e : Ed) (t : Tape) → Shows j st e t → length j ≤ st.back → Answered j (stopping AtEof st) (step g Op.next_line (state e c) t)
unfolding step program ◌>>◌ stop_number
next-eof g c e t h end = perform-no-line g c n20 (λ x. ◌>>=◌ go_ahead (λ a. goes_on)) e t h AtEof refl end

pub next-on : {j : List ℕ} {st : State} (g : Given) (c : Carried) (e : Ed) (t : Tape) (k : List ℕ) (r : Moved) → Shows j st e t → st.back < length j → Came k r (runs g c go_ahead e t)
    → Answered k r (step g Op.next_line (state e c) t)
unfolding step program ◌>>◌
next-on g c e t k r h more ahead = rw (perform-line g c n20 (λ x. ◌>>=◌ go_ahead (λ a. goes_on)) e t h more) (goes_on_lem g c go_ahead e t k r ahead)

pub previous-by : (g : Given) (c : Carried) (e : Ed) (t : Tape) (k : List ℕ) (r : Moved) → Came k r (runs g c (go Move.back) e t) → Answered k r (step g Op.previous_line (state e c) t)
unfolding step program
previous-by g c e t k r h = goes_on_lem g c (go Move.back) e t k r h

pub move-by : (g : Given) (c : Carried) (e : Ed) (t : Tape) (a : Target) (k : List ℕ) (r : Moved) → Came k r (runs g c (go_to a) e t) → Answered k r (step g (Op.move a) (state e c) t)
unfolding step program
move-by g c e t a k r h = goes_on_lem g c (go_to a) e t k r h
