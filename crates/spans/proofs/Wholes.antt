-- D and R put together from their parts: the move, how far they go, and the changes. Assumes nothing.
use mathlib.Core.Path.{◌≡◌, refl, sym, ◌∙◌}
use Prim.Native.Nat.{ℕ}
use mathlib.Core.List.{List, [], ◌∷◌}
use lib.ListN.{length}
use Rattle.definitions.specs.Tape.{Tape}
use Rattle.definitions.specs.Given.{Given, Carried, no_globals}
use Rattle.definitions.specs.Editor.{Ed, n20, Target, Through, strike, edit, edits}
use Rattle.definitions.specs.Editor.{Stop as StopNumber, Edit as Editing}
use Rattle.definitions.specs.Reading.{Ran, gave, stopped}
use Rattle.definitions.specs.StepProgram.{gives, ◌>>=◌, ◌>>◌, runs, state, changes, perform}
use Rattle.definitions.specs.Edit.{read_past, go_to, line_or, reach, span, Op, program, step}
use Rattle.theorems.specs.Programs.{runs-assoc, runs_on, runs-stop}
use Rattle.editor.specs.Shows.{Shows, lent, Came, Answered}
use Rattle.editor.specs.declared.State.{State}
use Rattle.std.specs.Prelude.{Ok}
use Rattle.editor.specs.Stops.{Moved, stopping}
use Rattle.editor.specs.declared.Stop.{Stop}
use Rattle.editor.proofs.Parts.{lent_same, Halted, came-stop, perform-as, perform-then, perform-halt}
use Rattle.editor.proofs.Changing.{changes-on}
use Rattle.spans.specs.Spans.{reach_here, span_here, change_here, EndsAt, Spanned, Found, FoundBy, StruckBy, StrikesSpan}

-- ---- what `span_end` found

-- a place: the number of records, the text that is then shown, and what is then unread
pub record Reached (j : List ℕ) (end : ℕ) (s : State) (x : Ran ℕ × Tape) : Type 0 where
  pub many : ℕ
  pub text : Ed
  pub tape : Tape
  pub is : x ≡ (gave many text, tape)
  pub shows : Shows j s text tape
  pub ends : EndsAt j end many text tape

pub reached : {j : List ℕ} {end : ℕ} {s : State} {r : Found} (x : Ran ℕ × Tape) → r ≡ Ok (end, s) → FoundBy j r x.0 x.1 → Reached j end s x
unfolding FoundBy
reached (gave n e, t) q h = let y = rw q at h in record { many = n; text = e; tape = t; is = refl; shows = y.0; ends = y.1 }
reached (stopped n e, t) q h = absurd (rw q at h)

pub reached-stop : {j : List ℕ} {m : Stop} {s : State} {r : Found} (x : Ran ℕ × Tape) → r ≡ stopping m s → FoundBy j r x.0 x.1 → Halted j m s x
unfolding FoundBy
reached-stop (gave n e, t) q h = absurd (rw q at h)
reached-stop (stopped n e, t) q h = let y = rw q at h in record { number = n; text = e; tape = t; is = refl; same = y.0; shows = y.1 }

-- the records end there in some text
pub reached-spanned : {j : List ℕ} {end : ℕ} {s : State} {x : Ran ℕ × Tape} → Reached j end s x → Spanned j s end
reached-spanned w = (w.text, w.tape, w.many, w.shows, w.ends)

-- ---- from the current line on

module _ (g : Given) (c : Carried) (b : Through) (e : Ed) (t : Tape) where
  -- `span_here` is `reach_here`, and then the next live line is read
  pub here-then : runs g c (span_here b) e t ≡ runs g c (◌>>=◌ (reach_here b) (λ n. ◌>>◌ (read_past n) (gives n))) e t
  unfolding span_here reach_here ◌>>◌
  here-then = sym (runs-assoc g c (λ x. reach b) (λ n. ◌>>=◌ (read_past n) (λ u. gives n)) (line_or n20) e t)

  span-on : (n : ℕ) (x y : Ed) (u v : Tape) → runs g c (reach_here b) e t ≡ (gave n x, u) → runs g c (read_past n) x u ≡ (gave tt y, v) → runs g c (span_here b) e t ≡ (gave n y, v)
  unfolding ◌>>◌ runs
  span-on n x y u v q w =
      here-then ∙ runs_on g c (λ n. ◌>>=◌ (read_past n) (λ z. gives n)) (reach_here b) e t q ∙ runs_on g c (λ z. gives n) (read_past n) x u w

  pub span-stop : {n : StopNumber} {x : Ed} {u : Tape} → runs g c (reach_here b) e t ≡ (stopped n x, u) → runs g c (span_here b) e t ≡ (stopped n x, u)
  span-stop q = here-then ∙ runs-stop g c (λ n. ◌>>◌ (read_past n) (gives n)) (reach_here b) e t q

module _ (c : Carried) (f : ℕ → List Editing) (b : Through) (e : Ed) (t : Tape) (j : List ℕ) where
  -- THE LAW OF SPANS: the records are found and the next live line is read, and the changes are what is left
  pub here-by : (k : List ℕ) (r : Moved) (n : ℕ) (x y : Ed) (u v : Tape) → runs (lent j) c (reach_here b) e t ≡ (gave n x, u) → runs (lent j) c (read_past n) x u ≡ (gave tt y, v)
      → Answered k r (perform (lent j) (gives (changes (f n))) (state y c) v) → Answered k r (perform (lent j) (change_here f b) (state e c) t)
  unfolding change_here
  here-by k r n x y u v q w h =
      rw (perform-as (lent j) c (◌>>=◌ (span_here b) (λ n. gives (changes (f n)))) (gives (changes (f n))) e y t v (runs_on (lent j) c (λ n. gives (changes (f n))) (span_here b) e t (span-on (lent j) c b e t n x y u v q w))) h

  -- they are not found
  pub here-stop : {m : Stop} {s : State} {r : Found} → r ≡ stopping m s → (let x = runs (lent j) c (reach_here b) e t in FoundBy j r x.0 x.1)
      → Answered j (stopping m s) (perform (lent j) (change_here f b) (state e c) t)
  unfolding change_here
  here-stop {m} {s} q h =
      let w : Halted j m s (runs (lent j) c (reach_here b) e t) = reached-stop (runs (lent j) c (reach_here b) e t) q h in
      perform-halt (lent j) c (span_here b) (λ n. gives (changes (f n))) e t j m s (came-stop m (span-stop (lent j) c b e t w.is) w.same w.shows)

-- ---- D

-- what `strike_span` did of the records that were found
pub struck-text : {k : List ℕ} {s : State} (n : ℕ) (x : Ran (Unit {0}) × Tape) → StruckBy k s n x.0 x.1 → (y : Ed) × (v : Tape) × (x ≡ (gave tt y, v)) × Shows k s (edit (strike n) y) v
unfolding StruckBy
struck-text n (gave u e, t) h = (e, t, refl, h)
struck-text n (stopped m e, t) h = absurd h

pub delete-on : {j : List ℕ} {end : ℕ} {s : State} (k : List ℕ) (r : State) (b : Through) (e : Ed) (t : Tape) → length k ≡ length j → Reached j end s (runs (lent j) no_globals (reach_here b) e t)
    → StrikesSpan end j s k r
    → Answered k (Ok r) (perform (lent j) (change_here (λ n. strike n ∷ []) b) (state e no_globals) t)
unfolding edits
delete-on {j} {end} {s} k r b e t long w strikes =
    let z : (y : Ed) × (v : Tape) × (runs (lent j) no_globals (read_past w.many) w.text w.tape ≡ (gave tt y, v)) × Shows k r (edit (strike w.many) y) v =
    struck-text w.many (runs (lent j) no_globals (read_past w.many) w.text w.tape) (strikes w.text w.tape w.many w.shows w.ends) in
    here-by no_globals (λ n. strike n ∷ []) b e t j k (Ok r) w.many w.text z.0 w.tape z.1 w.is z.2
    (changes-on no_globals (strike w.many ∷ []) z.0 z.1 j k r long z.3)

-- ---- from what M names

module _ (c : Carried) (f : ℕ → List Editing) (a : Target) (b : Through) (e : Ed) (t : Tape) (j : List ℕ) where
  -- the move is the first part
  from_then : perform (lent j) (◌>>=◌ (span a b) (λ n. gives (changes (f n)))) (state e c) t ≡ perform (lent j) (◌>>=◌ (go_to a) (λ u. change_here f b)) (state e c) t
  unfolding span span_here change_here ◌>>◌
  from_then =
      perform-as (lent j) c (◌>>=◌ (span a b) (λ n. gives (changes (f n)))) (◌>>=◌ (go_to a) (λ u. change_here f b)) e e t t
      (runs-assoc (lent j) c (λ u. span_here b) (λ n. gives (changes (f n))) (go_to a) e t)

  pub from_on : {i : List ℕ} {s : State} {m : Moved} (k : List ℕ) (r : Moved) → m ≡ Ok s → Came i m (runs (lent j) c (go_to a) e t) → length i ≡ length j
      → ((x : Ed) (u : Tape) → Shows i s x u → Answered k r (perform (lent i) (change_here f b) (state x c) u))
      → Answered k r (perform (lent j) (◌>>=◌ (span a b) (λ n. gives (changes (f n)))) (state e c) t)
  from_on {i} k r q h long rest =
      rw from_then
      (perform-then (lent j) c (go_to a) (λ u. change_here f b) e t k r (rw q at h) (λ v x u w. rw (lent_same j i long) at (rest x u w)))

  pub from-stop : (i : List ℕ) {n : Stop} {s : State} {m : Moved} → m ≡ stopping n s → Came i m (runs (lent j) c (go_to a) e t)
      → Answered i (stopping n s) (perform (lent j) (◌>>=◌ (span a b) (λ n. gives (changes (f n)))) (state e c) t)
  from-stop i {n} {s} q h = rw from_then (perform-halt (lent j) c (go_to a) (λ u. change_here f b) e t i n s (rw q at h))

pub delete-is : (g : Given) (a : Target) (b : Through) (e : Ed) (c : Carried) (t : Tape)
    → step g (Op.delete a b) (state e c) t ≡ perform g (◌>>=◌ (span a b) (λ n. gives (changes (strike n ∷ [])))) (state e c) t
unfolding step program
delete-is g a b e c t = refl
