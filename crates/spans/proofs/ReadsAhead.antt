-- What is read ahead of a command, through the globals: as far as the command reads where none stands. Assumes nothing.
use mathlib.Core.Path.{◌≡◌, refl, sym, ap, ◌∙◌}
use mathlib.Core.Logic.{inl, inr}
use mathlib.Core.Bool.{Bool, true, false}
use mathlib.Core.List.{List, [], ◌∷◌, ◌++◌, map}
use Prim.Native.Nat.{ℕ, zero, suc, ◌+◌, ◌-◌, ◌≤◌, ◌<◌}
use native.Mathlib.Omega.{arith}
use lib.ListN.{length, drop}
use lib.Dec.{leb}
use borrow.Author.Tests.{ne_eqb, le-leb, lt-leb, leb-true, leb-false}
use Rattle.definitions.specs.Bytes.{Line}
use Rattle.definitions.specs.Journal.{Record, kept, changed, deleted, inserted}
use Rattle.definitions.specs.Tape.{Tape, unread, ended, rest_lines}
use Rattle.definitions.specs.Given.{Given, Carried, no_globals}
use Rattle.definitions.specs.Editor.{Ed, ed, before_of, after_of, records, sources, furthest, has_live, n20, n28, stop_number, Target, Through, alone, up_to, to_eof, ahead, to}
use Rattle.definitions.specs.Editor.{Stop as StopNumber}
use Rattle.definitions.specs.Reading.{gave, stopped, read_lines, read_to}
use Rattle.definitions.specs.StepProgram.{Program, gives, ◌>>=◌, ◌>>◌, runs}
use Rattle.definitions.specs.Edit.{stop_if, see, either, read_up_to, go, read_past, go_ahead, go_to, count_through, reach}
use Rattle.theorems.specs.RecordLaws.{sources-append, sources-kept, sources-reverse}
use Rattle.theorems.specs.Programs.{runs_on, runs-stop, runs-pass, runs-halt, runs-no-line}
use Rattle.theorems.specs.ReadLines.{read_next, lacking, seen_all, seen_none, read_past_lem, runs-read}
use Rattle.editor.specs.Shows.{Shows, ShowsText, lent, Came, target_numbered}
use Rattle.editor.specs.declared.State.{State}
use Rattle.std.specs.Prelude.{Ok, Err}
use Rattle.editor.specs.Stops.{Moved, stopping}
use Rattle.editor.specs.declared.Stop.TheVariants.{AtEof, LineBefore}
use Rattle.editor.specs.declared.Stop.{Stop}
use Rattle.editor.proofs.Parts.{lent_same, Went, went, Halted, halted, came-on, came-stop, then-on, then-stop, shown-record, shown-eof, line_on, line-stop}
use Rattle.spans.specs.Spans.{through_of, reach_here, span_here, read_through, read_here, EndsAt, Spanned, Found, FoundBy}
use Rattle.spans.specs.declared.Next.{Next}
use Rattle.spans.proofs.Ends.{through-alone, through-all, through-line, through_line, reach-is}
use Rattle.spans.proofs.Nexts.{NextRead}
use Rattle.spans.proofs.Wholes.{Reached, reached, reached-stop, reached-spanned, here-then, span-stop}
use Rattle.spans.proofs.ReadFirst.{same-gave, not_stopped, as-stopped, Added, added_none, IsRead, read-nothing, Still, part-first, up_to-again, to-added, go_to-first, past_is, past-added, before-with, HasLine, line-runs, line_stays, go-still, ahead-first}

-- ---- the next live line

far-read : (e : Ed) (t : Tape) → IsRead (Target.line (furthest e t)) e t
unfolding furthest
far-read e (unread ls) = inr (omega arith)
far-read e ended = inl refl

-- how far it is read where none stands
past-far : (e : Ed) (t : Tape) (x : List Line × Tape) → x ≡ read_next 1 t → furthest (seen_all x.0 e) x.1 ≡ suc (sources (records e))
unfolding read_next furthest seen_all records
past-far (ed b a p) (unread (l ∷ ls)) x q =
    rw q (omega (arith, sources-reverse b (a ++ (kept l ∷ [])), sources-append a (kept l ∷ []), sources-kept (l ∷ []), sources-reverse b a))
past-far (ed b a p) (unread []) x q = rw q (omega (arith, sources-reverse b (a ++ []), sources-append a [], sources-kept [], sources-reverse b a))
past-far (ed b a p) ended x q = rw q (omega (arith, sources-reverse b (a ++ []), sources-append a [], sources-kept [], sources-reverse b a))

-- THE LAW: so far it is read through the globals
pub past-as-far : (g : Given) (c : Carried) (n : ℕ) (e : Ed) (t : Tape) (x : Ed) (u : Tape) → runs g no_globals (read_past n) e t ≡ (gave tt x, u)
    → runs g c (read_past n) e t ≡ runs g c (read_up_to (Target.line (furthest x u))) e t
past-as-far g c n e t x u q = by (has_live (drop n (after_of e))) refl
  where
    is : (live : Bool) → has_live (drop n (after_of e)) ≡ live → (seen_all (read_next (lacking live) t).0 e ≡ x) × ((read_next (lacking live) t).1 ≡ u)
    is live z =
        let s : (tt ≡ tt) × (seen_all (read_next (lacking (has_live (drop n (after_of e)))) t).0 e ≡ x) × ((read_next (lacking (has_live (drop n (after_of e)))) t).1 ≡ u) = same-gave (sym (read_past_lem g n e t) ∙ q) in
        (rw (← z) s.1, rw (← z) s.2)

    by : (live : Bool) → has_live (drop n (after_of e)) ≡ live → runs g c (read_past n) e t ≡ runs g c (read_up_to (Target.line (furthest x u))) e t
    by true z =
        let s : (seen_all (read_next (lacking true) t).0 e ≡ x) × ((read_next (lacking true) t).1 ≡ u) = is true z in
        let same : furthest x u ≡ furthest e t = no_more s in
        past_is g c n e t true z ∙ nothing ∙ sym (runs-read g c (Target.line (furthest e t)) e t ∙ read-nothing g c (Target.line (furthest e t)) e t (far-read e t))
        ∙ ap (λ (i : ℕ). runs g c (read_up_to (Target.line i)) e t) (sym same)
      where
        nothing : runs g c (either true (gives tt) (read_up_to (Target.line (suc (sources (records e)))))) e t ≡ (gave tt e, t)
        nothing = unfold either runs in refl

        no_more : (seen_all (read_next (lacking true) t).0 e ≡ x) × ((read_next (lacking true) t).1 ≡ u) → furthest x u ≡ furthest e t
        no_more s = unfold lacking read_next in (rw (← s.0, ← s.1, seen_none e) refl)
    by false z =
        let s : (seen_all (read_next (lacking false) t).0 e ≡ x) × ((read_next (lacking false) t).1 ≡ u) = is false z in
        let far : furthest x u ≡ suc (sources (records e)) = one_more s in
        past_is g c n e t false z ∙ one ∙ ap (λ (i : ℕ). runs g c (read_up_to (Target.line i)) e t) (sym far)
      where
        one : runs g c (either false (gives tt) (read_up_to (Target.line (suc (sources (records e)))))) e t ≡ runs g c (read_up_to (Target.line (suc (sources (records e))))) e t
        one = unfold either in refl

        one_more : (seen_all (read_next (lacking false) t).0 e ≡ x) × ((read_next (lacking false) t).1 ≡ u) → furthest x u ≡ suc (sources (records e))
        one_more s = unfold lacking in (rw (← s.0, ← s.1) (past-far e t (read_next 1 t) refl))

-- where the next live line was found where none stands
pub read-as-far : {j : List ℕ} {n : ℕ} {r : Next} (i : List ℕ) (m : Moved) (g : Given) (c : Carried) (e : Ed) (t : Tape) → NextRead j n r (runs g no_globals (read_past n) e t)
    → Came i m (runs g c (read_up_to (Target.line r.st.furthest)) e t) → Came i m (runs g c (read_past n) e t)
read-as-far {n = n} i m g c e t w h = rw (past-as-far g c n e t w.text w.tape w.is, ← w.shows.furthest) h

-- ---- where a line is current

pub line-here : {j : List ℕ} {st : State} (e : Ed) (t : Tape) → Shows j st e t → st.back < length j → HasLine e
unfolding after_of
line-here (ed b [] p) t h more = absurd (shown-record b p t h more)
line-here (ed b (r ∷ a) p) t h more = omega arith

back-less : {j : List ℕ} {st : State} (e : Ed) (t : Tape) → Shows j st e t → HasLine e → st.back < length j
unfolding after_of
back-less (ed b [] p) t h has = absurd (omega (arith, has))
back-less {j} {st} (ed b (r ∷ a) p) t h has = by (leb (length j) st.back) refl
  where
    by : (x : Bool) → leb (length j) st.back ≡ x → st.back < length j
    by true z = absurd (shown-eof b r a p t h (leb-true (length j) st.back z))
    by false z = omega (arith, leb-false (length j) st.back z)

module _ {j : List ℕ} {st : State} (c : Carried) (e : Ed) (t : Tape) (h : Shows j st e t) (more : st.back < length j) (i : List ℕ) {m : Moved} {s : State} where
  -- it is once the next live line is read
  pub ahead-there : m ≡ Ok s → Came i m (runs (lent j) c (read_past 1) e t) → ShowsText i s × (s.back < length i)
  ahead-there q w = by (went (runs (lent j) c (read_past 1) e t) (rw q at w))
    where
      by : Went i s (runs (lent j) c (read_past 1) e t) → ShowsText i s × (s.back < length i)
      by v = ((v.text, v.tape, v.shows), back-less v.text v.tape v.shows (line_stays (past-added (lent j) c 1 e t v.is) (line-here e t h more)))

  pub ahead-stop : {n : Stop} → m ≡ stopping n s → Came i m (runs (lent j) c (read_past 1) e t) → Came i m (runs (lent j) c go_ahead e t)
  unfolding go_ahead ◌>>◌
  ahead-stop {n} q w = rw q (then-stop (lent j) c (read_past 1) (λ u. go ahead) e t i n s (rw q at w))

  pub ahead-on : (k : List ℕ) (r : Moved) → m ≡ Ok s → Came i m (runs (lent j) c (read_past 1) e t) → length i ≡ length j
      → ((x : Ed) (u : Tape) → Shows i s x u → Came k r (runs (lent i) no_globals go_ahead x u)) → Came k r (runs (lent j) c go_ahead e t)
  unfolding go_ahead ◌>>◌
  ahead-on k r q w long plain = by (went (runs (lent j) c (read_past 1) e t) (rw q at w))
    where
      first : (x : Ed) (u : Tape) → runs (lent j) c (read_past 1) e t ≡ (gave tt x, u)
          → runs (lent j) c (◌>>=◌ (read_past 1) (λ v. go ahead)) e t ≡ runs (lent j) no_globals (◌>>=◌ (read_past 1) (λ v. go ahead)) x u
      first x u z = ahead-first (lent j) c e t (line-here e t h more) z no_globals (λ v. go ahead) (λ v. go-still ahead)

      by : Went i s (runs (lent j) c (read_past 1) e t) → Came k r (runs (lent j) c (◌>>=◌ (read_past 1) (λ v. go ahead)) e t)
      by v = rw (first v.text v.tape v.is) (rw (lent_same j i long) at (plain v.text v.tape v.shows))

-- ---- EOF

pub eof-is : {j : List ℕ} {st : State} (g : Given) (c : Carried) (e : Ed) (t : Tape) → Shows j st e t → runs g c (read_up_to Target.eof) e t ≡ runs g c (read_up_to (Target.line (st.lines + 1))) e t
unfolding before_of after_of read_to records
eof-is {j} {st} g c (ed b a p) t h =
    let lines : st.lines ≡ sources b + sources (a ++ map kept (rest_lines t)) = h.holds.lines in
    let many : suc (length (rest_lines t)) ≡ st.lines + 1 - sources (records (ed b a p)) =
    omega (arith, lines, sources-append a (map kept (rest_lines t)), sources-kept (rest_lines t), sources-reverse b a) in
    runs-read g c Target.eof (ed b a p) t ∙ ap (λ (i : ℕ). read_lines g c i (ed b a p) t) many ∙ sym (runs-read g c (Target.line (st.lines + 1)) (ed b a p) t)

-- ---- M

module _ (g : Given) (c : Carried) (e : Ed) (t : Tape) (k : List ℕ) (r : Moved) where
  -- `.` is read
  pub target-here : {st : State} (n : ℕ) → n ≡ 0 → r ≡ Ok st → Shows k st e t → Came k r (runs g c (read_up_to (target_numbered n)) e t)
  unfolding target_numbered
  target-here n z q h = rw (q, z) (came-on (runs-read g c Target.here e t ∙ read-nothing g c Target.here e t tt) h)

  pub target-eof : {j : List ℕ} {st : State} (n : ℕ) → n ≡ 65536 → Shows j st e t → Came k r (runs g c (read_up_to (Target.line (st.lines + 1))) e t)
      → Came k r (runs g c (read_up_to (target_numbered n)) e t)
  unfolding target_numbered
  target-eof n z h w = rw (z, eof-is g c e t h) w

  pub target-line : (n : ℕ) → (n ≡ 0 → ⊥) → (n ≡ 65536 → ⊥) → Came k r (runs g c (read_up_to (Target.line n)) e t) → Came k r (runs g c (read_up_to (target_numbered n)) e t)
  unfolding target_numbered
  target-line n a b w = rw (ne_eqb n 0 a, ne_eqb n 65536 b) w

-- it is read, and then moved to
module _ (j : List ℕ) (c : Carried) (a : Target) (e : Ed) (t : Tape) where
  pub target-stop : (i : List ℕ) {m : Moved} {n : Stop} {s : State} → m ≡ stopping n s → Came i m (runs (lent j) c (read_up_to a) e t) → Came i m (runs (lent j) c (go_to a) e t)
  unfolding go_to ◌>>◌
  target-stop i {m} {n} {s} q h = rw q (then-stop (lent j) c (read_up_to a) (λ u. go (to a)) e t i n s (rw q at h))

  pub target-on : {i : List ℕ} {m : Moved} {s : State} (k : List ℕ) (r : Moved) → m ≡ Ok s → Came i m (runs (lent j) c (read_up_to a) e t) → length i ≡ length j
      → ((x : Ed) (u : Tape) → Shows i s x u → Came k r (runs (lent i) no_globals (go_to a) x u)) → Came k r (runs (lent j) c (go_to a) e t)
  target-on {i} {m} {s} k r q h long plain = by (went (runs (lent j) c (read_up_to a) e t) (rw q at h))
    where
      by : Went i s (runs (lent j) c (read_up_to a) e t) → Came k r (runs (lent j) c (go_to a) e t)
      by w = rw (go_to-first (lent j) c a e t w.is no_globals) (rw (lent_same j i long) at (plain w.text w.tape w.shows))

-- ---- the lines of D and R

module _ {j : List ℕ} {st : State} (g : Given) (c : Carried) (e : Ed) (t : Tape) (h : Shows j st e t) where
  -- EOF is current
  pub through-20 : (b : Through) → length j ≤ st.back → Came j (stopping AtEof st) (runs g c (read_here b) e t)
  unfolding read_here ◌>>◌ stop_number
  through-20 b end = came-stop AtEof (line-stop g c n20 (λ x. read_through b) e t h end) refl h

  module _ (more : st.back < length j) where
    here-is : (n : ℕ) {b : Through} → through_of n ≡ b → runs g c (read_here (through_of n)) e t ≡ runs g c (read_through b) e t
    unfolding read_here ◌>>◌
    here-is n {b} q = rw q (line_on g c n20 (λ x. read_through b) e t h more)

    pub through-one : (n : ℕ) → n ≡ 0 → Came j (Ok st) (runs g c (read_here (through_of n)) e t)
    unfolding read_through runs
    through-one n z = came-on (here-is n (through-alone n z)) h

    pub through-eof : (n : ℕ) → n ≡ 65536 → (k : List ℕ) (r : Moved) → Came k r (runs g c (read_up_to (Target.line (st.lines + 1))) e t) → Came k r (runs g c (read_here (through_of n)) e t)
    unfolding read_through
    through-eof n z k r w = rw (here-is n (through-all n z), eof-is g c e t h) w

    module _ (n : ℕ) (one : n ≡ 0 → ⊥) (all : n ≡ 65536 → ⊥) where
      -- the test of 28, and then the reading
      line-is : runs g c (read_here (through_of n)) e t ≡ runs g c (◌>>◌ (stop_if n28 (leb n (sources (before_of e)))) (read_up_to (Target.line n))) e t
      unfolding read_through see ◌>>◌ ◌>>=◌ runs
      line-is = here-is n (through-line n one all)

      pub through-28 : n ≤ st.past → Came j (stopping LineBefore st) (runs g c (read_here (through_of n)) e t)
      unfolding stop_number
      through-28 low = came-stop LineBefore (line-is ∙ runs-halt g c n28 (leb n (sources (before_of e))) (read_up_to (Target.line n)) e t (le-leb n (sources (before_of e)) (omega (arith, h.holds.past)))) refl h

      pub through-up_to : st.past < n → (k : List ℕ) (r : Moved) → Came k r (runs g c (read_up_to (Target.line n)) e t) → Came k r (runs g c (read_here (through_of n)) e t)
      through-up_to past k r w = rw (line-is, runs-pass g c n28 (leb n (sources (before_of e))) (read_up_to (Target.line n)) e t (lt-leb n (sources (before_of e)) (omega (arith, h.holds.past)))) w

-- once they are read, where they end is found as where none stands
count-still : (n k : ℕ) (a : List Record) → Still (count_through n k a)
unfolding count_through Still
count-still n k [] = tt
count-still n k (inserted l ∷ a) = count-still (suc n) k a
count-still n zero (kept l ∷ a) = tt
count-still n zero (changed o m ∷ a) = tt
count-still n zero (deleted l ∷ a) = tt
count-still n (suc k) (kept l ∷ a) = count-still (suc n) k a
count-still n (suc k) (changed o m ∷ a) = count-still (suc n) k a
count-still n (suc k) (deleted l ∷ a) = count-still (suc n) k a

one-alone : (g : Given) (c c' : Carried) (e : Ed) (t : Tape) → runs {A = ℕ} g c (gives 1) e t ≡ runs {A = ℕ} g c' (gives 1) e t
unfolding runs
one-alone g c c' e t = refl

module _ (g : Given) (c : Carried) (e : Ed) (t : Tape) (x : Ed) (u : Tape) where
  none_read : runs {A = Unit {0}} g c (gives tt) e t ≡ (gave tt x, u) → (e ≡ x) × (t ≡ u)
  unfolding runs
  none_read q =
      let s : (tt ≡ tt) × (e ≡ x) × (t ≡ u) = same-gave q in
      (s.1, s.2)

  none-stops : {n : StopNumber} → runs {A = Unit {0}} g c (gives tt) e t ≡ (stopped n x, u) → ⊥
  unfolding runs
  none-stops q = not_stopped (sym q)

  -- 28 is tested first
  test : (m : ℕ) → runs g c (read_through (up_to m)) e t ≡ runs g c (◌>>◌ (stop_if n28 (leb m (sources (before_of e)))) (read_up_to (Target.line m))) e t
  unfolding read_through see ◌>>◌ ◌>>=◌ runs
  test m = refl

  reach-read : (b : Through) → runs g c (read_through b) e t ≡ (gave tt x, u) → Added e t x u × (runs g c (reach b) e t ≡ runs g no_globals (reach b) x u)
  unfolding read_through reach ◌>>◌
  reach-read alone q = rw (← (none_read q).0, ← (none_read q).1) (added_none e t, one-alone g c no_globals e t)
  reach-read (up_to m) q = by (leb m (sources (before_of e))) refl
    where
      after : Program ℕ
      after = ◌>>=◌ (see after_of) (λ a. count_through 0 (m - suc (sources (before_of e))) a)

      after-still : Still after
      after-still = unfold see ◌>>=◌ Still in (λ z. count-still 0 (m - suc (sources (before_of e))) (after_of z))

      read : leb m (sources (before_of e)) ≡ false → runs g c (read_up_to (Target.line m)) e t ≡ (gave tt x, u)
          → Added e t x u × (runs g c (reach (up_to m)) e t ≡ runs g no_globals (reach (up_to m)) x u)
      read low z =
          let w : Added e t x u = to-added g c (Target.line m) e t x u (sym (runs-read g c (Target.line m) e t) ∙ z) in
          let n : sources (before_of x) ≡ sources (before_of e) = ap sources (ap before_of w.text ∙ before-with w.new e) in (
            w,
            reach-is g c m e t ∙ runs-pass g c n28 (leb m (sources (before_of e))) (through_line m (sources (before_of e))) e t low ∙ first z
                ∙ ap (λ (i : ℕ). runs g no_globals (through_line m i) x u) (sym n)
                ∙ sym (reach-is g no_globals m x u ∙ runs-pass g no_globals n28 (leb m (sources (before_of x))) (through_line m (sources (before_of x))) x u (ap (leb m) n ∙ low)),
          )
        where
          first : runs g c (read_up_to (Target.line m)) e t ≡ (gave tt x, u) → runs g c (through_line m (sources (before_of e))) e t ≡ runs g no_globals (through_line m (sources (before_of e))) x u
          first z = unfold through_line ◌>>◌ in (part-first g c no_globals (read_up_to (Target.line m)) (λ v. after) (λ v. after-still) e t z (up_to-again g c (Target.line m) e t z no_globals))

      by : (low : Bool) → leb m (sources (before_of e)) ≡ low → Added e t x u × (runs g c (reach (up_to m)) e t ≡ runs g no_globals (reach (up_to m)) x u)
      by true z = absurd (not_stopped (sym (test m ∙ runs-halt g c n28 (leb m (sources (before_of e))) (read_up_to (Target.line m)) e t z) ∙ q))
      by false z = read z (sym (test m ∙ runs-pass g c n28 (leb m (sources (before_of e))) (read_up_to (Target.line m)) e t z) ∙ q)
  reach-read to_eof q = (
    to-added g c Target.eof e t x u (sym (runs-read g c Target.eof e t) ∙ q),
    part-first g c no_globals (read_up_to Target.eof) (λ v. see (λ z. length (after_of z))) (λ v. see-still (λ z. length (after_of z))) e t q (up_to-again g c Target.eof e t q no_globals),
  )
    where
      see-still : (f : Ed → ℕ) → Still (see f)
      see-still f = unfold see Still in (λ e. tt)

  -- reading stopped, or 28
  reach-stops : {n : StopNumber} (b : Through) → runs g c (read_through b) e t ≡ (stopped n x, u) → runs g c (reach b) e t ≡ (stopped n x, u)
  unfolding read_through reach ◌>>◌
  reach-stops alone q = absurd (none-stops q)
  reach-stops {n} (up_to m) q = by (leb m (sources (before_of e))) refl
    where
      after : Unit {0} → Program ℕ
      after v = ◌>>=◌ (see after_of) (λ a. count_through 0 (m - suc (sources (before_of e))) a)

      by : (low : Bool) → leb m (sources (before_of e)) ≡ low → runs g c (reach (up_to m)) e t ≡ (stopped n x, u)
      by true z =
          reach-is g c m e t ∙ runs-halt g c n28 (leb m (sources (before_of e))) (through_line m (sources (before_of e))) e t z
          ∙ as-stopped (sym (test m ∙ runs-halt g c n28 (leb m (sources (before_of e))) (read_up_to (Target.line m)) e t z) ∙ q)
      by false z =
          reach-is g c m e t ∙ runs-pass g c n28 (leb m (sources (before_of e))) (through_line m (sources (before_of e))) e t z
          ∙ unfold through_line ◌>>◌ in (runs-stop g c after (read_up_to (Target.line m)) e t (sym (test m ∙ runs-pass g c n28 (leb m (sources (before_of e))) (read_up_to (Target.line m)) e t z) ∙ q))
  reach-stops to_eof q = runs-stop g c (λ v. see (λ z. length (after_of z))) (read_up_to Target.eof) e t q

-- ---- the same from the current line on

reach-first : (g : Given) (c : Carried) (b : Through) (e : Ed) (t : Tape) (x : Ed) (u : Tape) → runs g c (read_here b) e t ≡ (gave tt x, u) → runs g c (reach_here b) e t ≡ runs g no_globals (reach_here b) x u
unfolding read_here reach_here ◌>>◌ after_of
reach-first g c b (ed before [] p) t x u q = absurd (not_stopped (sym (runs-no-line g c n20 (λ y. read_through b) before p t) ∙ q))
reach-first g c b (ed before (r ∷ a) p) t x u q =
    let h : HasLine (ed before (r ∷ a) p) = omega arith in
    let w : Added (ed before (r ∷ a) p) t x u × (runs g c (reach b) (ed before (r ∷ a) p) t ≡ runs g no_globals (reach b) x u) =
    reach-read g c (ed before (r ∷ a) p) t x u b (sym (line-runs g c n20 (λ y. read_through b) (ed before (r ∷ a) p) t h) ∙ q) in
    line-runs g c n20 (λ y. reach b) (ed before (r ∷ a) p) t h ∙ w.1 ∙ sym (line-runs g no_globals n20 (λ y. reach b) x u (line_stays w.0 h))

reach-halts : (g : Given) (c : Carried) (b : Through) (e : Ed) (t : Tape) {n : StopNumber} (x : Ed) (u : Tape) → runs g c (read_here b) e t ≡ (stopped n x, u) → runs g c (reach_here b) e t ≡ (stopped n x, u)
unfolding read_here reach_here ◌>>◌ after_of
reach-halts g c b (ed before [] p) t x u q = runs-no-line g c n20 (λ y. reach b) before p t ∙ as-stopped (sym (runs-no-line g c n20 (λ y. read_through b) before p t) ∙ q)
reach-halts g c b (ed before (r ∷ a) p) t x u q =
    let h : HasLine (ed before (r ∷ a) p) = omega arith in
    line-runs g c n20 (λ y. reach b) (ed before (r ∷ a) p) t h ∙ reach-stops g c (ed before (r ∷ a) p) t x u b (sym (line-runs g c n20 (λ y. read_through b) (ed before (r ∷ a) p) t h) ∙ q)

-- ---- what `read_span` did

-- the number is given once the next live line is read
gives_after : {A : Type 0} (g : Given) (c : Carried) (m : Program A) (n : ℕ) (e : Ed) (t : Tape) (k : List ℕ) (r : Moved) → Came k r (runs g c m e t) → Came k r (runs g c (◌>>=◌ m (λ v. gives n)) e t)
gives_after g c m n e t k (Ok s) h = then-on g c m (λ v. gives n) e t k (Ok s) h (λ a x u w. came-on (value x u) w)
  where
    value : (x : Ed) (u : Tape) → runs g c (gives n) x u ≡ (gave n x, u)
    value x u = unfold runs in refl
gives_after g c m n e t k (Err s) h = then-stop g c m (λ v. gives n) e t k s.stop s.st h

module _ (j : List ℕ) (c : Carried) (b : Through) (e : Ed) (t : Tape) where
  -- reading stopped, 20 or 28
  pub span-unread : (i : List ℕ) {m : Moved} {n : Stop} {s : State} → m ≡ stopping n s → Came i m (runs (lent j) c (read_here b) e t) → Came i m (runs (lent j) c (span_here b) e t)
  span-unread i {m} {n} {s} q h = rw q (by (halted (runs (lent j) c (read_here b) e t) (rw q at h)))
    where
      by : Halted i n s (runs (lent j) c (read_here b) e t) → Came i (stopping n s) (runs (lent j) c (span_here b) e t)
      by w = came-stop n (span-stop (lent j) c b e t (reach-halts (lent j) c b e t w.text w.tape w.is)) w.same w.shows

  module _ {i : List ℕ} {m : Moved} {s : State} (q : m ≡ Ok s) (h : Came i m (runs (lent j) c (read_here b) e t)) (long : length i ≡ length j) {f : Found}
      (found : (x : Ed) (u : Tape) → Shows i s x u → let y = runs (lent i) no_globals (reach_here b) x u in FoundBy i f y.0 y.1) where
    -- 21 or 23
    pub span-unfound : {n : Stop} {s' : State} → f ≡ stopping n s' → Came i (stopping n s') (runs (lent j) c (span_here b) e t)
    span-unfound {n} {s'} z = by (went (runs (lent j) c (read_here b) e t) (rw q at h))
      where
        stops : (x : Ed) (u : Tape) → Shows i s x u → Halted i n s' (runs (lent j) no_globals (reach_here b) x u)
        stops x u w = reached-stop (runs (lent j) no_globals (reach_here b) x u) z (rw (lent_same j i long) at (found x u w))

        by : Went i s (runs (lent j) c (read_here b) e t) → Came i (stopping n s') (runs (lent j) c (span_here b) e t)
        by w =
            let v : Halted i n s' (runs (lent j) no_globals (reach_here b) w.text w.tape) = stops w.text w.tape w.shows in
            came-stop n (span-stop (lent j) c b e t (reach-first (lent j) c b e t w.text w.tape w.is ∙ v.is)) v.same v.shows

    -- they end there: the next live line is read
    module _ {end : ℕ} {s' : State} (z : f ≡ Ok (end, s')) where
      reaches : (x : Ed) (u : Tape) → Shows i s x u → Reached i end s' (runs (lent j) no_globals (reach_here b) x u)
      reaches x u w = reached (runs (lent j) no_globals (reach_here b) x u) z (rw (lent_same j i long) at (found x u w))

      pub span-there : Spanned i s' end
      span-there = by (went (runs (lent j) c (read_here b) e t) (rw q at h))
        where
          by : Went i s (runs (lent j) c (read_here b) e t) → Spanned i s' end
          by w = reached-spanned (reaches w.text w.tape w.shows)

      pub span-read : (k : List ℕ) (r : Moved) → ((x : Ed) (u : Tape) (n : ℕ) → Shows i s' x u → EndsAt i end n x u → Came k r (runs (lent i) c (read_past n) x u))
          → Came k r (runs (lent j) c (span_here b) e t)
      span-read k r after = by (went (runs (lent j) c (read_here b) e t) (rw q at h))
        where
          rest : (n : ℕ) → Program ℕ
          rest n = ◌>>=◌ (read_past n) (λ v. gives n)

          then : runs (lent j) c (span_here b) e t ≡ runs (lent j) c (◌>>=◌ (reach_here b) rest) e t
          then = unfold ◌>>◌ in (here-then (lent j) c b e t)

          by : Went i s (runs (lent j) c (read_here b) e t) → Came k r (runs (lent j) c (span_here b) e t)
          by w =
              let v : Reached i end s' (runs (lent j) no_globals (reach_here b) w.text w.tape) = reaches w.text w.tape w.shows in
              rw (then ∙ runs_on (lent j) c rest (reach_here b) e t (reach-first (lent j) c b e t w.text w.tape w.is ∙ v.is))
              (gives_after (lent j) c (read_past v.many) v.many v.text v.tape k r (rw (lent_same j i long) at (after v.text v.tape v.many v.shows v.ends)))
