-- The commands that read, where globals stand: read first, then done as where none stands. Assumes nothing.
use mathlib.Core.Path.{◌≡◌, refl, sym, ap, ◌∙◌}
use mathlib.Core.Option.{Option, none, some}
use mathlib.Core.List.{List, [], ◌∷◌, ◌++◌}
use Prim.Native.Nat.{ℕ, ◌≤◌, ◌<◌}
use lib.ListN.{length, drop}
use lib.Dec.{ltb}
use mathlib.Core.Bool.{Bool, true, false}
use Rattle.definitions.specs.Bytes.{Line}
use Rattle.definitions.specs.Tape.{Tape, rest_lines}
use Rattle.definitions.specs.Given.{Given, Carried, no_globals, given, bytes, words_of}
use Rattle.definitions.specs.Editor.{Ed, after_of, first_live, n20, n25, n30, stop_number, Target, Through, strike_next, retext}
use Rattle.definitions.specs.Editor.{Edit as Editing}
use Rattle.definitions.specs.Reading.{Ran, gave}
use Rattle.definitions.specs.StepProgram.{Program, gives, ◌>>=◌, ◌>>◌, runs, state, words_in, Did, changes, perform}
use Rattle.definitions.specs.Edit.{Op, stop_if, or_stop, see, read_past, go_to, line_or, next_or30, write_joined, span, program, step}
use Rattle.theorems.specs.OldSide.{old_ed, journal-old}
use Rattle.theorems.specs.ReadTo.{old_ran}
use Rattle.theorems.specs.Step.{runs-faithful}
use Rattle.theorems.specs.Programs.{runs-assoc}
use Rattle.editor.specs.Shows.{lent, Came, Answered, Completes, point_of}
use Rattle.editor.specs.Current.{current_line, TableOf, ShowsOf, ShownOf}
use Rattle.editor.specs.declared.State.{State}
use Rattle.std.specs.Prelude.{Ok}
use Rattle.editor.specs.Stops.{Moved, stopping}
use Rattle.editor.specs.declared.Stop.TheVariants.{AtEof}
use Rattle.editor.specs.declared.Stop.{Stop}
use Rattle.editor.proofs.Parts.{lent_same, Went, went, perform-stop, perform-halt, perform-no-line, then-stop}
use Rattle.spans.specs.Spans.{span_here, change_here}
use Rattle.spans.proofs.ReadFirst.{Added, Still, still-then, part-first, past-added, HasLine, line-runs, line_stays, line_same, ahead-first}
use Rattle.spans.proofs.SpanFirst.{span-again}
use Rattle.spans.proofs.Wholes.{from-stop}
use Rattle.spans.proofs.Outcomes.{Calm, calm-then, answers-first}
use Rattle.spans.proofs.ReadsAhead.{line-here}
use Rattle.joins.specs.Joining.{Joins}

-- ---- D and R

module _ (c : Carried) (f : ℕ → List Editing) (b : Through) (e : Ed) (t : Tape) (j : List ℕ) where
  -- their lines cannot be read
  pub here-unread : (i : List ℕ) {m : Moved} {n : Stop} {s : State} → m ≡ stopping n s → Came i m (runs (lent j) c (span_here b) e t) → Answered i m (perform (lent j) (change_here f b) (state e c) t)
  unfolding change_here
  here-unread i {m} {n} {s} q h = rw q (perform-halt (lent j) c (span_here b) (λ n. gives (changes (f n))) e t i n s (rw q at h))

  first : (n : ℕ) (x : Ed) (u : Tape) → runs (lent j) c (span_here b) e t ≡ (gave n x, u) → runs (lent j) c (change_here f b) e t ≡ runs (lent j) no_globals (change_here f b) x u
  unfolding change_here Still
  first n x u z =
      part-first (lent j) c no_globals (span_here b) (λ n. gives (changes (f n))) (λ n. tt) e t z (span-again (lent j) c b n e t x u z no_globals)

  calm : Calm (change_here f b)
  unfolding change_here Calm
  calm = calm-then (span_here b) (λ n. gives (changes (f n))) (λ n. tt)

  -- they are read: the rest is as where no global stands
  pub here-read : {i : List ℕ} {m : Moved} {s : State} (k : List ℕ) (r : Moved) → m ≡ Ok s → Came i m (runs (lent j) c (span_here b) e t) → length i ≡ length j
      → Completes no_globals i s (change_here f b) k r → Answered k r (perform (lent j) (change_here f b) (state e c) t)
  here-read {i} {m} {s} k r q h long plain = by (went (runs (lent j) c (span_here b) e t) (rw q at h))
    where
      by : Went i s (runs (lent j) c (span_here b) e t) → Answered k r (perform (lent j) (change_here f b) (state e c) t)
      by w =
          answers-first (lent j) c (change_here f b) calm e t w.text w.tape k r (first w.value w.text w.tape w.is)
          (rw (lent_same j i long) at (plain w.text w.tape w.shows))

-- what M names cannot be read or moved to
pub from-unmoved : (c : Carried) (f : ℕ → List Editing) (a : Target) (b : Through) (e : Ed) (t : Tape) (j i : List ℕ) {m : Moved} {n : Stop} {s : State} → m ≡ stopping n s
    → Came i m (runs (lent j) c (go_to a) e t) → Answered i m (perform (lent j) (◌>>=◌ (span a b) (λ n. gives (changes (f n)))) (state e c) t)
from-unmoved c f a b e t j i q h = rw q (from-stop c f a b e t j i refl (rw q at h))

-- ---- CL

-- the journal stays one of its table where a part of a step is done
part-table : {A : Type 0} {table : List ℕ} (j : List ℕ) (c : Carried) (m : Program A) (e : Ed) (t : Tape) {a : A} (x : Ed) (u : Tape) → TableOf table e t → runs (lent j) c m e t ≡ (gave a x, u)
    → TableOf table x u
unfolding lent
part-table {A} {table} j c m e t {a} x u h q = record {
  is = h.is;
  old = journal-old x u ∙ sym (ends (runs (given (bytes (length j))) c m e t) q) ∙ (runs-faithful (length j) c m e).keeps t ∙ sym (journal-old e t) ∙ h.old;
}
  where
    ends : (y : Ran A × Tape) → y ≡ (gave a x, u) → old_ran y.0 ++ rest_lines y.1 ≡ old_ed x ++ rest_lines u
    ends y z = unfold old_ran in (ap (λ (v : Ran A × Tape). old_ran v.0 ++ rest_lines v.1) z)

module _ (s : Line) where
  -- what is left once the next live line is read
  join_rest : Line × ℕ → Unit {0} → Program Did
  join_rest y v = ◌>>=◌ (◌>>=◌ (see after_of) (λ after. or_stop n30 (first_live (drop 1 after)))) (λ m. write_joined (y.0 ++ (s ++ m)) y.1)

  write-still : (l : Line) (q : ℕ) → Still (write_joined l q)
  unfolding write_joined ◌>>◌
  write-still l q = still-then (stop_if n25 (ltb 255 (length l))) (λ v. gives (changes (retext l q ∷ strike_next ∷ []))) (test (ltb 255 (length l))) (λ v. unfold Still in tt)
    where
      test : (x : Bool) → Still (stop_if n25 x)
      test true = unfold stop_if Still in tt
      test false = unfold stop_if Still in tt

  rest-still : (y : Line × ℕ) (v : Unit {0}) → Still (join_rest y v)
  unfolding join_rest
  rest-still y v =
      still-then (◌>>=◌ (see after_of) (λ after. or_stop n30 (first_live (drop 1 after)))) (λ m. write_joined (y.0 ++ (s ++ m)) y.1)
      (still-then (see after_of) (λ after. or_stop n30 (first_live (drop 1 after))) (unfold see Still in (λ e. tt)) (λ after. next (first_live (drop 1 after)))) (λ m. write-still (y.0 ++ (s ++ m)) y.1)
    where
      next : (o : Option Line) → Still (or_stop n30 o)
      next none = unfold or_stop Still in tt
      next (some l) = unfold or_stop Still in tt

  join-calm : (isWord : ℕ → Bool) → Calm (program isWord (Op.join s))
  unfolding program write_joined ◌>>◌ Calm
  join-calm isWord =
      calm-then (line_or n20) (λ y. ◌>>=◌ next_or30 (λ m. write_joined (y.0 ++ (s ++ m)) y.1))
      (λ y. calm-then next_or30 (λ m. write_joined (y.0 ++ (s ++ m)) y.1) (λ m. calm-then (stop_if n25 (ltb 255 (length (y.0 ++ (s ++ m))))) (λ v. gives (changes (retext (y.0 ++ (s ++ m)) y.1 ∷ strike_next ∷ []))) (λ v. tt)))

  -- where a line is current, the next live line is read
  join_runs : (isWord : ℕ → Bool) (g : Given) (c : Carried) (e : Ed) (t : Tape) → HasLine e → runs g c (program isWord (Op.join s)) e t ≡ runs g c (◌>>=◌ (read_past 1) (join_rest (current_line e, point_of e))) e t
  unfolding program join_rest next_or30 ◌>>◌
  join_runs isWord g c e t h =
      let l : Line = current_line e in
      let p : ℕ = point_of e in
      line-runs g c n20 (λ y. ◌>>=◌ next_or30 (λ m. write_joined (y.0 ++ (s ++ m)) y.1)) e t h
      ∙ runs-assoc g c (λ v. ◌>>=◌ (see after_of) (λ after. or_stop n30 (first_live (drop 1 after)))) (λ m. write_joined (l ++ (s ++ m)) p) (read_past 1) e t

  module _ {table j : List ℕ} {st : State} (c : Carried) (e : Ed) (t : Tape) (h : ShowsOf table j st e t) where
    -- EOF is current
    pub join-eof : length j ≤ st.back → Answered j (stopping AtEof st) (step (lent j) (Op.join s) (state e c) t)
    unfolding step words_in program stop_number
    join-eof end = perform-no-line (lent j) c n20 (λ y. ◌>>=◌ next_or30 (λ m. write_joined (y.0 ++ (s ++ m)) y.1)) e t h.shows AtEof refl end

    module _ (more : st.back < length j) (i : List ℕ) {m : Moved} {s' : State} (w : Came i m (runs (lent j) c (read_past 1) e t)) where
      -- the next live line cannot be read
      pub join-unread : {n : Stop} → m ≡ stopping n s' → Answered i m (step (lent j) (Op.join s) (state e c) t)
      unfolding step words_in
      join-unread {n} q = rw q (perform-stop (lent j) c (program (words_of c) (Op.join s)) e t i n s' (halts (rw q at w)))
        where
          halts : Came i (stopping n s') (runs (lent j) c (read_past 1) e t) → Came i (stopping n s') (runs (lent j) c (program (words_of c) (Op.join s)) e t)
          halts v = rw (join_runs (words_of c) (lent j) c e t (line-here e t h.shows more)) (then-stop (lent j) c (read_past 1) (join_rest (current_line e, point_of e)) e t i n s' v)

      -- the text is shown that it came to, of the same table
      pub join-shown : m ≡ Ok s' → ShownOf table i s'
      join-shown q = by (went (runs (lent j) c (read_past 1) e t) (rw q at w))
        where
          by : Went i s' (runs (lent j) c (read_past 1) e t) → ShownOf table i s'
          by v = (v.text, v.tape, record { shows = v.shows; old = part-table j c (read_past 1) e t v.text v.tape h.old v.is })

      -- it is read: the rest is as where no global stands
      pub join-read : (k : List ℕ) (r : Moved) → m ≡ Ok s' → length i ≡ length j → Joins table i s' s k r → Answered k r (step (lent j) (Op.join s) (state e c) t)
      unfolding step words_in
      join-read k r q long plain = by (went (runs (lent j) c (read_past 1) e t) (rw q at w))
        where
          same : (x : Ed) (u : Tape) → runs (lent j) c (read_past 1) e t ≡ (gave tt x, u) → runs (lent j) c (program (words_of c) (Op.join s)) e t ≡ runs (lent j) no_globals (program (words_of c) (Op.join s)) x u
          same x u z =
              let has : HasLine e = line-here e t h.shows more in
              let a : Added e t x u = past-added (lent j) c 1 e t z in
              join_runs (words_of c) (lent j) c e t has ∙ ahead-first (lent j) c e t has z no_globals (join_rest (current_line e, point_of e)) (rest-still (current_line e, point_of e))
              ∙ ap (λ (y : Line × ℕ). runs (lent j) no_globals (◌>>=◌ (read_past 1) (join_rest y)) x u) (sym (line_same a has)) ∙ sym (join_runs (words_of c) (lent j) no_globals x u (line_stays a has))

          by : Went i s' (runs (lent j) c (read_past 1) e t) → Answered k r (perform (lent j) (program (words_of c) (Op.join s)) (state e c) t)
          by v =
              answers-first (lent j) c (program (words_of c) (Op.join s)) (join-calm (words_of c)) e t v.text v.tape k r (same v.text v.tape v.is)
              (unfold step words_in program in (rw (lent_same j i long) at (plain v.text v.tape (record { shows = v.shows; old = part-table j c (read_past 1) e t v.text v.tape h.old v.is }))))
