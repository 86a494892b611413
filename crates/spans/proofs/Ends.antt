-- What `span_end` answers: where the records end that D and R take, or their stop. Assumes nothing.
use mathlib.Core.Path.{◌≡◌, refl, sym, ap, ◌∙◌}
use mathlib.Core.Bool.{true}
use mathlib.Core.Logic.{◌⊎◌, inl, inr}
use Prim.Native.Nat.{ℕ, suc, ◌+◌, ◌-◌, ◌≤◌, ◌<◌}
use native.Mathlib.Omega.{arith}
use mathlib.Core.List.{List, [], ◌∷◌, ◌++◌, map, reverse_aux, append-nil}
use lib.ListN.{length, drop, get_or}
use lib.Seq.{drop_at}
use lib.Dec.{leb}
use borrow.Author.Tests.{leb-true, ne_eqb, le-leb, lt-leb}
use Rattle.text.specs.Feeds.{line_length}
use Rattle.definitions.specs.Bytes.{Line}
use Rattle.definitions.specs.Journal.{Record, kept}
use Rattle.definitions.specs.Tape.{Tape, ended, rest_lines}
use Rattle.definitions.specs.Given.{Given, Carried, no_globals}
use Rattle.definitions.specs.Editor.{Ed, ed, before_of, after_of, records, sources, n20, n21, n23, n28, stop_number, Target, Through}
use Rattle.definitions.specs.Editor.{Stop as StopNumber}
use Rattle.definitions.specs.Reading.{Ran, gave, stopped}
use Rattle.definitions.specs.StepProgram.{Program, gives, stops, ◌>>=◌, ◌>>◌, runs}
use Rattle.definitions.specs.Edit.{stop_if, see, read_up_to, count_through, reach}
use Rattle.theorems.specs.GoodItems.{good_through}
use Rattle.theorems.specs.RecordLaws.{sources-reverse}
use Rattle.theorems.specs.Programs.{runs_on, runs-pass, runs-halt}
use Rattle.theorems.specs.ReadLines.{read_next, seen_all, read-line, read-eof}
use Rattle.editor.specs.Records.{enc_all}
use Rattle.editor.specs.Shows.{Shows, rest_of, CameTo, raised}
use Rattle.std.specs.Prelude.{Ok}
use Rattle.editor.specs.Stops.{numbered, stopping}
use Rattle.editor.specs.declared.Stop.{Stop}
use Rattle.editor.specs.declared.Stop.TheVariants.{AtEof, MetEof, LineDeleted, LineBefore}
use Rattle.editor.specs.declared.State.{State}
use Rattle.editor.proofs.Records.{both}
use Rattle.editor.proofs.Reading.{next-rest, line_read, reads-line, reads-eof}
use Rattle.editor.proofs.Parts.{shown-record, line_on, line-stop}
use Rattle.spans.specs.Spans.{through_of, reach_here, EndsAt, Found, FoundBy, SourceAt}
use Rattle.spans.proofs.Counting.{dead-at, live_at, after-at, count_none, count-append, count-within}
use Rattle.spans.proofs.Standing.{stands-held, stands-length, stands-mark, stands_on}

-- ---- how far, by its number

pub through-alone : (n : ℕ) → n ≡ 0 → through_of n ≡ Through.alone
unfolding through_of
through-alone n q = rw q

pub through-all : (n : ℕ) → n ≡ 65536 → through_of n ≡ Through.to_eof
unfolding through_of
through-all n q = rw q

pub through-line : (n : ℕ) → (n ≡ 0 → ⊥) → (n ≡ 65536 → ⊥) → through_of n ≡ Through.up_to n
unfolding through_of
through-line n p q = rw (ne_eqb n 0 p, ne_eqb n 65536 q)

-- a line number of a script stands for itself
pub through-number : (b : ℕ) → good_through (Through.up_to b) ≡ true → through_of b ≡ Through.up_to b
unfolding good_through
through-number b good =
    let x : (leb 1 b ≡ true) × (leb b 65535 ≡ true) = both (leb 1 b) (leb b 65535) good in
    through-line b (λ z. omega (arith, leb-true 1 b x.0)) (λ z. omega (arith, leb-true b 65535 x.1))

-- ---- what is found

abbrev FoundAt : List ℕ → Found → Ran ℕ × Tape → Type 0
FoundAt j r x = FoundBy j r x.0 x.1

found-to : {j : List ℕ} {end : ℕ} {s : State} {x : Ran ℕ × Tape} {n : ℕ} {e : Ed} {t : Tape} → x ≡ (gave n e, t) → Shows j s e t → EndsAt j end n e t → FoundAt j (Ok (end, s)) x
unfolding FoundBy
found-to q h w = rw q (h, w)

found-stop : {j : List ℕ} (m : Stop) {s : State} {x : Ran ℕ × Tape} {n : StopNumber} {e : Ed} {t : Tape} → x ≡ (stopped n e, t) → numbered m ≡ stop_number n → Shows j s e t → FoundAt j (stopping m s) x
unfolding FoundBy
found-stop m q same h = rw q (same, h)

module _ {j : List ℕ} {st : State} (g : Given) (e : Ed) (t : Tape) (h : Shows j st e t) where
  -- EOF is current
  pub finds-20 : (b : Through) → length j ≤ st.back → FoundAt j (stopping AtEof st) (runs g no_globals (reach_here b) e t)
  unfolding reach_here ◌>>◌ stop_number
  finds-20 b end = found-stop AtEof (line-stop g no_globals n20 (λ x. reach b) e t h end) refl h

  module _ (more : st.back < length j) where
    -- a line is: how far by its number
    here-is : (n : ℕ) {b : Through} → through_of n ≡ b → runs g no_globals (reach_here (through_of n)) e t ≡ runs g no_globals (reach b) e t
    unfolding reach_here ◌>>◌
    here-is n {b} q = rw q (line_on g no_globals n20 (λ x. reach b) e t h more)

-- ---- one line

alone-runs : (g : Given) (e : Ed) (t : Tape) → runs g no_globals (reach Through.alone) e t ≡ (gave 1 e, t)
unfolding reach runs
alone-runs g e t = refl

pub alone-ends : {j : List ℕ} {st : State} (e : Ed) (t : Tape) → Shows j st e t → st.back < length j → (end : ℕ) → end ≡ st.back + line_length (drop st.back j) → EndsAt j end 1 e t
unfolding before_of after_of
alone-ends (ed b [] p) t h more end is = absurd (shown-record b p t h more)
alone-ends (ed b (r ∷ a) p) t h more end is = record {
  within = omega arith;
  place = stands-length (stands_on (stands-held h.holds) end is);
}

pub finds-alone : {j : List ℕ} {st : State} (g : Given) (e : Ed) (t : Tape) → Shows j st e t → st.back < length j → (n : ℕ) → n ≡ 0
    → (end : ℕ) → end ≡ st.back + line_length (drop st.back j) → FoundAt j (Ok (end, st)) (runs g no_globals (reach_here (through_of n)) e t)
finds-alone g e t h more n z end is = found-to (here-is g e t h more n (through-alone n z) ∙ alone-runs g e t) h (alone-ends e t h more end is)

-- ---- all lines

all_runs : (g : Given) (e : Ed) (t : Tape)
    → runs g no_globals (reach Through.to_eof) e t ≡ (gave (length (after_of (seen_all (rest_lines t) e))) (seen_all (rest_lines t) e), ended)
unfolding reach see ◌>>◌ runs
all_runs g e t = runs_on g no_globals (λ u. see (λ x. length (after_of x))) (read_up_to Target.eof) e t (read-eof g e t)

all-ends : {j : List ℕ} (e : Ed) → EndsAt j (length j) (length (after_of e)) e ended
unfolding rest_lines enc_all
all-ends e = record {
  within = omega arith;
  place = rw (drop_at (after_of e) [] (length (after_of e)) refl) (omega arith);
}

pub finds-all : {j : List ℕ} {st s : State} (g : Given) (e : Ed) (t : Tape) → Shows j st e t → st.back < length j → (n : ℕ) → n ≡ 65536
    → s ≡ raised st (st.lines + 1) → FoundAt j (Ok ((length j), s)) (runs g no_globals (reach_here (through_of n)) e t)
unfolding CameTo
finds-all g e t h more n z is =
    found-to (here-is g e t h more n (through-all n z) ∙ all_runs g e t) (rw is (rw (read-eof g e t) at (reads-eof g e t h))) (all-ends (seen_all (rest_lines t) e))

-- ---- through a source line

-- what is left once b is known not to be before the current line, which stands after n source lines
unfoldable pub through_line : ℕ → ℕ → Program ℕ
through_line b n = do
  read_up_to (Target.line b)
  after ← see after_of
  count_through 0 (b - suc n) after

pub reach-is : (g : Given) (c : Carried) (m : ℕ) (e : Ed) (t : Tape)
    → runs g c (reach (Through.up_to m)) e t ≡ runs g c (◌>>◌ (stop_if n28 (leb m (sources (before_of e)))) (through_line m (sources (before_of e)))) e t
unfolding reach see through_line ◌>>◌ ◌>>=◌ runs
reach-is g c m e t = refl

past_is : {j : List ℕ} {st : State} (e : Ed) (t : Tape) → Shows j st e t → st.past ≡ sources (before_of e)
past_is e t h = h.holds.past

pub finds-28 : {j : List ℕ} {st : State} (g : Given) (e : Ed) (t : Tape) → Shows j st e t → st.back < length j → (n : ℕ) → (n ≡ 0 → ⊥) → (n ≡ 65536 → ⊥)
    → n ≤ st.past → FoundAt j (stopping LineBefore st) (runs g no_globals (reach_here (through_of n)) e t)
unfolding stop_number
finds-28 g e t h more n one all low =
    found-stop LineBefore (here-is g e t h more n (through-line n one all) ∙ reach-is g no_globals n e t ∙ runs-halt g no_globals n28 (leb n (sources (before_of e))) (through_line n (sources (before_of e))) e t (le-leb n (sources (before_of e)) (omega (arith, past_is e t h)))) refl h

module _ {j : List ℕ} {st s : State} (g : Given) (m : ℕ) (b a : List Record) (p : ℕ) (t : Tape) (h : Shows j st (ed b a p) t) (is : s ≡ raised st m) (past : sources b < m) where
  abbrev x : List Line × Tape
  x = read_next (m - sources (records (ed b a p))) t

  -- the records from the current one on, once the line is read, and the text
  abbrev A : List Record
  A = a ++ map kept x.0

  abbrev E : Ed
  E = ed b A p

  abbrev K : ℕ
  K = m - suc (sources b)

  through-runs : runs g no_globals (reach (Through.up_to m)) (ed b a p) t ≡ runs g no_globals (count_through 0 K A) E x.1
  unfolding before_of after_of seen_all through_line see ◌>>◌ ◌>>=◌ runs
  through-runs =
      reach-is g no_globals m (ed b a p) t ∙ runs-pass g no_globals n28 (leb m (sources b)) (through_line m (sources b)) (ed b a p) t (lt-leb m (sources b) past)
      ∙ runs_on g no_globals (λ u. ◌>>=◌ (see after_of) (λ after. count_through 0 K after)) (read_up_to (Target.line m)) (ed b a p) t (read-line g m (ed b a p) t)

  read-shows : Shows j s E x.1
  unfolding CameTo seen_all
  read-shows = rw is (rw (read-line g m (ed b a p) t) at (reads-line g (ed b a p) t h m))

  -- the count among the records that are read is that among all
  count-whole : count_through 0 K A ≡ count_through 0 K (a ++ map kept (rest_lines t))
  unfolding records
  count-whole = by (line_read m E x.1 read-shows (omega arith) (rw is (omega arith)))
    where
      U : List Record
      U = map kept (rest_lines x.1)

      by : (m - 1 < sources (reverse_aux b A)) ⊎ (U ≡ []) → count_through 0 K A ≡ count_through 0 K (a ++ map kept (rest_lines t))
      by (inl l) = sym (count-append 0 K A U (omega (arith, sources-reverse b A))) ∙ ap (count_through 0 K) (next-rest (m - sources (records (ed b a p))) a t)
      by (inr q) = ap (count_through 0 K) (sym (append-nil A) ∙ ap (λ (z : List Record). A ++ z) (sym q) ∙ next-rest (m - sources (records (ed b a p))) a t)

  line-stops : (i : Stop) (n : StopNumber) → numbered i ≡ stop_number n → count_through 0 K (a ++ map kept (rest_lines t)) ≡ stops n → FoundAt j (stopping i s) (runs g no_globals (reach (Through.up_to m)) (ed b a p) t)
  unfolding runs
  line-stops i n number q = found-stop i (through-runs ∙ ap (λ (z : Program ℕ). runs g no_globals z E x.1) (count-whole ∙ q)) number read-shows

  line-21 : st.lines < m → FoundAt j (stopping MetEof s) (runs g no_globals (reach (Through.up_to m)) (ed b a p) t)
  unfolding stop_number before_of after_of
  line-21 fewer = line-stops MetEof n21 refl (count_none 0 K (a ++ map kept (rest_lines t)) (omega (arith, h.holds.lines)))

  module _ (last : ℕ) (w : SourceAt j last K (a ++ map kept (rest_lines t))) where
    line-23 : get_or j last 0 ≡ 45 → FoundAt j (stopping LineDeleted s) (runs g no_globals (reach (Through.up_to m)) (ed b a p) t)
    unfolding stop_number
    line-23 dead =
        line-stops LineDeleted n23 refl (ap (count_through 0 K) (sym w.same) ∙ dead-at K w.passed w.this w.after w.count (sym (stands-mark w.stands) ∙ dead))

    line-ends : (get_or j last 0 ≡ 45 → ⊥) → (end : ℕ) → end ≡ last + line_length (drop last j) → FoundAt j (Ok (end, s)) (runs g no_globals (reach (Through.up_to m)) (ed b a p) t)
    unfolding runs after_of
    line-ends live end to =
        let v : ℕ = suc (length w.passed) in
        let many : count_through 0 K A ≡ gives v =
        count-whole ∙ ap (count_through 0 K) (sym w.same) ∙ live_at K w.passed w.this w.after w.count (λ q. live (stands-mark w.stands ∙ q)) w.source in
        found-to (through-runs ∙ ap (λ (z : Program ℕ). runs g no_globals z E x.1) many) read-shows
        (record {
          within = omega (arith, count-within 0 K A v many);
          place = rw (place_is v refl) (stands-length (stands_on w.stands end to));
        })
      where
        place_is : (v : ℕ) → v ≡ suc (length w.passed) → drop v (A ++ map kept (rest_lines x.1)) ≡ w.after
        place_is v q =
            ap (λ (z : List Record). drop v z) (next-rest (m - sources (records (ed b a p))) a t ∙ sym w.same) ∙ ap (λ (i : ℕ). drop i (reverse_aux w.passed (w.this ∷ w.after))) q
            ∙ after-at w.passed w.this w.after

module _ {j : List ℕ} {st s : State} (g : Given) (e : Ed) (t : Tape) (h : Shows j st e t) (more : st.back < length j) (n : ℕ) (one : n ≡ 0 → ⊥) (all : n ≡ 65536 → ⊥)
    (is : s ≡ raised st n) (past : st.past < n) where
  by-line : (r : Found) → FoundAt j r (runs g no_globals (reach (Through.up_to n)) e t) → FoundAt j r (runs g no_globals (reach_here (through_of n)) e t)
  by-line r w = rw (here-is g e t h more n (through-line n one all)) w

  pub finds-21 : st.lines < n → FoundAt j (stopping MetEof s) (runs g no_globals (reach_here (through_of n)) e t)
  unfolding before_of
  finds-21 fewer = by-line (stopping MetEof s) (at e h)
    where
      at : (e : Ed) → Shows j st e t → FoundAt j (stopping MetEof s) (runs g no_globals (reach (Through.up_to n)) e t)
      at (ed b a p) h = line-21 g n b a p t h is (omega (arith, h.holds.past)) fewer

  module _ (last : ℕ) (w : SourceAt j last (n - suc (sources (before_of e))) (rest_of e t)) where
    pub finds-23 : get_or j last 0 ≡ 45 → FoundAt j (stopping LineDeleted s) (runs g no_globals (reach_here (through_of n)) e t)
    unfolding before_of after_of
    finds-23 dead = by-line (stopping LineDeleted s) (at e h w)
      where
        at : (e : Ed) → Shows j st e t → SourceAt j last (n - suc (sources (before_of e))) (rest_of e t) → FoundAt j (stopping LineDeleted s) (runs g no_globals (reach (Through.up_to n)) e t)
        at (ed b a p) h w = line-23 g n b a p t h is (omega (arith, h.holds.past)) last w dead

    pub finds-through : (get_or j last 0 ≡ 45 → ⊥) → (end : ℕ) → end ≡ last + line_length (drop last j) → FoundAt j (Ok (end, s)) (runs g no_globals (reach_here (through_of n)) e t)
    unfolding before_of after_of
    finds-through live end to = by-line (Ok (end, s)) (at e h w)
      where
        at : (e : Ed) → Shows j st e t → SourceAt j last (n - suc (sources (before_of e))) (rest_of e t) → FoundAt j (Ok (end, s)) (runs g no_globals (reach (Through.up_to n)) e t)
        at (ed b a p) h w = line-ends g n b a p t h is (omega (arith, h.holds.past)) last w live end to
