-- The commands come to what the definitions say. Assumes nothing.
use mathlib.Core.Path.{◌≡◌, refl, sym, ap, ◌∙◌}
use mathlib.Core.Bool.{Bool, true, false}
use Prim.Native.Nat.{ℕ, suc, ◌+◌, ◌-◌, ◌≤◌, ◌<◌}
use native.Mathlib.Omega.{arith}
use native.Mathlib.Numerals.{add-one}
use mathlib.Core.List.{List, [], ◌∷◌}
use lib.ListN.{length, take, get_or}
use lib.Seq.{take_all}
use lib.Dec.{eqb}
use borrow.Author.Tests.{eq-eqb, ne_eqb}
use Rattle.definitions.specs.Bytes.{Line, all_text}
use Rattle.definitions.specs.Tape.{Tape}
use Rattle.definitions.specs.Given.{Carried, no_globals, words_of}
use Rattle.definitions.specs.Editor.{Ed, n20, n27, stop_number, point_to}
use Rattle.definitions.specs.StepProgram.{Program, ◌>>=◌, ◌>>◌, runs, state, Did, perform}
use Rattle.definitions.specs.Matching.{Qualified, Match, matched}
use Rattle.definitions.specs.Edit.{Op, Change, after_it, before_it, exchange, stop_if, go, goes_on, line_or, match_or24, byte_here, write, splice, altered, altered_point, point_by, cased, recased, program, step}
use Rattle.theorems.specs.Programs.{runs-halt, runs-pass}
use Rattle.theorems.specs.Words.{step-by-words}
use Rattle.editor.specs.Shows.{Shows, point_of, lent, Answered, at_point}
use Rattle.editor.specs.Current.{current_line, Ready, ShowsOf, ShownOf, PerformsOf, IsReady}
use Rattle.editor.specs.declared.State.{State}
use Rattle.std.specs.Prelude.{Result, Ok, Err}
use Rattle.editor.specs.Stops.{Moved, stopping}
use Rattle.editor.specs.declared.Stop.TheVariants.{AtEof, PointAtEnd}
use Rattle.editor.specs.declared.Stop.{Stop}
use Rattle.editor.proofs.Parts.{perform-as, perform-stop, perform-line, perform-no-line, came-stop, goes_on_lem}
use Rattle.editor.proofs.Moving.{point-on}
use Rattle.editor.proofs.CurrentText.{shown-short}
use Rattle.changes.specs.declared.Change.{Change as ChangeHere}
use Rattle.changes.specs.declared.Change.TheVariants.{After, Before, Exchange}
use Rattle.changes.specs.Current.{byte_at, match_at, ByteIs, MatchIs, Sights, Finds, PerformsTold, AtLine, HasLine, Writes, Alters, change_of}
use Rattle.changes.proofs.Casing.{cased-one}
use Rattle.changes.proofs.Splicing.{shown-text}
use Rattle.changes.proofs.Looking.{ByteOn, byte-on, byte-stop, MatchOn, match-on, match-stop}

-- p is set, and the run goes on
point-goes : {j : List ℕ} {st : State} (c : Carried) (q : ℕ) (e : Ed) (t : Tape) → Shows j st e t → Answered j (Ok (at_point st q)) (perform (lent j) (◌>>◌ (go (point_to q)) goes_on) (state e c) t)
point-goes {j} {st} c q e t h = goes_on_lem (lent j) c (go (point_to q)) e t j (Ok (at_point st q)) (point-on (lent j) c q e t h)

-- ---- PR and <

module _ {j : List ℕ} {st : State} (c : Carried) (e : Ed) (t : Tape) (h : Shows j st e t) where
  pub start-eof : length j ≤ st.back → Answered j (stopping AtEof st) (step (lent j) Op.point_start (state e c) t)
  unfolding step program ◌>>◌ stop_number
  start-eof end = perform-no-line (lent j) c n20 (λ x. ◌>>=◌ (go (point_to 0)) (λ a. goes_on)) e t h AtEof refl end

  pub start-on : st.back < length j → (r : Moved) → r ≡ Ok (at_point st 0) → Answered j r (step (lent j) Op.point_start (state e c) t)
  unfolding step program ◌>>◌
  start-on more r q = rw (perform-line (lent j) c n20 (λ x. ◌>>=◌ (go (point_to 0)) (λ a. goes_on)) e t h more, q) (point-goes c 0 e t h)

  pub left-eof : length j ≤ st.back → Answered j (stopping AtEof st) (step (lent j) Op.left (state e c) t)
  unfolding step program stop_number
  left-eof end = perform-no-line (lent j) c n20 (λ x. ◌>>◌ (stop_if n27 (eqb x.1 0)) (◌>>◌ (go (point_to (x.1 - 1))) goes_on)) e t h AtEof refl end

  module _ (more : st.back < length j) where
    left_step : step (lent j) Op.left (state e c) t ≡ perform (lent j) (◌>>◌ (stop_if n27 (eqb (point_of e) 0)) (◌>>◌ (go (point_to (point_of e - 1))) goes_on)) (state e c) t
    unfolding step program
    left_step = perform-line (lent j) c n20 (λ x. ◌>>◌ (stop_if n27 (eqb x.1 0)) (◌>>◌ (go (point_to (x.1 - 1))) goes_on)) e t h more

    pub left-start : st.p ≡ 0 → Answered j (stopping PointAtEnd st) (step (lent j) Op.left (state e c) t)
    unfolding stop_number
    left-start z =
        let m : Program Did = ◌>>◌ (go (point_to (point_of e - 1))) goes_on in
        rw left_step
        (perform-stop (lent j) c (◌>>◌ (stop_if n27 (eqb (point_of e) 0)) m) e t j PointAtEnd st
        (came-stop PointAtEnd (runs-halt (lent j) c n27 (eqb (point_of e) 0) m e t (eq-eqb (point_of e) 0 (sym h.p ∙ z))) refl h))

    pub left-on : (st.p ≡ 0 → ⊥) → (r : Moved) → r ≡ Ok (at_point st (st.p - 1)) → Answered j r (step (lent j) Op.left (state e c) t)
    left-on z r q =
        let m : Program Did = ◌>>◌ (go (point_to (point_of e - 1))) goes_on in
        rw (left_step, perform-as (lent j) c (◌>>◌ (stop_if n27 (eqb (point_of e) 0)) m) m e e t t (runs-pass (lent j) c n27 (eqb (point_of e) 0) m e t (ne_eqb (point_of e) 0 (λ s. z (h.p ∙ s)))), q, h.p)
        (point-goes c (point_of e - 1) e t h)

-- ---- a line that is long enough

pub at_less : {table j : List ℕ} {st : State} {v : ℕ} (w : ℕ) (e : Ed) (t : Tape) → w ≤ v → AtLine table j st v e t → AtLine table j st w e t
at_less w e t le h = record { text = h.text; more = h.more; long = omega (arith, le, h.long) }

pub has-less : {table j : List ℕ} {st : State} {v : ℕ} (w : ℕ) → w ≤ v → HasLine table j st v → HasLine table j st w
has-less w le (e, t, h) = (e, t, at_less w e t le h)

-- no line is longer than 255
pub has_short : {table j : List ℕ} {st : State} {v : ℕ} → HasLine table j st v → v ≤ 255
has_short (e, t, h) = omega (arith, h.long, shown-short e t h.text.shows)

-- ---- the commands that look at the byte at p

module _ {table j : List ℕ} {st : State} (b : Result ℕ Stop) (sees : Sights table j st b) where
  -- it is not there
  byte-stops : (m : Stop) → b ≡ Err m → (k : Line × ℕ → Program Did) (e : Ed) (c : Carried) (t : Tape) → ShowsOf table j st e t
      → Answered j (stopping m st) (perform (lent j) (◌>>=◌ byte_here k) (state e c) t)
  unfolding ByteIs
  byte-stops m q k e c t w =
      let x : ByteIs (Err m) e t (runs (lent j) c byte_at e t) = rw q at (sees e c t w) in
      perform-stop (lent j) c (◌>>=◌ byte_here k) e t j m st (came-stop m (byte-stop (lent j) c k t e x.0 x.2) x.1 w.shows)

  pub right-stop : (m : Stop) → b ≡ Err m → PerformsOf table j st Op.right j (stopping m st)
  unfolding step program
  right-stop m q = byte-stops m q (λ x. ◌>>◌ (go (point_to (suc x.1))) goes_on)

  pub cut-stop : (m : Stop) → b ≡ Err m → PerformsOf table j st Op.cut_byte j (stopping m st)
  unfolding step program
  cut-stop m q = byte-stops m q (λ x. write (splice x.0 x.1 1 []) x.1)

  pub recase-stop : (up : Bool) (m : Stop) → b ≡ Err m → PerformsOf table j st (Op.recase up) j (stopping m st)
  unfolding step program
  recase-stop up m q = byte-stops m q (λ x. write (recased up x.0 x.1) (suc x.1))

  -- it is v
  module _ (v : ℕ) (q : b ≡ Ok v) where
    found : (k : Line × ℕ → Program Did) (e : Ed) (c : Carried) (t : Tape) → ShowsOf table j st e t → ByteOn (lent j) c k e t v
    unfolding ByteIs
    found k e c t w = byte-on (lent j) c k t e v (rw q at (sees e c t w))

    byte-goes : (k : Line × ℕ → Program Did) (e : Ed) (c : Carried) (t : Tape) → ShowsOf table j st e t
        → perform (lent j) (◌>>=◌ byte_here k) (state e c) t ≡ perform (lent j) (k (current_line e, point_of e)) (state e c) t
    byte-goes k e c t w = perform-as (lent j) c (◌>>=◌ byte_here k) (k (current_line e, point_of e)) e e t t (found k e c t w).same

    at_byte : (e : Ed) (t : Tape) → ShowsOf table j st e t → AtLine table j st (st.p + 1) e t
    at_byte e t w =
        let f : ByteOn (lent j) no_globals (λ x. goes_on) e t v = found (λ x. goes_on) e no_globals t w in
        record { text = w; more = f.more j st w.shows; long = omega (arith, f.inside, w.shows.p) }

    pub has-byte : ShownOf table j st → HasLine table j st (st.p + 1)
    has-byte (e, t, w) = (e, t, at_byte e t w)

    -- the byte in the other case is of text
    pub recase-text : (up : Bool) (x : ℕ) → x ≡ cased up v → ShownOf table j st → all_text (take 1 (x ∷ [])) ≡ true
    recase-text up x s (e, t, w) =
        let f : ByteOn (lent j) no_globals (λ x. goes_on) e t v = found (λ x. goes_on) e no_globals t w in
        cased-one up (current_line e) (point_of e) v x (shown-text e t w.shows) f.inside f.is s

    pub right-on : (r : Moved) → r ≡ Ok (at_point st (st.p + 1)) → PerformsOf table j st Op.right j r
    unfolding step program
    right-on r s e c t w =
        rw (byte-goes (λ x. ◌>>◌ (go (point_to (suc x.1))) goes_on) e c t w, s, w.shows.p, add-one (point_of e)) (point-goes c (suc (point_of e)) e t w.shows)

    pub cut_on : (k : List ℕ) (m : Moved) → Writes table j st (st.p + 1) (λ l. splice l st.p 1 []) st.p k m → PerformsOf table j st Op.cut_byte k m
    unfolding step program
    cut_on k m did e c t w =
        rw (byte-goes (λ x. write (splice x.0 x.1 1 []) x.1) e c t w, ← w.shows.p) (did e c t (at_byte e t w))

    pub recase-on : (up : Bool) (x : ℕ) → x ≡ cased up v → (k : List ℕ) (m : Moved)
        → Writes table j st (st.p + 1) (λ l. splice l st.p 1 (take 1 (x ∷ []))) (st.p + 1) k m → PerformsOf table j st (Op.recase up) k m
    unfolding step program recased
    recase-on up x s k m did e c t w =
        let y : x ≡ cased up (get_or (current_line e) (point_of e) 0) = s ∙ ap (cased up) (found (λ x. goes_on) e c t w).is in
        rw (byte-goes (λ x. write (recased up x.0 x.1) (suc x.1)) e c t w, ← y, ← w.shows.p, ← add-one st.p) (did e c t (at_byte e t w))

-- ---- the commands that look for a string

-- PA, PB; A, B, E, AP, BP, EP
pointing-to : Bool → Line × ℕ → Match → Program Did
pointing-to after x m = ◌>>◌ (go (point_to (point_by after m.place m.width))) goes_on

altering : Change → Bool → Line → Line × ℕ → Match → Program Did
altering ch pointing new x m = write (altered ch x.0 m.place m.width new) (altered_point ch pointing x.1 m.place m.width (length new))

-- the step, told which bytes count for W
pub told : (isWord : ℕ → Bool) (j : List ℕ) (op : Op) (k : List ℕ) (r : Moved) (e : Ed) (c : Carried) (t : Tape) → isWord ≡ words_of c
    → Answered k r (perform (lent j) (program isWord op) (state e c) t) → Answered k r (step (lent j) op (state e c) t)
told isWord j op k r e c t same h = step-by-words (λ x. Answered k r x) (lent j) op isWord e c t same h

module _ (isWord : ℕ → Bool) {table j : List ℕ} {st : State} (q : Qualified) (o : Result (ℕ × ℕ) Stop) (finds : Finds isWord table j st q o) where
  -- it is not there
  pub match-stops : (n : Stop) → o ≡ Err n → (k : Line × ℕ → Match → Program Did) (e : Ed) (c : Carried) (t : Tape) → Ready table j st e t
      → Answered j (stopping n st) (perform (lent j) (◌>>=◌ (line_or n20) (λ x. ◌>>=◌ (match_or24 isWord q x.0 x.1) (k x))) (state e c) t)
  unfolding MatchIs
  match-stops n is k e c t w =
      let x : MatchIs (Err n) e t (runs (lent j) c (match_at isWord q) e t) = rw is at (finds e c t w) in
      perform-stop (lent j) c (◌>>=◌ (line_or n20) (λ x. ◌>>=◌ (match_or24 isWord q x.0 x.1) (k x))) e t j n st (came-stop n (match-stop (lent j) c isWord q k t e x.0 x.2) x.1 w.shows)

  pub point-stop : (after : Bool) (n : Stop) → o ≡ Err n → PerformsTold isWord table j st (Op.point after q) j (stopping n st)
  unfolding program pointing-to
  point-stop after n is e c t same w = told isWord j (Op.point after q) j (stopping n st) e c t same (match-stops n is (pointing-to after) e c t w)

  pub alter-stop : (ch : Change) (pointing : Bool) (new : Line) (n : Stop) → o ≡ Err n → PerformsTold isWord table j st (Op.alter ch pointing q new) j (stopping n st)
  unfolding program altering
  alter-stop ch pointing new n is e c t same w = told isWord j (Op.alter ch pointing q new) j (stopping n st) e c t same (match-stops n is (altering ch pointing new) e c t w)

  -- its match has n bytes at place i
  module _ (i n : ℕ) (is : o ≡ Ok (i, n)) where
    here : (k : Line × ℕ → Match → Program Did) (e : Ed) (c : Carried) (t : Tape) → Ready table j st e t → MatchOn (lent j) c isWord q k e t (matched i n)
    unfolding MatchIs
    here k e c t w = match-on (lent j) c isWord q k t e (matched i n) (rw is at (finds e c t w))

    pub match-goes : (k : Line × ℕ → Match → Program Did) (e : Ed) (c : Carried) (t : Tape) → Ready table j st e t
        → perform (lent j) (◌>>=◌ (line_or n20) (λ x. ◌>>=◌ (match_or24 isWord q x.0 x.1) (k x))) (state e c) t
        ≡ perform (lent j) (k (current_line e, point_of e) (matched i n)) (state e c) t
    match-goes k e c t w =
        perform-as (lent j) c (◌>>=◌ (line_or n20) (λ x. ◌>>=◌ (match_or24 isWord q x.0 x.1) (k x))) (k (current_line e, point_of e) (matched i n)) e e t t (here k e c t w).same

    pub at-match : (e : Ed) (t : Tape) → Ready table j st e t → AtLine table j st (i + n) e t
    at-match e t w =
        let f : MatchOn (lent j) no_globals isWord q (λ x m. goes_on) e t (matched i n) = here (λ x m. goes_on) e no_globals t w in
        record { text = record { shows = w.shows; old = w.old }; more = f.more j st w.shows; long = f.inside w.point }

    pub has-match : IsReady table j st → HasLine table j st (i + n)
    has-match (e, t, w) = (e, t, at-match e t w)

    pub point-found : (after : Bool) (r : Moved) (p : ℕ) → p ≡ point_by after i n → r ≡ Ok (at_point st p) → PerformsTold isWord table j st (Op.point after q) j r
    unfolding program pointing-to
    point-found after r p z s e c t same w =
        told isWord j (Op.point after q) j r e c t same (rw (match-goes (pointing-to after) e c t w, ← z, s) (point-goes c p e t w.shows))

    pub alter-found : (ch : Change) (pointing : Bool) (new : Line) (k : List ℕ) (m : Moved)
        → Writes table j st (i + n) (λ l. altered ch l i n new) (altered_point ch pointing st.p i n (length new)) k m
        → PerformsTold isWord table j st (Op.alter ch pointing q new) k m
    unfolding program altering
    alter-found ch pointing new k m did e c t same w =
        told isWord j (Op.alter ch pointing q new) k m e c t same (rw (match-goes (altering ch pointing new) e c t w, ← w.shows.p) (did e c t (at-match e t w)))

-- ---- by the kind of change

pub point-after-by : (after : Bool) (i n : ℕ) → after ≡ true → i + n ≡ point_by after i n
unfolding point_by
point-after-by after i n e = rw e

pub point-before-by : (after : Bool) (i n : ℕ) → after ≡ false → i ≡ point_by after i n
unfolding point_by
point-before-by after i n e = rw e

changes-after : (k : ChangeHere) → k ≡ After → change_of k ≡ after_it
unfolding change_of
changes-after k z = rw z

changes-before : (k : ChangeHere) → k ≡ Before → change_of k ≡ before_it
unfolding change_of
changes-before k z = rw z

exchanges : (k : ChangeHere) → k ≡ Exchange → change_of k ≡ exchange
unfolding change_of
exchanges k z = rw z

module _ (change : ChangeHere) (pointing : Bool) (i n m p : ℕ) where
  pub not-pointing : pointing ≡ false → p ≡ altered_point (change_of change) pointing p i n m
  unfolding altered_point
  not-pointing e = rw e

  pub point-past-after : pointing ≡ true → change ≡ After → i + n + m ≡ altered_point (change_of change) pointing p i n m
  unfolding altered_point change_of
  point-past-after e z = rw (e, z)

  pub point-past-before : pointing ≡ true → change ≡ Before → i + n + m ≡ altered_point (change_of change) pointing p i n m
  unfolding altered_point change_of
  point-past-before e z = rw (e, z)

  pub point-exchanged : pointing ≡ true → change ≡ Exchange → i + m ≡ altered_point (change_of change) pointing p i n m
  unfolding altered_point change_of
  point-exchanged e z = rw (e, z)

all_new : (new : Line) → take (length new) new ≡ new
all_new new = take_all (length new) new (omega arith)

pub whole-text : (l : Line) → all_text l ≡ true → all_text (take (length l) l) ≡ true
whole-text l h = rw (all_new l) h

module _ {table j : List ℕ} {st : State} (change : ChangeHere) (pointing : Bool) (i n q : ℕ) (new k : List ℕ) (x : Moved) (point : q ≡ altered_point (change_of change) pointing st.p i n (length new)) where
  -- where the text is one for the kind of change
  altered-by : (ch : Change) → change_of change ≡ ch → (w : ℕ) → w ≤ i + n → (f : Line → Line) → ((l : Line) → f l ≡ altered ch l i n new)
      → Writes table j st w f q k x → Alters table j st change pointing i n new k x
  altered-by ch z w le f same did e c t h =
      rw (← point, z, ← same (current_line e)) (did e c t (at_less w e t le h))

  pub altered-after : change ≡ After → Writes table j st (i + n + 0) (λ l. splice l (i + n) 0 (take (length new) new)) q k x
      → Alters table j st change pointing i n new k x
  altered-after z did = altered-by after_it (changes-after change z) (i + n + 0) (omega arith) (λ l. splice l (i + n) 0 (take (length new) new)) (λ l. unfold altered in (rw (all_new new))) did

  pub altered-before : change ≡ Before → Writes table j st (i + 0) (λ l. splice l i 0 (take (length new) new)) q k x
      → Alters table j st change pointing i n new k x
  altered-before z did = altered-by before_it (changes-before change z) (i + 0) (omega arith) (λ l. splice l i 0 (take (length new) new)) (λ l. unfold altered in (rw (all_new new))) did

  pub altered-exchange : change ≡ Exchange → Writes table j st (i + n) (λ l. splice l i n (take (length new) new)) q k x
      → Alters table j st change pointing i n new k x
  altered-exchange z did = altered-by exchange (exchanges change z) (i + n) (omega arith) (λ l. splice l i n (take (length new) new)) (λ l. unfold altered in (rw (all_new new))) did
