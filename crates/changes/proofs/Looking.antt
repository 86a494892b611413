-- A look at the current line: the byte at p, the match of a string. Assumes nothing.
use Rattle.std.specs.Prelude as Prelude
use Rattle.std.specs.Prelude.{Some, None}
use mathlib.Core.Path.{◌≡◌, refl, sym, ap, ◌∙◌}
use mathlib.Core.Bool.{Bool, true, false, true≢false}
use mathlib.Core.Option.{Option, none, some}
use Prim.Native.Nat.{ℕ, ◌+◌, ◌≤◌, ◌<◌}
use native.Mathlib.Omega.{arith}
use mathlib.Core.List.{List, [], ◌∷◌}
use lib.ListN.{length, get_or}
use lib.Dec.{leb}
use borrow.Author.Tests.{le-leb, lt-leb, leb-true, leb-false}
use Rattle.definitions.specs.Bytes.{Line}
use Rattle.definitions.specs.Journal.{Record}
use Rattle.definitions.specs.Tape.{Tape}
use Rattle.definitions.specs.Given.{Given, Carried}
use Rattle.definitions.specs.Editor.{Ed, ed, current, n20, n24, n27, stop_number}
use Rattle.definitions.specs.Editor.{Stop as StopNumber}
use Rattle.definitions.specs.Reading.{Ran, gave, stopped}
use Rattle.definitions.specs.StepProgram.{Program, gives, ◌>>=◌, ◌>>◌, runs}
use Rattle.definitions.specs.Matching.{Qualified, Match, matched, match_of}
use Rattle.definitions.specs.Edit.{stop_if, or_stop, line_in, line_or, match_or24, byte_here}
use Rattle.theorems.proofs.Places.{match-inside}
use Rattle.taking.specs.Ways.{found_of}
use Rattle.taking.specs.declared.Found.{Found}
use Rattle.editor.specs.Shows.{Shows, point_of, lent}
use Rattle.editor.specs.Current.{current_line, PointIn, TableOf, Ready, IsReady}
use Rattle.editor.specs.declared.State.{State}
use Rattle.editor.proofs.Parts.{shown-record, shown-eof}
use Rattle.editor.proofs.CurrentText.{line-window, shown-short}
use Rattle.std.specs.Prelude.{Ok, Err}
use Rattle.editor.specs.declared.Stop.TheVariants.{AtEof, NoMatch, PointAtEnd}
use Rattle.changes.specs.Current.{byte_at, match_at, ByteIs, MatchIs, Sights, Finds}

-- ---- what a part of a step comes to

-- one that gives a value does not stop
module _ {B : Type 0} where
  gave-stopped : {A : Type 0} (a : B) (n : StopNumber) (e x : Ed) (t u : Tape) → ◌≡◌ {A = Ran B × Tape} (stopped n e, t) (gave a x, u) → A
  gave-stopped a n e x t u q =
      let r : ◌≡◌ {A = Ran B} (stopped n e) (gave a x) = ap (λ (y : Ran B × Tape). y.0) q in
      absurd (let z : ◌≡◌ {A = ℕ} 0 1 = cc in omega arith)

  same-value : (a v : B) (e : Ed) (t : Tape) → ◌≡◌ {A = Ran B × Tape} (gave a e, t) (gave v e, t) → a ≡ v
  same-value a v e t q =
      let r : ◌≡◌ {A = Ran B} (gave a e) (gave v e) = ap (λ (y : Ran B × Tape). y.0) q in
      cc

  same_stop : (m n : StopNumber) (e : Ed) (t : Tape) → ◌≡◌ {A = Ran B × Tape} (stopped m e, t) (stopped n e, t) → m ≡ n
  same_stop m n e t q =
      let r : ◌≡◌ {A = Ran B} (stopped m e) (stopped n e) = ap (λ (y : Ran B × Tape). y.0) q in
      cc

-- ---- the byte at p

module _ {A : Type 0} (g : Given) (c : Carried) (k : Line × ℕ → Program A) (t : Tape) where
  byte-eof : (b : List Record) (p : ℕ) → runs g c (◌>>=◌ byte_here k) (ed b [] p) t ≡ (stopped n20 (ed b [] p), t)
  unfolding byte_here line_or line_in ◌>>=◌ runs
  byte-eof b p = refl

  byte-line : (b : List Record) (r : Record) (a : List Record) (p : ℕ)
      → runs g c (◌>>=◌ byte_here k) (ed b (r ∷ a) p) t ≡ runs g c (◌>>=◌ (◌>>◌ (stop_if n27 (leb (length (current r)) p)) (gives (current r, p))) k) (ed b (r ∷ a) p) t
  unfolding byte_here line_or line_in ◌>>=◌ runs
  byte-line b r a p = refl

  at-end : (x : Bool) (l : Line) (p : ℕ) (e : Ed) → x ≡ true → runs g c (◌>>=◌ (◌>>◌ (stop_if n27 x) (gives (l, p))) k) e t ≡ (stopped n27 e, t)
  unfolding ◌>>=◌ ◌>>◌ stop_if runs
  at-end true l p e h = refl
  at-end false l p e h = absurd (true≢false (sym h))

  at_byte : (x : Bool) (l : Line) (p : ℕ) (e : Ed) → x ≡ false → runs g c (◌>>=◌ (◌>>◌ (stop_if n27 x) (gives (l, p))) k) e t ≡ runs g c (k (l, p)) e t
  unfolding ◌>>=◌ ◌>>◌ stop_if
  at_byte true l p e h = absurd (true≢false h)
  at_byte false l p e h = refl

  -- 27 at the line's end
  byte-end : (b : List Record) (r : Record) (a : List Record) (p : ℕ) → leb (length (current r)) p ≡ true → runs g c (◌>>=◌ byte_here k) (ed b (r ∷ a) p) t ≡ (stopped n27 (ed b (r ∷ a) p), t)
  byte-end b r a p h = byte-line b r a p ∙ at-end (leb (length (current r)) p) (current r) p (ed b (r ∷ a) p) h

  byte_more : (b : List Record) (r : Record) (a : List Record) (p : ℕ) → leb (length (current r)) p ≡ false
      → runs g c (◌>>=◌ byte_here k) (ed b (r ∷ a) p) t ≡ runs g c (k (current r, p)) (ed b (r ∷ a) p) t
  byte_more b r a p h = byte-line b r a p ∙ at_byte (leb (length (current r)) p) (current r) p (ed b (r ∷ a) p) h

module _ (g : Given) (c : Carried) (t : Tape) where
  see-eof : (b : List Record) (p : ℕ) → runs g c byte_at (ed b [] p) t ≡ (stopped n20 (ed b [] p), t)
  unfolding byte_at
  see-eof b p = byte-eof g c (λ x. gives (get_or x.0 x.1 0)) t b p

  see-end : (b : List Record) (r : Record) (a : List Record) (p : ℕ) → leb (length (current r)) p ≡ true → runs g c byte_at (ed b (r ∷ a) p) t ≡ (stopped n27 (ed b (r ∷ a) p), t)
  unfolding byte_at
  see-end b r a p h = byte-end g c (λ x. gives (get_or x.0 x.1 0)) t b r a p h

  see-byte : (b : List Record) (r : Record) (a : List Record) (p : ℕ) → leb (length (current r)) p ≡ false
      → runs g c byte_at (ed b (r ∷ a) p) t ≡ (gave (get_or (current r) p 0) (ed b (r ∷ a) p), t)
  unfolding byte_at runs
  see-byte b r a p h = byte_more g c (λ x. gives (get_or x.0 x.1 0)) t b r a p h

-- a record that is current stands in the buffer
shown-more : (b : List Record) (r : Record) (a : List Record) (p : ℕ) (t : Tape) (j : List ℕ) (st : State) → Shows j st (ed b (r ∷ a) p) t → st.back < length j
shown-more b r a p t j st h = by (leb (length j) st.back) refl
  where
    by : (x : Bool) → leb (length j) st.back ≡ x → st.back < length j
    by true q = absurd (shown-eof b r a p t h (leb-true (length j) st.back q))
    by false q = leb-false (length j) st.back q

-- where the byte v is found, a program goes on with the line and p
pub record ByteOn {A : Type 0} (g : Given) (c : Carried) (k : Line × ℕ → Program A) (e : Ed) (t : Tape) (v : ℕ) : Type 0 where
  pub same : runs g c (◌>>=◌ byte_here k) e t ≡ runs g c (k (current_line e, point_of e)) e t
  pub more : (j : List ℕ) (st : State) → Shows j st e t → st.back < length j
  pub inside : point_of e < length (current_line e)
  pub is : v ≡ get_or (current_line e) (point_of e) 0

module _ {A : Type 0} (g : Given) (c : Carried) (k : Line × ℕ → Program A) (t : Tape) where
  pub byte-on : (e : Ed) (v : ℕ) → runs g c byte_at e t ≡ (gave v e, t) → ByteOn g c k e t v
  byte-on (ed b [] p) v q = gave-stopped v n20 (ed b [] p) (ed b [] p) t t (sym (see-eof g c t b p) ∙ q)
  byte-on (ed b (r ∷ a) p) v q = by (leb (length (current r)) p) refl
    where
      by : (x : Bool) → leb (length (current r)) p ≡ x → ByteOn g c k (ed b (r ∷ a) p) t v
      by true h = gave-stopped v n27 (ed b (r ∷ a) p) (ed b (r ∷ a) p) t t (sym (see-end g c t b r a p h) ∙ q)
      by false h = record {
        same = byte_more g c k t b r a p h;
        more = shown-more b r a p t;
        inside = leb-false (length (current r)) p h;
        is = sym (same-value (get_or (current r) p 0) v (ed b (r ∷ a) p) t (sym (see-byte g c t b r a p h) ∙ q));
      }

  -- where none is, it stops
  pub byte-stop : (e : Ed) (n : StopNumber) → runs g c byte_at e t ≡ (stopped n e, t) → runs g c (◌>>=◌ byte_here k) e t ≡ (stopped n e, t)
  byte-stop (ed b [] p) n q =
      let s : n20 ≡ n = same_stop n20 n (ed b [] p) t (sym (see-eof g c t b p) ∙ q) in
      byte-eof g c k t b p ∙ ap (λ (x : StopNumber). (stopped x (ed b [] p), t)) s
  byte-stop (ed b (r ∷ a) p) n q = by (leb (length (current r)) p) refl
    where
      by : (x : Bool) → leb (length (current r)) p ≡ x → runs g c (◌>>=◌ byte_here k) (ed b (r ∷ a) p) t ≡ (stopped n (ed b (r ∷ a) p), t)
      by true h =
          let s : n27 ≡ n = same_stop n27 n (ed b (r ∷ a) p) t (sym (see-end g c t b r a p h) ∙ q) in
          byte-end g c k t b r a p h ∙ ap (λ (x : StopNumber). (stopped x (ed b (r ∷ a) p), t)) s
      by false h = gave-stopped (get_or (current r) p 0) n (ed b (r ∷ a) p) (ed b (r ∷ a) p) t t (sym q ∙ see-byte g c t b r a p h)

-- ---- what `byte_here` answers

module _ (table j : List ℕ) (st : State) where
  pub sights-eof : length j ≤ st.back → Sights table j st (Err AtEof)
  unfolding ByteIs stop_number
  sights-eof end (ed b [] p) c t w = (n20, refl, see-eof (lent j) c t b p)
  sights-eof end (ed b (r ∷ a) p) c t w = absurd (shown-eof b r a p t w.shows end)

  module _ (more : st.back < length j) (line : List ℕ) (is : (e : Ed) (t : Tape) → Shows j st e t → TableOf table e t → line ≡ current_line e) where
    pub sights-end : length line ≤ st.p → Sights table j st (Err PointAtEnd)
    unfolding ByteIs stop_number
    sights-end end (ed b [] p) c t w = absurd (shown-record b p t w.shows more)
    sights-end end (ed b (r ∷ a) p) c t w =
        let long : length (current r) ≤ p = omega (arith, end, ap length (is (ed b (r ∷ a) p) t w.shows w.old), w.shows.p) in
        (n27, refl, see-end (lent j) c t b r a p (le-leb (length (current r)) p long))

    pub sights-on : st.p < length line → Sights table j st (Ok (get_or line st.p 0))
    unfolding ByteIs
    sights-on inside (ed b [] p) c t w = absurd (shown-record b p t w.shows more)
    sights-on inside (ed b (r ∷ a) p) c t w =
        let long : p < length (current r) = omega (arith, inside, ap length (is (ed b (r ∷ a) p) t w.shows w.old), w.shows.p) in
        rw (is (ed b (r ∷ a) p) t w.shows w.old, w.shows.p) (see-byte (lent j) c t b r a p (lt-leb (length (current r)) p long))

-- ---- the match of a string

module _ (g : Given) (c : Carried) (isWord : ℕ → Bool) (q : Qualified) (t : Tape) where
  find-eof : (b : List Record) (p : ℕ) → runs g c (match_at isWord q) (ed b [] p) t ≡ (stopped n20 (ed b [] p), t)
  unfolding match_at line_or line_in ◌>>=◌ runs
  find-eof b p = refl

  find-line : (b : List Record) (r : Record) (a : List Record) (p : ℕ) → runs g c (match_at isWord q) (ed b (r ∷ a) p) t ≡ runs g c (or_stop n24 (match_of isWord q p (current r))) (ed b (r ∷ a) p) t
  unfolding match_at line_or line_in match_or24 ◌>>=◌ runs
  find-line b r a p = refl

-- where the string is found, a program goes on with the line, p and the match, which lies within the line
pub record MatchOn {A : Type 0} (g : Given) (c : Carried) (isWord : ℕ → Bool) (q : Qualified) (k : Line × ℕ → Match → Program A) (e : Ed) (t : Tape) (m : Match) : Type 0 where
  pub same : runs g c (◌>>=◌ (line_or n20) (λ x. ◌>>=◌ (match_or24 isWord q x.0 x.1) (k x))) e t ≡ runs g c (k (current_line e, point_of e) m) e t
  pub more : (j : List ℕ) (st : State) → Shows j st e t → st.back < length j
  pub inside : PointIn e → m.place + m.width ≤ length (current_line e)

module _ {A : Type 0} (g : Given) (c : Carried) (isWord : ℕ → Bool) (q : Qualified) (k : Line × ℕ → Match → Program A) (t : Tape) where
  match-eof : (b : List Record) (p : ℕ) → runs g c (◌>>=◌ (line_or n20) (λ x. ◌>>=◌ (match_or24 isWord q x.0 x.1) (k x))) (ed b [] p) t ≡ (stopped n20 (ed b [] p), t)
  unfolding line_or line_in ◌>>=◌ runs
  match-eof b p = refl

  match-line : (b : List Record) (r : Record) (a : List Record) (p : ℕ)
      → runs g c (◌>>=◌ (line_or n20) (λ x. ◌>>=◌ (match_or24 isWord q x.0 x.1) (k x))) (ed b (r ∷ a) p) t
      ≡ runs g c (◌>>=◌ (or_stop n24 (match_of isWord q p (current r))) (k (current r, p))) (ed b (r ∷ a) p) t
  unfolding line_or line_in match_or24 ◌>>=◌ runs
  match-line b r a p = refl

  look-match : (o : Option Match) (x : Line × ℕ) (e : Ed) (m : Match) → runs g c (or_stop n24 o) e t ≡ (gave m e, t)
      → (runs g c (◌>>=◌ (or_stop n24 o) (k x)) e t ≡ runs g c (k x m) e t) × (o ≡ some m)
  unfolding or_stop ◌>>=◌ runs
  look-match none x e m z = gave-stopped m n24 e e t t z
  look-match (some v) x e m z = rw (same-value v m e t z) (refl, refl)

  look-no-match : (o : Option Match) (x : Line × ℕ) (e : Ed) (n : StopNumber) → runs g c (or_stop n24 o) e t ≡ (stopped n e, t)
      → runs g c (◌>>=◌ (or_stop n24 o) (k x)) e t ≡ (stopped n e, t)
  unfolding or_stop ◌>>=◌ runs
  look-no-match none x e n z = ap (λ (y : StopNumber). (stopped y e, t)) (same_stop n24 n e t z)
  look-no-match (some m) x e n z = gave-stopped m n e e t t (sym z)

  pub match-on : (e : Ed) (m : Match) → runs g c (match_at isWord q) e t ≡ (gave m e, t) → MatchOn g c isWord q k e t m
  match-on (ed b [] p) m z = gave-stopped m n20 (ed b [] p) (ed b [] p) t t (sym (find-eof g c isWord q t b p) ∙ z)
  match-on (ed b (r ∷ a) p) m z =
      let f : _ = look-match (match_of isWord q p (current r)) (current r, p) (ed b (r ∷ a) p) m (sym (find-line g c isWord q t b r a p) ∙ z) in
      record { same = match-line b r a p ∙ f.0; more = shown-more b r a p t; inside = λ h. (match-inside isWord q p (current r) m h f.1).1 }

  -- where it is not, it stops
  pub match-stop : (e : Ed) (n : StopNumber) → runs g c (match_at isWord q) e t ≡ (stopped n e, t)
      → runs g c (◌>>=◌ (line_or n20) (λ x. ◌>>=◌ (match_or24 isWord q x.0 x.1) (k x))) e t ≡ (stopped n e, t)
  match-stop (ed b [] p) n z =
      match-eof b p ∙ ap (λ (y : StopNumber). (stopped y (ed b [] p), t)) (same_stop n20 n (ed b [] p) t (sym (find-eof g c isWord q t b p) ∙ z))
  match-stop (ed b (r ∷ a) p) n z =
      match-line b r a p ∙ look-no-match (match_of isWord q p (current r)) (current r, p) (ed b (r ∷ a) p) n (sym (find-line g c isWord q t b r a p) ∙ z)

-- ---- what `match_here` answers

-- what `find` asks of the line and p
pub line-fits : {table j : List ℕ} {st : State} → st.back < length j → (line : List ℕ) → ((e : Ed) (t : Tape) → Shows j st e t → TableOf table e t → line ≡ current_line e)
    → IsReady table j st → (st.p ≤ length line) × (length line ≤ 255)
line-fits more line is (e, t, w) =
    let l : line ≡ current_line e = is e t w.shows w.old in
    (line-window more e t w.shows w.point line l, omega (arith, ap length l, shown-short e t w.shows))

module _ (isWord : ℕ → Bool) (table j : List ℕ) (st : State) (q : Qualified) where
  pub finds-eof : length j ≤ st.back → Finds isWord table j st q (Err AtEof)
  unfolding MatchIs stop_number
  finds-eof end (ed b [] p) c t w = (n20, refl, find-eof (lent j) c isWord q t b p)
  finds-eof end (ed b (r ∷ a) p) c t w = absurd (shown-eof b r a p t w.shows end)

  module _ (more : st.back < length j) (line : List ℕ) (is : (e : Ed) (t : Tape) → Shows j st e t → TableOf table e t → line ≡ current_line e)
      (f : Prelude.Option Found) (found : found_of f ≡ match_of isWord q st.p line) where
    match_is : (b : List Record) (r : Record) (a : List Record) (p : ℕ) (t : Tape) → Ready table j st (ed b (r ∷ a) p) t → (o : Option Match) → found_of f ≡ o → match_of isWord q p (current r) ≡ o
    match_is b r a p t w o s = rw (← is (ed b (r ∷ a) p) t w.shows w.old, ← w.shows.p) (sym found ∙ s)

    match-runs : (c : Carried) (b : List Record) (r : Record) (a : List Record) (p : ℕ) (t : Tape) → Ready table j st (ed b (r ∷ a) p) t → (o : Option Match) → found_of f ≡ o
        → runs (lent j) c (match_at isWord q) (ed b (r ∷ a) p) t ≡ runs (lent j) c (or_stop n24 o) (ed b (r ∷ a) p) t
    match-runs c b r a p t w o s =
        find-line (lent j) c isWord q t b r a p ∙ ap (λ (y : Option Match). runs (lent j) c (or_stop n24 y) (ed b (r ∷ a) p) t) (match_is b r a p t w o s)

    pub finds-none : f ≡ None → Finds isWord table j st q (Err NoMatch)
    unfolding or_stop runs MatchIs stop_number found_of
    finds-none z (ed b [] p) c t w = absurd (shown-record b p t w.shows more)
    finds-none z (ed b (r ∷ a) p) c t w = (n24, refl, match-runs c b r a p t w none (rw z))

    pub finds-on : (m : Found) → f ≡ Some m → Finds isWord table j st q (Ok (m.at, m.width))
    unfolding or_stop runs MatchIs found_of
    finds-on m z (ed b [] p) c t w = absurd (shown-record b p t w.shows more)
    finds-on m z (ed b (r ∷ a) p) c t w = match-runs c b r a p t w (some (matched m.at m.width)) (rw z)
