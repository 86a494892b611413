-- One program after another: what the whole comes to is what the parts come to. So a function of the code that does a part of a step can promise that
-- part, and a step is put together from such promises.
use Rattle.std.specs.Prelude.{◌≡◌, Bool, List, [], ◌∷◌, ℕ}
use Rattle.std.proofs.Math.Path.{refl, sym, ap}
use Rattle.std.proofs.Common.{◌∙◌, true≢false}
use Rattle.std.proofs.Math.Bool.{true, false}
use Rattle.std.proofs.Math.Option.{Option, none, some}
use Rattle.definitions.specs.Bytes.{Line}
use Rattle.definitions.specs.Journal.{Record}
use Rattle.definitions.specs.Tape.{Tape, Reads, ret, bind}
use Rattle.definitions.specs.Given.{Given, Carried, words_of}
use Rattle.definitions.specs.Editor.{Ed, ed, current, Stop, Got, got, stop, Move, moved}
use Rattle.definitions.specs.Reading.{Ran, gave, stopped, once_read, read_to}
use Rattle.definitions.specs.StepProgram.{Program, gives, stops, looks, reads, moves, ◌>>=◌, ◌>>◌, once_moved, runs, state, words_in, Did, finish, perform}
use Rattle.definitions.specs.Edit.{stop_if, or_stop, either, go, line_in, line_or, Op, program, step}

module _ {A B : Type 0} (g : Given) (c : Carried) (k : A → Program B) where
  -- how the second program goes on from what the first came to
  unfoldable pub then_runs : Ran A → Reads (Ran B)
  then_runs (gave a e) = runs g c (k a) e
  then_runs (stopped n e) = ret (stopped n e)

  once-moved : (f : Ed → Reads (Ran A)) (h : Ed → Reads (Ran B)) (t : Tape) → ((e : Ed) → h e t ≡ bind (f e) then_runs t) → (e : Ed) (x : Got Ed)
      → once_moved h e x t ≡ bind (once_moved f e x) then_runs t
  unfolding once_moved bind then_runs
  once-moved f h t q e (got e') = q e'
  once-moved f h t q e (stop n) = refl

  once-read : (f : Ed → Reads (Ran A)) (h : Ed → Reads (Ran B)) (t : Tape) → ((e : Ed) → h e t ≡ bind (f e) then_runs t) → (x : Ran (Unit {0}))
      → once_read h x t ≡ bind (once_read f x) then_runs t
  unfolding once_read bind then_runs
  once-read f h t q (gave u e) = q e
  once-read f h t q (stopped n e) = refl

  -- THE LAW OF PROGRAMS: m, then k
  pub runs_then : (m : Program A) (e : Ed) (t : Tape) → runs g c (◌>>=◌ m k) e t ≡ bind (runs g c m e) then_runs t
  unfolding runs ◌>>=◌ bind then_runs
  runs_then (gives a) e t = refl
  runs_then (stops n) e t = refl
  runs_then (looks f) e t = runs_then (f e) e t
  runs_then (reads a m) e t =
      once-read (λ e'. runs g c m e') (λ e'. runs g c (◌>>=◌ m k) e') (read_to g c a e t).1 (λ e'. runs_then m e' (read_to g c a e t).1) (read_to g c a e t).0
  runs_then (moves x m) e t = once-moved (λ e'. runs g c m e') (λ e'. runs g c (◌>>=◌ m k) e') t (λ e'. runs_then m e' t) e (moved x e)

  -- the same, once it is known what m comes to
  pub runs_on : (m : Program A) (e : Ed) (t : Tape) {a : A} {e' : Ed} {t' : Tape} → runs g c m e t ≡ (gave a e', t') → runs g c (◌>>=◌ m k) e t ≡ runs g c (k a) e' t'
  unfolding bind then_runs
  runs_on m e t q = runs_then m e t ∙ ap (λ (x : Ran A × Tape). then_runs x.0 x.1) q

  pub runs-stop : (m : Program A) (e : Ed) (t : Tape) {n : Stop} {e' : Ed} {t' : Tape} → runs g c m e t ≡ (stopped n e', t') → runs g c (◌>>=◌ m k) e t ≡ (stopped n e', t')
  unfolding bind then_runs
  runs-stop m e t q = runs_then m e t ∙ ap (λ (x : Ran A × Tape). then_runs x.0 x.1) q

-- ---- three programs, one after another

module _ {A B C : Type 0} (g : Given) (c : Carried) (f : A → Program B) (h : B → Program C) where
  then-then : (y : Ran A × Tape) → let x = then_runs g c f y.0 y.1 in
      then_runs g c h x.0 x.1 ≡ then_runs g c (λ a. ◌>>=◌ (f a) h) y.0 y.1
  unfolding then_runs bind
  then-then (gave a e, t) = sym (runs_then g c h (f a) e t)
  then-then (stopped n e, t) = refl

  -- it does not matter which two are put together first
  pub runs-assoc : (m : Program A) (e : Ed) (t : Tape) → runs g c (◌>>=◌ (◌>>=◌ m f) h) e t ≡ runs g c (◌>>=◌ m (λ a. ◌>>=◌ (f a) h)) e t
  unfolding bind
  runs-assoc m e t =
      runs_then g c h (◌>>=◌ m f) e t ∙ ap (λ (x : Ran B × Tape). then_runs g c h x.0 x.1) (runs_then g c f m e t)
      ∙ then-then (runs g c m e t) ∙ sym (runs_then g c (λ a. ◌>>=◌ (f a) h) m e t)

-- ---- one law for each test

module _ {A : Type 0} (g : Given) (c : Carried) where
  -- a test that does not stop
  pub runs-pass : (n : Stop) (x : Bool) (m : Program A) (e : Ed) (t : Tape) → x ≡ false → runs g c (◌>>◌ (stop_if n x) m) e t ≡ runs g c m e t
  unfolding ◌>>◌ ◌>>=◌ stop_if
  runs-pass n true m e t h = absurd (true≢false h)
  runs-pass n false m e t h = refl

  -- one that stops
  pub runs-halt : (n : Stop) (x : Bool) (m : Program A) (e : Ed) (t : Tape) → x ≡ true → runs g c (◌>>◌ (stop_if n x) m) e t ≡ (stopped n e, t)
  unfolding ◌>>◌ ◌>>=◌ stop_if runs
  runs-halt n true m e t h = refl
  runs-halt n false m e t h = absurd (true≢false (let back : true ≡ false = cc in back))

  -- a value that is there, or not
  pub runs-some : {B : Type 0} (n : Stop) (o : Option B) (b : B) (k : B → Program A) (e : Ed) (t : Tape) → o ≡ some b → runs g c (◌>>=◌ (or_stop n o) k) e t ≡ runs g c (k b) e t
  unfolding or_stop ◌>>=◌
  runs-some n o b k e t h = rw h

  pub runs_none : {B : Type 0} (n : Stop) (o : Option B) (k : B → Program A) (e : Ed) (t : Tape) → o ≡ none → runs g c (◌>>=◌ (or_stop n o) k) e t ≡ (stopped n e, t)
  unfolding or_stop ◌>>=◌ runs
  runs_none n o k e t h = rw h

  -- the one or the other
  pub runs-either : (x : Bool) (m n : Program A) (e : Ed) (t : Tape) → runs g c (either x m n) e t ≡ elim x [ true ↦ runs g c m e t | false ↦ runs g c n e t ]
  unfolding either
  runs-either true m n e t = refl
  runs-either false m n e t = refl

-- the current line, where there is one
module _ {A : Type 0} (g : Given) (c : Carried) (n : Stop) (k : Line × ℕ → Program A) where
  pub runs-line : (b : List Record) (r : Record) (a : List Record) (p : ℕ) (t : Tape)
      → runs g c (◌>>=◌ (line_or n) k) (ed b (r ∷ a) p) t ≡ runs g c (k (current r, p)) (ed b (r ∷ a) p) t
  unfolding line_or line_in ◌>>=◌ runs
  runs-line b r a p t = refl

  pub runs-no-line : (b : List Record) (p : ℕ) (t : Tape) → runs g c (◌>>=◌ (line_or n) k) (ed b [] p) t ≡ (stopped n (ed b [] p), t)
  unfolding line_or line_in ◌>>=◌ runs
  runs-no-line b p t = refl

-- a move that can be made, and one that cannot
module _ (g : Given) (c : Carried) (x : Move) (e : Ed) (t : Tape) where
  pub runs-go : {e' : Ed} → moved x e ≡ got e' → runs g c (go x) e t ≡ (gave tt e', t)
  unfolding go runs once_moved
  runs-go h = ap (λ (y : Got Ed). once_moved (λ e'. runs g c (gives tt) e') e y t) h

  pub runs-no-go : {n : Stop} → moved x e ≡ stop n → runs g c (go x) e t ≡ (stopped n e, t)
  unfolding go runs once_moved
  runs-no-go h = ap (λ (y : Got Ed). once_moved (λ e'. runs g c (gives tt) e') e y t) h

-- ---- a whole step

-- a step, once it is known what its program comes to
pub step_of : (g : Given) (op : Op) (e : Ed) (c : Carried) (t : Tape) (x : Ran Did × Tape) → runs g c (program (words_of c) op) e t ≡ x → step g op (state e c) t ≡ finish g c x.0 x.1
unfolding step perform bind words_in
step_of g op e c t x h = ap (λ (y : Ran Did × Tape). finish g c y.0 y.1) h
