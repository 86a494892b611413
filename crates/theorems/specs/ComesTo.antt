-- What a program comes to, said of the value, the text and the tape: `Q` where it gives a value, `S` where it stops. One law for each part of which
-- programs are made; and what reading a line and every move keep, every program keeps.
use Rattle.std.specs.Prelude.{◌≡◌, Bool, cond, length, leb}
use Rattle.std.proofs.Math.Path.{refl}
use Rattle.std.proofs.Math.Bool.{true, false}
use Rattle.std.proofs.Math.Option.{Option, none, some}
use mathlib.Core.List.{List, [], ◌∷◌, ◌++◌}
use Prim.Native.Nat.{ℕ, zero, suc, ◌-◌}
use Rattle.definitions.specs.Bytes.{Line}
use Rattle.definitions.specs.Journal.{Record}
use Rattle.definitions.specs.Tape.{Tape, rest_lines, Reads, bind}
use Rattle.definitions.specs.WordSet.{Named}
use Rattle.definitions.specs.Given.{Given, Global, Carried, carried}
use Rattle.definitions.specs.Editor.{Ed, ed, records, journal, sources, current, Stop, n20, n26, n27, n31, stop_number, Got, got, stop, Target, here, line, eof, Move, moved}
use Rattle.definitions.specs.Reading.{Ran, gave, stopped, once_read, has_room, read_line, read_lines, read_to}
use Rattle.definitions.specs.StepProgram.{Program, gives, stops, looks, reads, moves, ◌>>=◌, ◌>>◌, once_moved, runs, state, Out, on, edited, halt, within, one_more}
use Rattle.definitions.specs.Edit.{stop_if, or_stop, either, read_up_to, go, line_in, line_or, byte_here}
use Rattle.theorems.specs.Reading.{At}
use Rattle.theorems.specs.Programs.{then_runs, runs_then}

-- a statement on what is given, the text and the tape; and on a stop
abbrev pub Gives : Type 0 → Type 1
Gives A = A → Ed → Tape → Type 0

abbrev pub Stops : Type 1
Stops = Stop → Ed → Tape → Type 0

module _ {A : Type 0} (Q : Gives A) (S : Stops) where
  abbrev pub Ended : Ran A → Tape → Type 0
  Ended (gave a e) t = Q a e t
  Ended (stopped n e) t = S n e t

-- one statement, whether it gives or stops
abbrev pub Keeping : {A : Type 0} → (Ed → Tape → Type 0) → Ran A → Tape → Type 0
Keeping I r t = Ended (λ a. I) (λ n. I) r t

-- where a move has come to, or what it stops with
abbrev pub OnGot : (Ed → Type 0) → (Stop → Type 0) → Got Ed → Type 0
OnGot P S (got e) = P e
OnGot P S (stop n) = S n

-- where EOF is current, and where a record is
abbrev pub AtEofOr : Type 0 → (Record → ℕ → Type 0) → Ed → Type 0
AtEofOr P F (ed before [] p) = P
AtEofOr P F (ed before (r ∷ after) p) = F r p

module _ (g : Given) (c : Carried) where
  -- from `e` and `t` the program comes to a value with `Q`, or stops with `S`
  abbrev pub ComesTo : {A : Type 0} → Gives A → Stops → Program A → Ed → Tape → Type 0
  ComesTo Q S m e t = At (Ended Q S) (runs g c m e t)

  -- ---- one after the other

  module _ {A B : Type 0} (Q : Gives A) (Q' : Gives B) (S : Stops) where
    then-ended : (k : A → Program B) → ((a : A) (e : Ed) (t : Tape) → Q a e t → ComesTo Q' S (k a) e t) → (r : Ran A) (t : Tape) → Ended Q S r t → At (Ended Q' S) (then_runs g c k r t)
    unfolding then_runs
    then-ended k h (gave a e) t x = h a e t x
    then-ended k h (stopped n e) t x = x

    pub then-comes : (m : Program A) (k : A → Program B) (e : Ed) (t : Tape) → ComesTo Q S m e t → ((a : A) (e' : Ed) (t' : Tape) → Q a e' t' → ComesTo Q' S (k a) e' t')
        → ComesTo Q' S (◌>>=◌ m k) e t
    then-comes m k e t x h = rw (runs_then g c k m e t) (unfold bind in (then-ended k h (runs g c m e t).0 (runs g c m e t).1 x))

    pub and-comes : (m : Program A) (k : Program B) (e : Ed) (t : Tape) → ComesTo Q S m e t → ((a : A) (e' : Ed) (t' : Tape) → Q a e' t' → ComesTo Q' S k e' t')
        → ComesTo Q' S (◌>>◌ m k) e t
    unfolding ◌>>◌
    and-comes m k e t x h = then-comes m (λ a. k) e t x h

  -- ---- the parts of programs, each with what follows

  module _ {A : Type 0} (Q : Gives A) (S : Stops) where
    -- a move
    moved-ended : (f : Ed → Reads (Ran A)) (e : Ed) (t : Tape) (x : Got Ed) → OnGot (λ e'. At (Ended Q S) (f e' t)) (λ n. S n e t) x → At (Ended Q S) (once_moved f e x t)
    unfolding once_moved
    moved-ended f e t (got e') h = h
    moved-ended f e t (stop n) h = h

    -- the one or the other
    pub either-comes : (x : Bool) (m k : Program A) (e : Ed) (t : Tape) → ComesTo Q S m e t → ComesTo Q S k e t → ComesTo Q S (either x m k) e t
    unfolding either
    either-comes true m k e t h i = h
    either-comes false m k e t h i = i

    -- a test
    pub test-comes : (n : Stop) (x : Bool) (m : Program A) (e : Ed) (t : Tape) → (x ≡ true → S n e t) → (x ≡ false → ComesTo Q S m e t) → ComesTo Q S (◌>>◌ (stop_if n x) m) e t
    unfolding stop_if ◌>>◌ ◌>>=◌ runs
    test-comes n true m e t h i = h refl
    test-comes n false m e t h i = i refl

    -- a value that may not be there
    pub some-comes : {B : Type 0} (n : Stop) (o : Option B) (k : B → Program A) (e : Ed) (t : Tape) → S n e t → ((b : B) → ComesTo Q S (k b) e t) → ComesTo Q S (◌>>=◌ (or_stop n o) k) e t
    unfolding or_stop ◌>>=◌ runs
    some-comes n none k e t h i = h
    some-comes n (some b) k e t h i = i b

    -- the current line and p
    pub line-comes : (n : Stop) (k : Line × ℕ → Program A) (e : Ed) (t : Tape) → AtEofOr (S n e t) (λ r p. ComesTo Q S (k (current r, p)) e t) e → ComesTo Q S (◌>>=◌ (line_or n) k) e t
    unfolding line_or line_in ◌>>=◌ runs
    line-comes n k (ed before [] p) t h = h
    line-comes n k (ed before (r ∷ after) p) t h = h

    -- the same, with a byte at p
    pub byte-comes : (k : Line × ℕ → Program A) (e : Ed) (t : Tape) → S n27 e t
        → AtEofOr (S n20 e t) (λ r p. leb (length (current r)) p ≡ false → ComesTo Q S (k (current r, p)) e t) e → ComesTo Q S (◌>>=◌ byte_here k) e t
    unfolding byte_here line_or line_in ◌>>=◌ ◌>>◌ runs
    byte-comes k (ed before [] p) t i h = h
    byte-comes k (ed before (r ∷ after) p) t i h = by (leb (length (current r)) p) h
      where
        by : (x : Bool) → (x ≡ false → ComesTo Q S (k (current r, p)) (ed before (r ∷ after) p) t)
            → ComesTo Q S (◌>>=◌ (◌>>=◌ (stop_if n27 x) (λ u. gives (current r, p))) k) (ed before (r ∷ after) p) t
        by true f = unfold stop_if ◌>>=◌ runs in i
        by false f = unfold stop_if ◌>>=◌ in (f refl)

  pub go-comes : (Q : Gives (Unit {0})) (S : Stops) (x : Move) (e : Ed) (t : Tape) → OnGot (λ e'. Q tt e' t) (λ n. S n e t) (moved x e) → ComesTo Q S (go x) e t
  unfolding go runs
  go-comes Q S x e t h = moved-ended Q S (λ e'. runs g c (gives tt) e') e t (moved x e) h

  -- ---- what every program keeps

  module _ (I : Ed → Tape → Type 0) (reading : (e : Ed) (t : Tape) → I e t → At (Keeping I) (read_line g c e t)) where
    once-keeps : {A : Type 0} (f : Ed → Reads (Ran A)) → ((e : Ed) (t : Tape) → I e t → At (Keeping I) (f e t)) → (r : Ran (Unit {0})) (t : Tape) → Keeping I r t → At (Keeping I) (once_read f r t)
    unfolding once_read
    once-keeps f h (gave u e) t x = h e t x
    once-keeps f h (stopped n e) t x = x

    lines_keep : (n : ℕ) (e : Ed) (t : Tape) → I e t → At (Keeping I) (read_lines g c n e t)
    unfolding read_lines bind
    lines_keep zero e t x = x
    lines_keep (suc n) e t x = once-keeps (λ e'. read_lines g c n e') (λ e' t'. lines_keep n e' t') (read_line g c e t).0 (read_line g c e t).1 (reading e t x)

    -- what reading a line keeps, reading up to a target keeps
    pub to-keeps : (a : Target) (e : Ed) (t : Tape) → I e t → At (Keeping I) (read_to g c a e t)
    unfolding read_to
    to-keeps here e t x = x
    to-keeps (line n) e t x = lines_keep (n - sources (records e)) e t x
    to-keeps eof e t x = lines_keep (suc (length (rest_lines t))) e t x

    -- reading
    pub reads-keep : (a : Target) (e : Ed) (t : Tape) → I e t → ComesTo (λ u. I) (λ n. I) (read_up_to a) e t
    unfolding read_up_to runs bind
    reads-keep a e t i = once-keeps (λ e'. runs g c (gives tt) e') (λ e' t' x. unfold runs in x) (read_to g c a e t).0 (read_to g c a e t).1 (to-keeps a e t i)

    module _ (moving : (x : Move) (e : Ed) (t : Tape) → I e t → OnGot (λ e'. I e' t) (λ n. Unit {0}) (moved x e)) where
      moved_keeps : {A : Type 0} (f : Ed → Reads (Ran A)) → ((e : Ed) (t : Tape) → I e t → At (Keeping I) (f e t))
          → (e : Ed) (x : Got Ed) (t : Tape) → I e t → OnGot (λ e'. I e' t) (λ n. Unit {0}) x → At (Keeping I) (once_moved f e x t)
      unfolding once_moved
      moved_keeps f h e (got e') t i k = h e' t k
      moved_keeps f h e (stop n) t i k = i

      -- THE LAW
      pub runs-keep : {A : Type 0} (m : Program A) (e : Ed) (t : Tape) → I e t → ComesTo {A = A} (λ a. I) (λ n. I) m e t
      unfolding runs bind
      runs-keep (gives a) e t i = i
      runs-keep (stops n) e t i = i
      runs-keep (looks f) e t i = runs-keep (f e) e t i
      runs-keep (reads a m) e t i = once-keeps (λ e'. runs g c m e') (λ e' t'. runs-keep m e' t') (read_to g c a e t).0 (read_to g c a e t).1 (to-keeps a e t i)
      runs-keep (moves x m) e t i = moved_keeps (λ e'. runs g c m e') (λ e' t'. runs-keep m e' t') e (moved x e) t i (moving x e t i)

-- ---- a step's end

-- the changes fit, or the step stops with 26
pub within-comes : (P : Out → Tape → Type 0) (g : Given) (c : Carried) (e e' : Ed) (t : Tape) → (has_room g (journal e' t) ≡ true → P (edited (state e' c)) t)
    → P (halt (stop_number n26) (state e c)) t → At P (within g c e e' t)
unfolding within
within-comes P g c e e' t h k = by (has_room g (journal e' t)) h
  where
    by : (x : Bool) → (x ≡ true → P (edited (state e' c)) t) → At P (cond x (edited (state e' c), t) (halt (stop_number n26) (state e c), t))
    by true f = f refl
    by false f = k

-- one global more stands, or the step stops with 31
pub one-comes : (P : Out → Type 0) (gs : List Global) (xs : List Named) (x : Global) (e : Ed)
    → (leb 16 (length gs) ≡ false → P (on true (state e (carried (gs ++ (x ∷ [])) xs)))) → P (halt (stop_number n31) (state e (carried gs xs))) → P (one_more (carried gs xs) x e)
unfolding one_more
one-comes P gs xs x e h k = by (leb 16 (length gs)) h
  where
    by : (b : Bool) → (b ≡ false → P (on true (state e (carried (gs ++ (x ∷ [])) xs))))
        → P (cond b (halt (stop_number n31) (state e (carried gs xs))) (on true (state e (carried (gs ++ (x ∷ [])) xs))))
    by true f = k
    by false f = f refl
