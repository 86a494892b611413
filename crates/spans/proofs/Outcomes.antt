-- The end of a step whose readings are done: what a function answers that did it where no global stands, it answers of the step whatever stands. Assumes
-- nothing.
use mathlib.Core.Path.{◌≡◌, refl, ap, ◌∙◌}
use mathlib.Core.Bool.{Bool, true, false, cond}
use mathlib.Core.List.{List}
use Prim.Native.Nat.{ℕ}
use Rattle.definitions.specs.Tape.{Tape, bind}
use Rattle.definitions.specs.Given.{Given, Carried, no_globals}
use Rattle.definitions.specs.Editor.{Ed, journal, n26, stop_number, Got, got, stop, moved, edits}
use Rattle.definitions.specs.Reading.{Ran, gave, stopped, once_read, has_room, read_to}
use Rattle.definitions.specs.StepProgram.{Program, gives, stops, looks, reads, moves, ◌>>=◌, once_moved, runs, state, Did, answers, changes, quits, adds, cancels, names, Out, on, edited, halt, within, finish, perform}
use Rattle.theorems.specs.Words.{carrying}
use Rattle.editor.specs.Shows.{Answers, Answered}
use Rattle.std.specs.Prelude.{Ok, Err}
use Rattle.editor.specs.Stops.{Moved}

-- a program that ends a step neither with one global more nor with none, nor with another word set
unfoldable pub Calm : Program Did → Type 0
Calm (gives (answers b)) = Unit {0}
Calm (gives (changes xs)) = Unit {0}
Calm (gives quits) = Unit {0}
Calm (gives (adds x)) = ⊥
Calm (gives cancels) = ⊥
Calm (gives (names xs)) = ⊥
Calm (stops n) = Unit {0}
Calm (looks f) = (e : Ed) → Calm (f e)
Calm (reads a m) = Calm m
Calm (moves x m) = Calm m

pub calm-then : {A : Type 0} (m : Program A) (k : A → Program Did) → ((a : A) → Calm (k a)) → Calm (◌>>=◌ m k)
unfolding Calm ◌>>=◌
calm-then (gives a) k h = h a
calm-then (stops n) k h = tt
calm-then (looks f) k h = λ e. calm-then (f e) k h
calm-then (reads a m) k h = calm-then m k h
calm-then (moves x m) k h = calm-then m k h

-- what it ends with
abbrev CalmRan : Ran Did → Type 0
CalmRan (gave d e) = Calm (gives d)
CalmRan (stopped n e) = Unit {0}

pub calm-runs : (g : Given) (c : Carried) (m : Program Did) → Calm m → (e : Ed) (t : Tape) → CalmRan (runs g c m e t).0
unfolding Calm runs once_moved bind
calm-runs g c (gives d) h e t = h
calm-runs g c (stops n) h e t = tt
calm-runs g c (looks f) h e t = calm-runs g c (f e) (h e) e t
calm-runs g c (reads a m) h e t = by (read_to g c a e t) (λ e' t'. calm-runs g c m h e' t')
  where
    by : (y : Ran (Unit {0}) × Tape) → ((e' : Ed) (t' : Tape) → CalmRan (runs g c m e' t').0) → CalmRan (once_read (λ e'. runs g c m e') y.0 y.1).0
    by (gave v e', t') f = unfold once_read in (f e' t')
    by (stopped n e', t') f = unfold once_read in tt
calm-runs g c (moves x m) h e t = by (moved x e) (λ e'. calm-runs g c m h e' t)
  where
    by : (y : Got Ed) → ((e' : Ed) → CalmRan (runs g c m e' t).0) → CalmRan (once_moved (λ e'. runs g c m e') e y t).0
    by (got e') f = unfold once_moved in (f e')
    by (stop n) f = unfold once_moved in tt

-- such a program ends alike whatever stands
finish-carrying : (g : Given) (c : Carried) (x : Ran Did) (t : Tape) → CalmRan x
    → finish g c x t ≡ (carrying c (finish g no_globals x t).0, (finish g no_globals x t).1)
unfolding Calm finish within carrying
finish-carrying g c (gave (answers b) e) t h = refl
finish-carrying g c (gave (changes xs) e) t h = by (has_room g (journal (edits xs e) t))
  where
    by : (b : Bool)
        → let y = cond {A = Out × Tape} b (edited (state (edits xs e) no_globals), t) (halt (stop_number n26) (state e no_globals), t) in
        cond {A = Out × Tape} b (edited (state (edits xs e) c), t) (halt (stop_number n26) (state e c), t) ≡ (carrying c y.0, y.1)
    by true = unfold carrying in refl
    by false = unfold carrying in refl
finish-carrying g c (gave quits e) t h = refl
finish-carrying g c (gave (adds x) e) t h = absurd h
finish-carrying g c (gave cancels e) t h = absurd h
finish-carrying g c (gave (names xs) e) t h = absurd h
finish-carrying g c (stopped n e) t h = refl

-- THE LAW: a step whose readings are done comes to what it comes to where none stands
pub perform-first : (g : Given) (c : Carried) (m : Program Did) → Calm m → (e : Ed) (t : Tape) (x : Ed) (u : Tape) → runs g c m e t ≡ runs g no_globals m x u
    → let y = perform g m (state x no_globals) u in
    perform g m (state e c) t ≡ (carrying c y.0, y.1)
unfolding perform bind
perform-first g c m calm e t x u q =
    ap (λ (y : Ran Did × Tape). finish g c y.0 y.1) q ∙ finish-carrying g c (runs g no_globals m x u).0 (runs g no_globals m x u).1 (calm-runs g no_globals m calm x u)

pub answers-carrying : (c : Carried) (k : List ℕ) (r : Moved) (o : Out) (t : Tape) → Answers k r o t → Answers k r (carrying c o) t
unfolding Answers carrying
answers-carrying c k (Ok s) (on true (state e c')) t h = h
answers-carrying c k (Ok s) (on false (state e c')) t h = h
answers-carrying c k (Ok s) (edited (state e c')) t h = h
answers-carrying c k (Ok s) (halt n (state e c')) t h = h
answers-carrying c k (Err s) (on b (state e c')) t h = h
answers-carrying c k (Err s) (edited (state e c')) t h = h
answers-carrying c k (Err s) (halt n (state e c')) t h = h

-- so what a function answers that did it where none stands, it answers of the step itself
pub answers-first : (g : Given) (c : Carried) (m : Program Did) → Calm m → (e : Ed) (t : Tape) (x : Ed) (u : Tape) (k : List ℕ) (r : Moved) → runs g c m e t ≡ runs g no_globals m x u
    → Answered k r (perform g m (state x no_globals) u) → Answered k r (perform g m (state e c) t)
answers-first g c m calm e t x u k r q h =
    let y = perform g m (state x no_globals) u in
    rw (perform-first g c m calm e t x u q) (answers-carrying c k r y.0 y.1 h)
