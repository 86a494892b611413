-- What a program comes to, as the answer of a function: it holds, it does not, or the run stops. Assumes nothing.
use mathlib.Core.Path.{◌≡◌, refl}
use mathlib.Core.Bool.{Bool, true, false}
use Prim.Native.Nat.{ℕ}
use mathlib.Core.List.{List}
use Rattle.definitions.specs.Tape.{Tape, bind}
use Rattle.definitions.specs.Given.{Given, Carried}
use Rattle.definitions.specs.Editor.{Ed, stop_number, Stop as StopNumber}
use Rattle.definitions.specs.Reading.{gave, stopped}
use Rattle.definitions.specs.StepProgram.{Program, ◌>>=◌, runs, state, Did, answers, Out, on, edited, halt, finish, perform}
use Rattle.theorems.specs.Programs.{runs_on, runs-stop}
use Rattle.editor.specs.Shows.{Shows, ShowsText, Came, Answers, Answered}
use Rattle.editor.specs.declared.State.{State}
use Rattle.std.specs.Prelude.{Result, Ok}
use Rattle.editor.specs.Stops.{Moved, numbered, stopping}
use Rattle.editor.specs.declared.Stop.{Stop}
use Rattle.editor.proofs.Parts.{Went, went, Halted, halted, perform-as}
use Rattle.editor.specs.declared.Stopped.{Stopped}
use Rattle.seeks.specs.Looks.{Looked, holding, Looks, LooksAs}

-- ---- by what the program comes to

module _ {j : List ℕ} {s : State} (g : Given) (c : Carried) (m : Program Did) (e : Ed) (t : Tape) {x : Ed} {u : Tape} where
  pub says-yes : runs g c m e t ≡ (gave (answers true) x, u) → Shows j s x u → LooksAs j (holding true s) (perform g m (state e c) t)
  unfolding perform bind finish Looks
  says-yes q h = rw q (refl, h)

  pub says-no : runs g c m e t ≡ (gave (answers false) x, u) → Shows j s x u → LooksAs j (holding false s) (perform g m (state e c) t)
  unfolding perform bind finish Looks
  says-no q h = rw q (refl, h)

  pub says-stop : {n : StopNumber} (i : Stop) → runs g c m e t ≡ (stopped n x, u) → numbered i ≡ stop_number n → Shows j s x u → LooksAs j (stopping i s) (perform g m (state e c) t)
  unfolding perform bind finish Looks
  says-stop i q k h = rw q (k, h)

module _ {A : Type 0} (g : Given) (c : Carried) (m : Program A) (n : A → Program Did) (e : Ed) (t : Tape) where
  -- m goes on, then n
  pub then-looks : {j : List ℕ} {s : State} (k : List ℕ) (r : Result Looked Stopped) → Came j (Ok s) (runs g c m e t)
      → ((a : A) (x : Ed) (u : Tape) → Shows j s x u → LooksAs k r (perform g (n a) (state x c) u))
      → LooksAs k r (perform g (◌>>=◌ m n) (state e c) t)
  then-looks {j} {s} k r h f =
      let w : Went j s (runs g c m e t) = went (runs g c m e t) h in
      rw (perform-as g c (◌>>=◌ m n) (n w.value) e w.text t w.tape (runs_on g c n m e t w.is))
      (f w.value w.text w.tape w.shows)

  -- m stops
  pub then-stops : (j : List ℕ) (i : Stop) (s : State) → Came j (stopping i s) (runs g c m e t) → LooksAs j (stopping i s) (perform g (◌>>=◌ m n) (state e c) t)
  then-stops j i s h =
      let w : Halted j i s (runs g c m e t) = halted (runs g c m e t) h in
      says-stop g c (◌>>=◌ m n) e t i (runs-stop g c n m e t w.is) w.same w.shows

-- ---- a command's answer, as that of a step

yes-by : (k : List ℕ) (s : State) (out : Out) (u : Tape) → Answers k (Ok s) out u → Looks k (holding true s) out u
unfolding Answers Looks
yes-by k s (on true (state e c)) u w = (refl, w)
yes-by k s (on false (state e c)) u w = absurd w
yes-by k s (edited (state e c)) u w = (refl, w)
yes-by k s (halt n (state e c)) u w = absurd w

stop-by : (k : List ℕ) (m : Stop) (s : State) (out : Out) (u : Tape) → Answers k (stopping m s) out u → Looks k (stopping m s) out u
unfolding Answers Looks
stop-by k m s (on b (state e c)) u w = absurd w
stop-by k m s (edited (state e c)) u w = absurd w
stop-by k m s (halt n (state e c)) u w = w

module _ (k : List ℕ) (s : State) (r : Moved) (x : Out × Tape) (w : Answered k r x) where
  -- the run goes on
  pub performed : r ≡ Ok s → LooksAs k (holding true s) x
  performed q = yes-by k s x.0 x.1 (rw q at w)

  -- the run stops
  pub performed-stop : (m : Stop) → r ≡ stopping m s → LooksAs k (stopping m s) x
  performed-stop m q = stop-by k m s x.0 x.1 (rw q at w)

-- a text is shown where it holds, or does not
pub held-text : {k : List ℕ} (v : Bool) {s : State} (x : Out × Tape) → LooksAs k (holding v s) x → ∥ ShowsText k s ∥₁
unfolding Looks
held-text v (on b (state e c), t) h = ∣ (e, t, h.1) ∣₁
held-text v (edited (state e c), t) h = ∣ (e, t, h.1) ∣₁
held-text v (halt n (state e c), t) h = absurd h
