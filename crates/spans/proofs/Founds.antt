-- Where lines end, as the editor has it found. Assumes nothing.
use mathlib.Core.Path.{◌≡◌, ap}
use Prim.Native.Nat.{ℕ}
use Rattle.std.specs.Prelude.{Result, Ok, Err}
use Rattle.editor.specs.declared.State.{State}
use Rattle.editor.specs.declared.Stop.{Stop}
use Rattle.editor.specs.Stops.{stopping}
use mathlib.Core.List.{List}
use Rattle.definitions.specs.Tape.{Tape}
use Rattle.definitions.specs.Given.{no_globals}
use Rattle.definitions.specs.Editor.{Through}
use Rattle.definitions.specs.Reading.{Ran, gave, stopped}
use Rattle.definitions.specs.StepProgram.{runs}
use Rattle.editor.specs.Shows.{ShowsText, lent}
use Rattle.editor.proofs.Shown.{shown}
use Rattle.spans.specs.Spans.{Finds, FoundBy, reach_here}
use Rattle.definitions.specs.Edit.{read_past}
use Rattle.spans.specs.Spans.{ReadsNext}
use Rattle.spans.specs.declared.Next.{Next}
use Rattle.spans.proofs.Nexts.{NextRead, next-read}
use Rattle.spans.specs.Edited.{found_by}

pub ends-by : {r : Result ℕ Stop} {n : ℕ} (s : State) → r ≡ Ok n → found_by r s ≡ Ok (n, s)
ends-by s q = ap (λ r. found_by r s) q

pub unfound-by : {r : Result ℕ Stop} {k : Stop} (s : State) → r ≡ Err k → found_by r s ≡ stopping k s
unfound-by s q = ap (λ r. found_by r s) q

-- a text is shown once the lines are read, or where none are
pub finds-text : {j : List ℕ} {st s : State} (n : ℕ) (b : Through) → ∥ ShowsText j st ∥₁ → Finds j st b (Ok (n, s)) → ∥ ShowsText j s ∥₁
unfolding FoundBy
finds-text {j} {st} {s} n b h f = let w : ShowsText j st = shown h in by (runs (lent j) no_globals (reach_here b) w.0 w.1) (f w.0 w.1 w.2)
  where
    by : (x : Ran ℕ × Tape) → FoundBy j (Ok (n, s)) x.0 x.1 → ∥ ShowsText j s ∥₁
    by (gave k e, t) h = ∣ (e, t, h.0) ∣₁
    by (stopped k e, t) h = absurd h

pub finds-stop-text : {j : List ℕ} {st s : State} (k : Stop) (b : Through) → ∥ ShowsText j st ∥₁ → Finds j st b (stopping k s) → ∥ ShowsText j s ∥₁
unfolding FoundBy
finds-stop-text {j} {st} {s} k b h f = let w : ShowsText j st = shown h in by (runs (lent j) no_globals (reach_here b) w.0 w.1) (f w.0 w.1 w.2)
  where
    by : (x : Ran ℕ × Tape) → FoundBy j (stopping k s) x.0 x.1 → ∥ ShowsText j s ∥₁
    by (gave n e, t) h = absurd h
    by (stopped n e, t) h = ∣ (e, t, h.1) ∣₁

pub next-text-shown : {j : List ℕ} {st : State} (r : Next) → ∥ ShowsText j st ∥₁ → ReadsNext j st r → ∥ ShowsText j r.st ∥₁
next-text-shown {j} {st} r h reads =
    let w : ShowsText j st = shown h in
    let z : NextRead j 1 r (runs (lent j) no_globals (read_past 1) w.0 w.1) = next-read (runs (lent j) no_globals (read_past 1) w.0 w.1) (reads w.0 w.1 w.2) in
    ∣ (z.text, z.tape, z.shows) ∣₁
