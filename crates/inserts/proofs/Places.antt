-- I with a line: the move, and then the insertion where it came to. Assumes nothing.
use mathlib.Core.Path.{◌≡◌, refl}
use mathlib.Core.Option.{Option, none}
use mathlib.Core.List.{List, [], ◌∷◌}
use Prim.Native.Nat.{ℕ, ◌-◌}
use lib.ListN.{length}
use Rattle.definitions.specs.Bytes.{Line}
use Rattle.definitions.specs.Tape.{Tape}
use Rattle.definitions.specs.Given.{Given, Carried}
use Rattle.definitions.specs.Editor.{Ed, Target, put}
use Rattle.definitions.specs.StepProgram.{gives, ◌>>=◌, ◌>>◌, runs, state, changes, perform}
use Rattle.definitions.specs.Edit.{go_to, Op, program, step}
use Rattle.editor.specs.Shows.{lent, Came, Answered, Performs, target_numbered}
use Rattle.editor.specs.declared.State.{State}
use Rattle.std.specs.Prelude.{Ok}
use Rattle.editor.specs.Stops.{Moved, stopping}
use Rattle.editor.specs.declared.Stop.{Stop}
use Rattle.editor.proofs.Parts.{lent_same, perform-then, perform-halt}
use Rattle.inserts.specs.Lines.{spot_of}
use Rattle.inserts.proofs.Codes.{spot-some}

here-is : (g : Given) (ls : List Line) (e : Ed) (c : Carried) (t : Tape) → step g (Op.insert none ls) (state e c) t ≡ perform g (gives (changes (put ls ∷ []))) (state e c) t
unfolding step program
here-is g ls e c t = refl

module _ (c : Carried) (ls : List Line) (e : Ed) (t : Tape) (j : List ℕ) (n : ℕ) (given : n ≡ 0 → ⊥) where
  -- the command is the move, and then the insertion
  spot_is : step (lent j) (Op.insert (spot_of n) ls) (state e c) t ≡ perform (lent j) (◌>>=◌ (go_to (target_numbered (n - 1))) (λ u. gives (changes (put ls ∷ [])))) (state e c) t
  unfolding step program ◌>>◌
  spot_is = rw (spot-some n given)

  pub insert-stop : (i : List ℕ) (m : Moved) {k : Stop} {s : State} → m ≡ stopping k s → Came i m (runs (lent j) c (go_to (target_numbered (n - 1))) e t)
      → Answered i m (step (lent j) (Op.insert (spot_of n) ls) (state e c) t)
  insert-stop i m {k} {s} q h = rw (spot_is, q) (perform-halt (lent j) c (go_to (target_numbered (n - 1))) (λ u. gives (changes (put ls ∷ []))) e t i k s (rw q at h))

  pub insert-then : {i : List ℕ} {m : Moved} {s : State} (k : List ℕ) (r : Moved) → m ≡ Ok s → Came i m (runs (lent j) c (go_to (target_numbered (n - 1))) e t)
      → length i ≡ length j → ((c : Carried) → Performs c i s (Op.insert none ls) k r) → Answered k r (step (lent j) (Op.insert (spot_of n) ls) (state e c) t)
  insert-then {i} k r q h long rest =
      rw spot_is
      (perform-then (lent j) c (go_to (target_numbered (n - 1))) (λ u. gives (changes (put ls ∷ []))) e t k r (rw q at h) (λ v x u w. rw (lent_same j i long, here-is (lent j) ls x c u) at (rest c x u w)))

pub insert-none : (g : Given) (ls : List Line) (e : Ed) (c : Carried) (t : Tape) (k : List ℕ) (r : Moved) (a : Option Target) → a ≡ none
    → Answered k r (step g (Op.insert none ls) (state e c) t) → Answered k r (step g (Op.insert a ls) (state e c) t)
insert-none g ls e c t k r a q h = rw q h
