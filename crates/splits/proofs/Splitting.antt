-- SA and SB: the line as it reads, and where the string is. Assumes nothing.
use mathlib.Core.Path.{◌≡◌, ap}
use mathlib.Core.Bool.{Bool, true, false}
use mathlib.Core.List.{List}
use Prim.Native.Nat.{ℕ, ◌+◌, ◌-◌, ◌≤◌}
use native.Mathlib.Omega.{arith}
use lib.ListN.{length, take}
use Rattle.definitions.specs.Bytes.{Line, is_line}
use Rattle.definitions.specs.Matching.{Qualified, Match}
use Rattle.definitions.specs.Given.{Carried}
use Rattle.definitions.specs.StepProgram.{Program, Did}
use Rattle.definitions.specs.Edit.{Op, point_by, cut_after, program}
use Rattle.editor.specs.Records.{LineIn}
use Rattle.editor.specs.Shows.{Completes}
use Rattle.editor.specs.Current.{CopiesLine, IsReady}
use Rattle.editor.specs.declared.State.{State}
use Rattle.editor.specs.Stops.{Moved, stopping}
use Rattle.editor.specs.declared.Stop.{Stop}
use Rattle.std.specs.Prelude.{Result, Ok, Err}
use Rattle.editor.proofs.CurrentText.{copied-text, copied-good}
use Rattle.changes.specs.Current.{HasLine, CompletesAt, Finds, PerformsTold}
use Rattle.changes.proofs.Commands.{at_less, has-less, told, match-stops, match-goes, at-match, has-match}

-- ---- the current line as it reads

module _ {table j : List ℕ} {st : State} (k : ℕ) (d line : List ℕ) (n : ℕ) (copied : CopiesLine table j st d line n) where
  -- its text, copied to the start of `line`
  from_start : n - 0 ≡ n
  from_start = omega arith

  pub copied-within : HasLine table j st k → (n ≤ length line) × (k ≤ length (take (n - 0) line)) × (is_line (take (n - 0) line) ≡ true)
  copied-within (e, t, h) =
      let w : LineIn line 0 n = copied-good d line n copied (e, t, h.text) in
      rw from_start (omega (arith, w.0), omega (arith, h.long, ap length (copied-text d line n copied e t h.text)), w.1)

  pub cuts-here : (k' : List ℕ) (r : Moved) → ((c : Carried) → Completes c j st (cut_after (take (n - 0) line) k) k' r) → CompletesAt table j st k (λ l. cut_after l k) k' r
  cuts-here k' r cuts e c t h = rw (← copied-text d line n copied e t h.text) (rw from_start at (cuts c e t h.text.shows))

-- ---- where the string is

-- after it or before it is within the line
by-inside : (after : Bool) (i n : ℕ) → point_by after i n ≤ i + n
unfolding point_by
by-inside true i n = omega arith
by-inside false i n = omega arith

splitting : Bool → Line × ℕ → Match → Program Did
splitting after x m = cut_after x.0 (point_by after m.place m.width)

module _ (isWord : ℕ → Bool) {table j : List ℕ} {st : State} (q : Qualified) (o : Result (ℕ × ℕ) Stop) (finds : Finds isWord table j st q o) (after : Bool) where
  pub split-stop : (m : Stop) → o ≡ Err m → PerformsTold isWord table j st (Op.split after q) j (stopping m st)
  unfolding program splitting
  split-stop m is e c t same w = told isWord j (Op.split after q) j (stopping m st) e c t same (match-stops isWord q o finds m is (splitting after) e c t w)

  module _ (i n : ℕ) (is : o ≡ Ok (i, n)) (k : ℕ) (z : k ≡ point_by after i n) where
    pub has-cut : IsReady table j st → HasLine table j st k
    has-cut h = has-less k (omega (arith, z, by-inside after i n)) (has-match isWord q o finds i n is h)

    pub split-found : (k' : List ℕ) (m : Moved) → CompletesAt table j st k (λ l. cut_after l k) k' m → PerformsTold isWord table j st (Op.split after q) k' m
    unfolding program splitting
    split-found k' m did e c t same w =
        told isWord j (Op.split after q) k' m e c t same
        (rw (match-goes isWord q o finds i n is (splitting after) e c t w, ← z)
        (did e c t (at_less k e t (omega (arith, z, by-inside after i n)) (at-match isWord q o finds i n is e t w))))
