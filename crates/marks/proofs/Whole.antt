-- The sweep of the whole string. Assumes nothing.
use mathlib.Core.Path.{◌≡◌, ap, ◌∙◌}
use mathlib.Core.List.{List, ◌++◌}
use Prim.Native.Nat.{ℕ, ◌≤◌}
use native.Mathlib.Nat.{zero-add}
use native.Mathlib.Omega.{arith}
use lib.ListN.{length, drop}
use lib.Seq.{sets-eq}
use Rattle.definitions.specs.Bytes.{Line}
use Rattle.definitions.specs.Patterns.{Pattern}
use Rattle.marks.specs.Sweeping.{Reads, slots, out_of, swept}
use Rattle.marks.specs.Fronts.{swept-length}
use Rattle.marks.specs.Written.{Kind, Room, Swept}
use Rattle.marks.specs.declared.Flow.{Flow}
use Rattle.marks.proofs.Reading.{reads-stands, reads_same}

-- what flows into the pattern; `new` is not looked at in the end
abbrev start : ℕ → ℕ → Flow
start enter new = record { at = 0; slot = 0; old = enter; new = new }

module _ (s : Line) (p : Pattern) (ms : List ℕ) (reads : Reads s p) (enough : slots p ≤ length ms) (enter new : ℕ) where
  pub whole_room : Room s Kind.alternatives (start enter new) ms
  whole_room = record { pattern = p; end = length s; stands = reads-stands s p reads; enough = omega (arith, enough) }

  pub whole-swept : {b : ℕ} {ms' : List ℕ} {g : Flow} → Swept s Kind.alternatives b (start enter new) ms ms' g → (q : Pattern) → Reads s q
      → (g.old ≡ out_of enter q ms) × (ms' ≡ swept b enter q ms ++ drop (slots q) ms)
  whole-swept {b} sweep q h =
      let flows = sweep q (length s) (reads-stands s q h) in
      let long : length (swept b enter q ms) ≡ slots q = swept-length b enter q ms in
      let fits : slots q ≤ length ms = rw (reads_same s p q reads h) enough in (
        flows.old,
        flows.marks ∙ sets-eq (swept b enter q ms) ms 0 (omega (arith, long, fits)) ∙ ap (λ (n : ℕ). swept b enter q ms ++ drop n ms) (zero-add _ ∙ long),
      )
