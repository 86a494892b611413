-- Laws of a bracket's `)`, one for each way out. Assumes nothing.
use Rattle.std.specs.Prelude.{Ok, Err}
use mathlib.Core.Path.{◌≡◌, ◌∙◌}
use mathlib.Core.Bool.{Bool, true, false}
use mathlib.Core.List.{List}
use Prim.Native.Nat.{ℕ, ◌+◌, ◌<◌}
use native.Mathlib.Omega.{arith}
use lib.ListN.{length}
use Rattle.definitions.specs.Reader.{place_at, is_next}
use Rattle.definitions.specs.Patterns.{cannot_stand, close_bracket}
use Rattle.text.specs.Cursors.{cursor_at}
use Rattle.text.proofs.Cursors.{after-in}
use Rattle.patterns.specs.Reading.{past-to, fault-at, Reads, ClosedBy}
use Rattle.patterns.proofs.Places.{next-within}

module _ (s : List ℕ) (at : ℕ) where
  pub not-closed : {blank : Bool} → is_next 41 (cursor_at s at) ≡ false → ClosedBy blank s at (Err (fault-at at))
  unfolding close_bracket cannot_stand place_at
  not-closed e p same = Reads.fault at (rw e)

  module _ (close : is_next 41 (cursor_at s at) ≡ true) where
    close-within : at < length s
    close-within = next-within s at 41 (omega arith) close

    pub closed-blank : {blank : Bool} → blank ≡ true → ClosedBy blank s at (Err (fault-at at))
    unfolding close_bracket cannot_stand place_at
    closed-blank e p same = Reads.fault at (rw (close, same, e))

    pub closed : {blank : Bool} → blank ≡ false → ClosedBy blank s at (Ok (past-to (at + 1) false))
    unfolding close_bracket
    closed e p same = Reads.past (at + 1) false (record {
      pattern = p;
      is = rw (close, same, e, after-in s at close-within);
      same = same ∙ e;
      after = omega arith;
      within = omega (arith, close-within);
    })
