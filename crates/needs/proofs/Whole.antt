-- The byte of the whole string. Assumes nothing.
use mathlib.Core.Path.{◌≡◌}
use lib.ListN.{length}
use Rattle.definitions.specs.Bytes.{Line}
use Rattle.definitions.specs.Patterns.{Pattern}
use Rattle.marks.specs.Sweeping.{Reads}
use Rattle.marks.specs.Written.{Kind}
use Rattle.marks.proofs.Reading.{reads-stands}
use Rattle.needs.specs.Needing.{need_of, There, Needs}
use Rattle.needs.specs.declared.Need.{Need}

module _ (s : Line) where
  pub whole-there : (p : Pattern) → Reads s p → There s Kind.alternatives 0
  whole-there p reads = record { pattern = p; end = length s; stands = reads-stands s p reads }

  pub whole-needs : {r : Need} → Needs s Kind.alternatives 0 r → (p : Pattern) → Reads s p → r.byte ≡ need_of p
  whole-needs needs p reads = (needs p (length s) (reads-stands s p reads)).byte
