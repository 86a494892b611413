-- `leads::last_lead` meets its contract. The loop's invariant: the last byte is one of the first n. Assumes nothing.
use mathlib.Core.Path.{◌≡◌}
use Prim.Native.Nat.{◌≤◌}
use Rattle.definitions.specs.Patterns.{Pattern}
use Rattle.marks.specs.Sweeping.{Reads}
use Rattle.leads.specs.Leading.{last_lead}
use Rattle.leads.proofs.last_lead.Given as goal

abbrev pub invariant-loop-b : goal.invariant-loop-b
invariant-loop-b l = (l.b ≤ 128) × ((p : Pattern) → Reads l.pattern p → last_lead p 128 ≡ last_lead p l.b)
