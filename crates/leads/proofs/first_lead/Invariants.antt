-- `leads::first_lead` meets its contract. The loop's invariant: the first byte stands from b on. Assumes nothing.
use mathlib.Core.Path.{◌≡◌}
use Prim.Native.Nat.{◌-◌, ◌≤◌}
use Rattle.definitions.specs.Patterns.{Pattern}
use Rattle.marks.specs.Sweeping.{Reads}
use Rattle.leads.specs.Leading.{first_lead}
use Rattle.leads.proofs.first_lead.Given as goal

abbrev pub invariant-loop-b : goal.invariant-loop-b
invariant-loop-b l = (l.b ≤ 128) × ((p : Pattern) → Reads l.pattern p → first_lead p 32 96 ≡ first_lead p l.b (128 - l.b))
