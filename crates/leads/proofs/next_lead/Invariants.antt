-- `leads::next_lead` meets its contract. The loop's invariant: no match begins from i up to k. Assumes nothing.
use mathlib.Core.Path.{◌≡◌}
use mathlib.Core.Bool.{false}
use mathlib.Core.List.{List}
use Prim.Native.Nat.{ℕ, ◌≤◌, ◌<◌}
use lib.ListN.{get_or}
use Rattle.leads.specs.declared.Leads.{Leads}
use Rattle.leads.specs.Leading.{is_lead}
use Rattle.leads.proofs.next_lead.Given as goal

abbrev pub Passed : Leads → List ℕ → ℕ → ℕ → Type 0
Passed r l i k = (j : ℕ) → i ≤ j → j < k → is_lead r (get_or l j 0) ≡ false

abbrev pub invariant-loop-k : goal.invariant-loop-k
invariant-loop-k l = (l.i ≤ l.k) × (l.k ≤ l.end) × Passed l.r l.line l.i l.k
