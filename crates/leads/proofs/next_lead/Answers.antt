-- `leads::next_lead` meets its contract. The loop's invariant: no match begins from i up to k. Assumes nothing.
use mathlib.Core.Path.{◌≡◌, refl, sym, ap, ◌∙◌}
use mathlib.Core.Bool.{Bool, true, false}
use mathlib.Core.List.{List}
use Prim.Native.Nat.{ℕ, ◌+◌}
use native.Mathlib.Omega.{arith}
use lib.ListN.{get_or}
use lib.Dec.{eqb}
use borrow.Author.Tests.{eqb-true, eqb-false}
use Rattle.leads.specs.declared.Leads.{Leads}
use Rattle.leads.specs.Leading.{is_lead}
use Rattle.leads.proofs.next_lead.Invariants.{Passed}
use Rattle.leads.proofs.next_lead.Goals as goal

passed_none : (r : Leads) (l : List ℕ) (i : ℕ) → Passed r l i i
passed_none r l i j h k = absurd (omega arith)

passed_on : (r : Leads) (l : List ℕ) (i k : ℕ) → Passed r l i k → is_lead r (get_or l k 0) ≡ false → Passed r l i (k + 1)
passed_on r l i k before here j low high = go (eqb j k) refl
  where
    go : (t : Bool) → eqb j k ≡ t → is_lead r (get_or l j 0) ≡ false
    go true e = ap (λ (m : ℕ). is_lead r (get_or l m 0)) (eqb-true j k e) ∙ here
    go false e = let other = eqb-false j k e in before j low (omega arith)

pub loop-k-init : goal.loop-k-init
loop-k-init c =
    let a = c.args in
    (omega arith, omega arith, passed_none a.r a.line.now a.i)

pub returns-then-leads_with : goal.returns-then-leads_with
returns-then-leads_with c =
    let l = c.loop-k in
    record {
      from = l.invariant.0;
      inside = l.invariant.1;
      passed = l.invariant.2;
      leads = λ h. sym c.leads_with.ensures ∙ c.if-leads_with.true;
    }

pub loop-k-preserved : goal.loop-k-preserved
loop-k-preserved c =
    let a = c.args in
    let l = c.loop-k in
    (omega arith, omega arith, passed_on a.r a.line.now a.i l.k l.invariant.2 (sym c.leads_with.ensures ∙ c.if-leads_with.false))

pub returns : goal.returns
returns c =
    let l = c.loop-k in
    record { from = omega arith; inside = omega arith; passed = λ j low high. l.invariant.2 j low (omega arith); leads = λ h. absurd (omega arith) }
