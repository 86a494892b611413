-- Larger budgets never disagree, of the function `zed_run`: its contract, and the definitions' wish 5. Assumes nothing.
use mathlib.Core.Path.{◌≡◌, sym, ap, ◌∙◌}
use mathlib.Core.Logic.{◌⊎◌, inl, inr}
use mathlib.Core.List.{List}
use Prim.Native.Nat.{ℕ}
use lib.ListN.{length}
use Rattle.definitions.specs.Run.{Answer, answer, refusal, run_answer, answer_number, answer_steps, answer_furthest, buffer_after}
use Rattle.theorems.specs.Demand3.{IsAccepted}
use Rattle.theorems.proofs.BudgetsProof.{AnswersAgree, answers_agree}
use Rattle.zed.specs.Values.{values, run_of}
use Rattle.zed.specs.Demand3.{Call, ran, Returned, steps, furthest, Accepted}
use Rattle.zed.specs.Budgets.{DifferInBudget, EndTheSame, WishFive, LargerBudgets}
use Rattle.zed.proofs.Demand3.{number_is, is-accepted}

steps-are : (c : Call) → Returned c → steps c ≡ answer_steps (ran c)
unfolding values
steps-are c h = rw h.answers

furthest-is : (c : Call) → Returned c → furthest c ≡ answer_furthest (ran c)
unfolding values
furthest-is c h = rw h.answers

-- what a run that is not refused leaves in the journal buffer does not depend on what was there
left-by-length : (a : Answer) → IsAccepted a → (buffer buffer₂ : List ℕ) → length buffer₂ ≡ length buffer → buffer_after buffer₂ a ≡ buffer_after buffer a
unfolding IsAccepted buffer_after
left-by-length (answer n made f at j) h buffer buffer₂ q = rw q
left-by-length (refusal n at) h buffer buffer₂ q = absurd h

-- the two calls' answers are those of one run under two budgets
module _ (c c₂ : Call) (h : Returned c) (h₂ : Returned c₂) (d : DifferInBudget c c₂) where
  abbrev under : ℕ → Answer
  under budget = run_answer c.table c.script budget (length c.work) (length c.buffer)

  second : ran c₂ ≡ under c₂.budget
  unfolding run_of
  second = rw (d.same_table, d.same_script, d.same_work, d.same_room)

  same_end : ran c₂ ≡ ran c → EndTheSame c c₂
  same_end e = record {
    same_result = h₂.number ∙ ap answer_number e ∙ sym h.number;
    same_answer = h₂.answers ∙ ap values e ∙ sym h.answers;
    same_journal = λ k. h₂.journals ∙ ap (buffer_after c₂.buffer) e ∙ left k ∙ sym h.journals;
  }
    where
      left : Accepted c ⊎ (c₂.buffer ≡ c.buffer) → buffer_after c₂.buffer (ran c) ≡ buffer_after c.buffer (ran c)
      left (inl k) = left-by-length (ran c) (unfold run_of in (is-accepted c h k)) c.buffer c₂.buffer d.same_room
      left (inr q) = rw q

  wish-five : AnswersAgree c.table c.script (length c.work) (length c.buffer) c.budget → WishFive c c₂
  unfolding run_of
  wish-five a = record {
    same = λ o le. same_end (second ∙ a.same (λ q. o (number_is c h ∙ q)) c₂.budget le);
    spent = λ q. steps-are c h ∙ a.spent (sym (number_is c h) ∙ q);
    most = rw (steps-are c h) a.most;
    enough = λ o le. same_end (second ∙ a.enough (λ q. o (number_is c h ∙ q)) c₂.budget (rw (steps-are c h) at le));
    short = λ less. number_is c₂ h₂ ∙ ap answer_number second ∙ a.short c₂.budget (rw (steps-are c h) at less);
    further = λ q less. rw (steps-are c h, steps-are c₂ h₂, furthest-is c h, furthest-is c₂ h₂, second) (a.further (sym (number_is c h) ∙ q) c₂.budget less);
  }

-- THE LAW: wish 5 of any two calls of `zed_run` that differ in the budget alone
pub zed-larger-budgets : LargerBudgets
zed-larger-budgets c c₂ h h₂ d = wish-five c c₂ h h₂ d (answers_agree c.table c.script (length c.work) (length c.buffer) c.budget)
