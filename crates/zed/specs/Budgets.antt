-- Larger budgets never disagree (document 02, wish 5): of `zed_run`, which C programs call, and of any two calls that differ in the budget alone. It speaks of the
-- result, the five numbers in `answer`, and the bytes of the journal buffer.
use Rattle.std.specs.Prelude.{◌≡◌, ◌⊎◌, ◌≤◌, ◌<◌, length}
use Rattle.zed.specs.Demand3.{Call, Returned, number, steps, furthest, Accepted}

-- ---- the terms

-- "nothing but the budget changed": the same table and script, and as much room. What the work area and the journal buffer held before is of no matter: the
-- second call may be lent what the first one left in them.
pub record DifferInBudget (c c₂ : Call) : Type 0 where
  pub same_table : c₂.table ≡ c.table
  pub same_script : c₂.script ≡ c.script
  pub same_work : length c₂.work ≡ length c.work
  pub same_room : length c₂.buffer ≡ length c.buffer

-- "must end the same, with the same place, steps, furthest line and journal": the result, all five numbers, and every byte of the journal buffer. A refused call
-- leaves the buffer untouched, so that it holds the same afterwards if it did before.
pub record EndTheSame (c c₂ : Call) : Type 0 where
  pub same_result : c₂.result ≡ c.result
  pub same_answer : c₂.answer ≡ c.answer
  pub same_journal : Accepted c ⊎ (c₂.buffer ≡ c.buffer) → c₂.journal ≡ c.journal

-- "a run that ends otherwise" than with 29: done, stopped or refused
abbrev pub EndsOtherwise : Call → Type 0
EndsOtherwise c = number c ≡ 29 → ⊥

-- ---- the statement

pub record WishFive (c c₂ : Call) : Type 0 where
  -- "a run that ends otherwise under one budget must end the same .. under every larger one"
  pub same : EndsOtherwise c → c.budget ≤ c₂.budget → EndTheSame c c₂
  -- "A run stopped with 29 has made exactly as many steps as its budget."; no run makes more
  pub spent : number c ≡ 29 → steps c ≡ c.budget
  pub most : steps c ≤ c.budget
  -- the steps that were made are budget enough, the pass over the unread lines after the script's end takes none; a budget of fewer steps is not
  pub enough : EndsOtherwise c → steps c ≤ c₂.budget → EndTheSame c c₂
  pub short : c₂.budget < steps c → number c₂ ≡ 29
  -- "The depot raises the budget when a run ends with 29": at least the step that was wanted is then made, and no less is read
  pub further : number c ≡ 29 → c.budget < c₂.budget → (steps c < steps c₂) × (furthest c ≤ furthest c₂)

-- WISH 5 of `zed_run`
abbrev pub LargerBudgets : Type 0
LargerBudgets = (c c₂ : Call) → Returned c → Returned c₂ → DifferInBudget c c₂ → WishFive c c₂
