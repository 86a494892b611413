use native.Mathlib.Omega.{arith}
use Rattle.taking.proofs.Leaves.{answers-none, answers_at, answers-fit}
use Rattle.taking.proofs.answer.Goals as goal

pub returns-then-best-eq-NEVER : goal.returns-then-best-eq-NEVER
returns-then-best-eq-NEVER c = answers-none _ c.if-best-eq-NEVER.true

pub overflow_sub-result : goal.overflow_sub-result
overflow_sub-result c = answers-fit _ c.requires (omega arith)

pub returns : goal.returns
returns c = answers_at _ (omega arith)
