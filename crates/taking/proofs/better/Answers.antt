use native.Mathlib.Omega.{arith}
use Rattle.taking.proofs.Leaves.{none-better, last-better, old-better, new-better}
use Rattle.taking.proofs.better.Goals as goal

pub returns-then-start-eq-NEVER : goal.returns-then-start-eq-NEVER
returns-then-start-eq-NEVER c = none-better _ _ _ _ c.if-start-eq-NEVER.true

pub returns-then-last : goal.returns-then-last
returns-then-last c = last-better _ _ _ _ (omega arith) c.if-last.true

pub returns-then-best-start : goal.returns-then-best-start
returns-then-best-start c = old-better _ _ _ _ (omega arith) c.if-last.false c.if-best-start.true

pub returns : goal.returns
returns c = new-better _ _ _ _ (omega arith) c.if-last.false c.if-best-start.false
