use mathlib.Core.Path.{sym}
use native.Mathlib.Omega.{arith}
use Rattle.matching.proofs.Words.{and-on, and-past, or-past, or-on}
use Rattle.matching.proofs.search.after_joint.Goals as goal

pub returns-then-truth : goal.returns-then-truth
returns-then-truth c = sym (and-on _ _ _ c.if-w-eq1.true c.if-truth.true)

pub overflow_cast-result : goal.overflow_cast-result
overflow_cast-result c = omega (arith, c.shared_slice_known-1.given c.args.k)

pub returns-then-w-eq1 : goal.returns-then-w-eq1
returns-then-w-eq1 c = sym (and-past _ _ _ c.if-w-eq1.true c.if-truth.false)

pub overflow_cast-result-then-truth-2 : goal.overflow_cast-result-then-truth-2
overflow_cast-result-then-truth-2 c = omega (arith, c.shared_slice_known-1.given c.args.k)

pub returns-then-truth-2 : goal.returns-then-truth-2
returns-then-truth-2 c = sym (or-past _ _ _ c.if-w-eq1.false c.if-truth-2.true)

pub returns : goal.returns
returns c = sym (or-on _ _ _ c.if-w-eq1.false c.if-truth-2.false)
