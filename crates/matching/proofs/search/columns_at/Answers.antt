use mathlib.Core.Path.{sym}
use native.Mathlib.Omega.{arith}
use Rattle.matching.proofs.Words.{no-columns, some-columns}
use Rattle.matching.proofs.search.columns_at.Goals as goal

pub returns-then-flags-eq0 : goal.returns-then-flags-eq0
returns-then-flags-eq0 c = sym (no-columns _ _ (omega (arith, c.requires.0)))

pub overflow_add-result : goal.overflow_add-result
overflow_add-result c = omega (arith, c.requires.1 (omega (arith, c.if-flags-eq0.false)))

pub offset_bounds-words-k : goal.offset_bounds-words-k
offset_bounds-words-k c = omega (arith, c.requires.1 (omega (arith, c.if-flags-eq0.false)))

pub bounds-words-k : goal.bounds-words-k
bounds-words-k c = c.requires.1 (omega (arith, c.if-flags-eq0.false))

pub returns : goal.returns
returns c = sym (some-columns _ _ (omega (arith, c.requires.0)))
