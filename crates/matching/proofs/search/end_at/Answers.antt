use mathlib.Core.Path.{sym}
use Rattle.matching.specs.Words.{flags_at}
use Rattle.matching.proofs.Words.{ends-soon, ends-late}
use Rattle.matching.proofs.search.end_at.Goals as goal

pub returns-then-words-k-eq0 : goal.returns-then-words-k-eq0
unfolding flags_at
returns-then-words-k-eq0 c = sym (ends-soon _ _ c.if-words-k-eq0.true)

pub returns : goal.returns
unfolding flags_at
returns c = sym (ends-late _ _ c.if-words-k-eq0.false)
