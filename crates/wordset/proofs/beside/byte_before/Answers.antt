use mathlib.Core.Path.{sym}
use borrow.Author.Rules.{rules}
use Rattle.wordset.proofs.BytesBefore.{before-start, before-later}
use Rattle.wordset.proofs.beside.byte_before.Goals as goal

pub returns-then-i-eq0 : goal.returns-then-i-eq0
returns-then-i-eq0 c = sym (before-start _ _ c.if-i-eq0.true)

pub returns : goal.returns
returns c = sym (before-later _ _ (search rules))
