-- `strings::wants_bytes` meets its contract. Assumes nothing.
use mathlib.Core.Path.{sym}
use Rattle.strings.proofs.Quoting.{counts-want, words-want}
use Rattle.strings.proofs.wants_bytes.Goals as goal

pub returns-then-q-ne0 : goal.returns-then-q-ne0
returns-then-q-ne0 c = sym (counts-want c.args.q c.requires c.if-q-ne0.true)

pub returns : goal.returns
returns c = sym (words-want c.args.q c.requires c.if-q-ne0.false)
