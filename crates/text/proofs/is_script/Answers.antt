-- `text::is_script` meets its contract. One law for each way out. Assumes nothing.
use Rattle.std.proofs.Common.{sym, ◌∙◌}
use borrow.Author.Tests.{lt-leb}
use Rattle.text.proofs.Forms.{script-long, script-short}
use Rattle.text.proofs.is_script.Goals as goal

pub returns-then-s-le16384 : goal.returns-then-s-le16384
returns-then-s-le16384 c = c.is_some.ensures ∙ rw c.lines_form.ensures (script-short _ c.if-s-le16384.true)

pub returns-else-s-le16384 : goal.returns-else-s-le16384
returns-else-s-le16384 c = lt-leb _ _ c.if-s-le16384.false ∙ sym (script-long _ c.if-s-le16384.false)
