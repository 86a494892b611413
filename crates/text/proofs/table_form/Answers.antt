-- `text::table_form` meets its contract. One law for each way out. Assumes nothing.
use Rattle.std.proofs.Common.{sym, ◌∙◌}
use Rattle.text.proofs.Forms.{table-lines, table-many, table-not}
use Rattle.text.proofs.table_form.Goals as goal

pub returns-in_err-n : goal.returns-in_err-n
returns-in_err-n c = c.from_residual.ensures ∙ sym (table-not _ (sym c.in_err-n.ensures))

pub returns-then-n-le65535 : goal.returns-then-n-le65535
returns-then-n-le65535 c = sym (table-lines _ _ (sym c.in_ok-n.ensures) c.if-n-le65535.true)

pub returns-else-n-le65535 : goal.returns-else-n-le65535
returns-else-n-le65535 c = sym (table-many _ _ (sym c.in_ok-n.ensures) c.if-n-le65535.false)
