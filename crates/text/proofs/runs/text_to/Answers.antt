-- `text::runs::text_to` meets its contract. Assumes nothing.
use Rattle.std.proofs.Common.{rules}
use Rattle.text.proofs.Texts.{run-within}
use Rattle.text.proofs.runs.text_to.Goals as goal

pub overflow_add-result : goal.overflow_add-result
overflow_add-result c = let a = c.args in let h = run-within a.s.now a.at a.stop c.requires.0 c.requires.1 in search rules
