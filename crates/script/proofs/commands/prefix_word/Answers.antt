-- `script::commands::prefix_word` meets its contract. Assumes nothing.
use Rattle.script.proofs.commands.prefix_word.Goals as goal

pub returns : goal.returns
returns c = (rw c.head.ensures, c.prefix.ensures)
