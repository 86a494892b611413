-- `script::commands::whole_word` meets its contract. Assumes nothing.
use Rattle.script.proofs.commands.whole_word.Goals as goal

pub returns : goal.returns
returns c = (rw c.head.ensures, c.whole.ensures)
