-- `journal::write::put_head` meets its contract. By the view: where it is not the listing, nothing is written. Assumes nothing.
use mathlib.Core.Logic.{⊎_elim}
use Rattle.journal.proofs.Writing.{puts-nothing, head-old, head-new}
use Rattle.journal.proofs.write.put_head.Goals as goal

pub returns-in-OldSide : goal.returns-in-OldSide
returns-in-OldSide c =
    let a = c.args in
    puts-nothing _ a.dest.now a.out (⊎_elim (λ e. head-old a.mark a.gone a.view e) (λ e. head-new a.mark a.gone a.view e) c.in-OldSide.is)
