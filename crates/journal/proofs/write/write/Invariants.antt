-- `journal::write::write` meets its contract. The loop's invariant is `Going`. Assumes nothing.
use mathlib.Core.Path.{◌≡◌}
use Rattle.journal.proofs.Going.{Going}
use Rattle.journal.proofs.write.write.Given as goal

abbrev pub invariant-loop-x : goal.invariant-loop-x
invariant-loop-x l = (l.x-iterator.j.now ≡ l.j) × Going l.view l.j l.initial.dest l.x-iterator.at l.out l.gone l.dest
