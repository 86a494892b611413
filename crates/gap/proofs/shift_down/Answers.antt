-- `gap::shift_down` meets its contract: the bytes are copied down, and those of them that are left are cleared. Assumes nothing.
use mathlib.Core.Path.{◌∙◌}
use native.Mathlib.Omega.{arith}
use Rattle.gap.proofs.Laws.{down-copied}
use Rattle.gap.proofs.shift_down.Goals as goal

pub returns : goal.returns
returns c =
    let a = c.args in
    let k = c.min-k in
    c.clear.ensures ∙ rw c.copy_down.ensures (down-copied a.j.now a.f a.b a.n k.result (omega arith) (omega arith) c.requires.2 k.ensures)
