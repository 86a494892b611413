-- `gap::shift_up` meets its contract: the bytes are copied up, and those of them that are left are cleared. Assumes nothing.
use mathlib.Core.Path.{◌∙◌}
use native.Mathlib.Omega.{arith}
use Rattle.gap.proofs.Laws.{up-copied}
use Rattle.gap.proofs.shift_up.Goals as goal

pub returns : goal.returns
returns c =
    let a = c.args in
    let k = c.min-k in
    c.clear.ensures ∙ rw c.copy_up.ensures (up-copied a.j.now a.lo a.f a.b k.result (omega arith) (omega arith) (omega arith) c.requires.3 k.ensures)
