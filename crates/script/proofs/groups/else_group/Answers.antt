-- `script::groups::else_group` meets its contract. Assumes nothing.
use native.Mathlib.Omega.{arith}
use lib.ListN.{length-set}
use Rattle.script.proofs.Keeping.{free}
use mathlib.Core.Path.{sym, ◌∙◌}
use Rattle.script.proofs.Nested.{ending-room, else-missing, else-opens}
use Rattle.script.proofs.groups.else_group.Goals as goal

pub returns-then-next_byte-ne40 : goal.returns-then-next_byte-ne40
returns-then-next_byte-ne40 c = λ acc h. rw c.at.ensures (else-missing _ _ _ _ acc h _ (λ e. c.if-next_byte-ne40.true (c.next_byte.ensures ∙ e)))

pub bounds-w-k-2 : goal.bounds-w-k-2
bounds-w-k-2 c = simp length-set (omega (arith, free _ _ _ _ _ c.requires.0.1))

pub overflow_cast-w : goal.overflow_cast-w
overflow_cast-w c = omega (arith, ending-room _ _ _ _ _ c.requires.0.1 c.requires.1 _ c.requires.2)

pub overflow_mul-w : goal.overflow_mul-w
overflow_mul-w c = omega (arith, ending-room _ _ _ _ _ c.requires.0.1 c.requires.1 _ c.requires.2)

pub bounds-w-top : goal.bounds-w-top
bounds-w-top c = simp length-set (omega (arith, free _ _ _ _ _ c.requires.0.1))

pub returns : goal.returns
returns c = λ acc h. else-opens _ _ _ _ acc h _ c.requires.1 c.requires.3 c.requires.2 (sym c.next_byte.ensures ∙ c.if-next_byte-ne40.false)
