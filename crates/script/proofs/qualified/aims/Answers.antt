-- `script::qualified::aims` meets its contract. Assumes nothing.
use mathlib.Core.Path.{◌∙◌}
use native.Mathlib.Omega.{arith}
use lib.ListN.{length-set}
use Rattle.answers.proofs.Taking.{passed}
use Rattle.script.proofs.Qualifying.{can_write, string-room, aims-small, aims-refused, aims-written}
use Rattle.script.proofs.qualified.aims.Goals as goal

pub returns-in_err-string : goal.returns-in_err-string
returns-in_err-string c = λ shape a. rw (passed _ _ c.from_residual.ensures.1) (aims-refused _ _ _ _ _ c.requires.0 a _ _ c.in_err-string.ensures)

pub head-requires : goal.head-requires
head-requires c = let pre = c.requires in (aims-small pre.1, omega (arith, pre.0.named, pre.0.inside, pre.0.fits.small))

pub overflow_sub-part : goal.overflow_sub-part
overflow_sub-part c = omega (arith, c.in_ok-string.ensures.1.ordered)

pub put_string-m-requires : goal.put_string-m-requires
put_string-m-requires c = let at = c.in_ok-string.ensures.1 in (can_write _ _ _ _ _ c.requires.0 _ _ _ _ at, simp length-set (omega (arith, string-room _ _ _ _ _ c.requires.0 _ _ _ _ at)))

pub shape_of-w : goal.shape_of-w
shape_of-w c = c.put_string-m.auto.words ∙ simp length-set

pub returns : goal.returns
returns c = λ shape a. rw c.whole.ensures (aims-written _ _ _ _ _ c.requires.0 a _ _ _ _ c.in_ok-string.ensures _ _ _ c.head.ensures c.put_string-m.ensures.0 c.put_string-m.ensures.1)
