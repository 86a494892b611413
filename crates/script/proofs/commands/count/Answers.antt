-- `script::commands::count` meets its contract. Assumes nothing.
use Rattle.script.proofs.Items.{count-apart, over-count, small_count, large-count}
use Rattle.script.proofs.Distances.{digits-far, digits-end}
use native.Mathlib.Omega.{arith}
use Rattle.script.proofs.commands.count.Goals as goal

pub returns-then-n-gt65535 : goal.returns-then-n-gt65535
returns-then-n-gt65535 c = rw c.at.ensures (over-count _ _ _ _ _ _ c.requires.0 c.digits-d.ensures.read c.if-n-gt65535.true)

pub returns-then-n-lt512 : goal.returns-then-n-lt512
returns-then-n-lt512 c =
    let d = c.digits-d in
    let far = digits-far _ _ _ _ (omega (arith, c.requires.0.inside)) c.requires.1 d.ensures.read in
    rw (c.prefix.ensures, c.put_one.ensures) (small_count _ _ _ _ _ _ c.requires.0 d.ensures.read (count-apart _ _ _ _ _ c.requires.1 (digits-end _ _ _ _ d.ensures.read)) _ c.head_with.ensures c.if-n-lt512.true far.0 d.ensures.within.1)

pub returns : goal.returns
returns c =
    let d = c.digits-d in
    let far = digits-far _ _ _ _ (omega (arith, c.requires.0.inside)) c.requires.1 d.ensures.read in
    rw (c.prefix-2.ensures, c.put_two.ensures) (large-count _ _ _ _ _ _ c.requires.0 d.ensures.read (count-apart _ _ _ _ _ c.requires.1 (digits-end _ _ _ _ d.ensures.read)) _ c.head.ensures c.if-n-gt65535.false (far.1 (omega (arith, c.if-n-lt512.false))) d.ensures.within.1)
