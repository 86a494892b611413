use native.Mathlib.Omega.{arith}
use Rattle.editor.proofs.Walking.{gap-inside, gap-room, gap_up, gap_down}
use Rattle.editor.proofs.walk.gap_to.Goals as goal

pub shift_up-requires : goal.shift_up-requires
shift_up-requires c =
    let x = gap-inside c.requires.1 in
    (c.if-to-f.true, x.0, x.1, x.2)

pub returns-then-to-f : goal.returns-then-to-f
returns-then-to-f c = λ i w. gap_up w c.if-to-f.true _ c.shift_up.ensures

pub shift_down-requires : goal.shift_down-requires
shift_down-requires c =
    let x = gap-inside c.requires.1 in
    let less = c.if-to-f.false in
    (x.0, gap-room c.requires.1 (omega arith), x.2)

pub returns : goal.returns
returns c =
    let less = c.if-to-f.false in
    λ i w. gap_down w (omega arith) _ c.shift_down.ensures
