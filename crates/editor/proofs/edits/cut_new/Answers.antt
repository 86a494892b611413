use mathlib.Core.Path.{refl, ◌∙◌}
use native.Mathlib.Omega.{arith}
use lib.ListN.{length-set}
use Rattle.editor.proofs.Striking.{cut-place, cut-length, cut_holds}
use Rattle.editor.proofs.edits.cut_new.Goals as goal

pub zero_after-z-requires : goal.zero_after-z-requires
zero_after-z-requires c =
    let h = c.requires.4 in
    omega (arith, h.front, h.order, cut-length h)

pub bounds-j-z : goal.bounds-j-z
bounds-j-z c =
    let h = c.requires.4 in
    omega (arith, h.front, h.order, cut-length h, cut-place h, c.zero_after-z.ensures)

pub overflow_add-from : goal.overflow_add-from
overflow_add-from c =
    let h = c.requires.4 in
    omega (arith, h.front, h.order, cut-length h, cut-place h, c.zero_after-z.ensures)

pub overflow_sub-n : goal.overflow_sub-n
overflow_sub-n c =
    let h = c.requires.4 in
    omega (arith, h.front, h.order, cut-length h, cut-place h, c.zero_after-z.ensures)

pub clear-requires : goal.clear-requires
clear-requires c =
    let h = c.requires.4 in
    simp length-set (omega (arith, h.front, h.order, cut-length h, cut-place h, c.zero_after-z.ensures))

pub shape_of-j : goal.shape_of-j
shape_of-j c = c.clear.auto.j ∙ simp length-set

pub returns : goal.returns
returns c =
    let z = c.zero_after-z in
    ((λ o n b a h. cut_holds h _ _ z.result z.ensures c.clear.ensures refl refl refl refl refl refl), record { furthest = refl; lines = refl; p = refl })
