use mathlib.Core.Path.{refl, ◌∙◌}
use native.Mathlib.Omega.{arith}
use lib.ListN.{length-set}
use Rattle.editor.proofs.Striking.{strike-room, strike-inserted, strike-kept, strike-changed, cut-asks}
use Rattle.editor.proofs.edits.strike_record.Goals as goal

pub bounds-j-f : goal.bounds-j-f
bounds-j-f c =
    let w = strike-room _ c.requires in
    omega (arith, w.0, w.1)

pub overflow_sub-n : goal.overflow_sub-n
overflow_sub-n c =
    let w = strike-room _ c.requires in
    omega (arith, w.0, w.1)

pub clear-requires : goal.clear-requires
clear-requires c =
    let w = strike-room _ c.requires in
    omega (arith, w.0, w.1)

pub shape_of-j-then-m-eq43 : goal.shape_of-j-then-m-eq43
shape_of-j-then-m-eq43 c = c.clear.auto.j

pub returns-then-m-eq43 : goal.returns-then-m-eq43
returns-then-m-eq43 c = (strike-inserted _ _ c.if-m-eq43.true c.clear.ensures refl refl refl refl refl refl, record { furthest = refl; lines = refl; p = refl })

pub bounds-j-f-2 : goal.bounds-j-f-2
bounds-j-f-2 c =
    let w = strike-room _ c.requires in
    omega (arith, w.0, w.1)

pub overflow_add-j : goal.overflow_add-j
overflow_add-j c =
    let w = strike-room _ c.requires in
    omega (arith, w.0, w.1)

pub bounds-j-f-3 : goal.bounds-j-f-3
bounds-j-f-3 c =
    let w = strike-room _ c.requires in
    simp length-set (omega (arith, w.0, w.1))

pub cut_new-requires : goal.cut_new-requires
cut_new-requires c = cut-asks _ c.if-m-eq60.true refl c.requires

pub shape_of-j-then-m-eq60 : goal.shape_of-j-then-m-eq60
shape_of-j-then-m-eq60 c = c.cut_new.auto.j ∙ simp length-set

pub returns-then-m-eq60 : goal.returns-then-m-eq60
returns-then-m-eq60 c = (strike-changed _ c.if-m-eq60.true refl c.cut_new.ensures.0, c.cut_new.ensures.1)

pub shape_of-j : goal.shape_of-j
shape_of-j c = simp length-set

pub returns : goal.returns
returns c = (strike-kept _ c.if-m-eq43.false c.if-m-eq60.false refl, record { furthest = refl; lines = refl; p = refl })
