use native.Mathlib.Omega.{arith}
use Rattle.editor.proofs.Held.{held_bytes}
use Rattle.changes.proofs.Ends.{text_of, ends-plain, ends-changed}
use Rattle.changes.proofs.rewrite.record_ends.Goals as goal

pub text_at-x-requires : goal.text_at-x-requires
text_at-x-requires c = let w = c.requires in
    (w.1, _, w.3.good.0, held_bytes w.3)

pub overflow_add-end : goal.overflow_add-end
overflow_add-end c = let w = c.requires in
    omega (arith, (text_of c.text_at-x.ensures w.3).within)

pub bounds-j-at : goal.bounds-j-at
bounds-j-at c = let w = c.requires in
    let x = text_of c.text_at-x.ensures w.3 in
    omega (arith, x.within, x.after)

pub overflow_sub-result : goal.overflow_sub-result
overflow_sub-result c = let w = c.requires in
    omega (arith, (text_of c.text_at-x.ensures w.3).after)

pub overflow_add-result : goal.overflow_add-result
overflow_add-result c = let w = c.requires in
    omega (arith, (text_of c.text_at-x.ensures w.3).within)

pub returns-then-j-at-eq60 : goal.returns-then-j-at-eq60
returns-then-j-at-eq60 c = λ b r a h. ends-changed _ _ _ c.if-j-at-eq60.true r h (text_of c.text_at-x.ensures h)

pub overflow_add-result-2 : goal.overflow_add-result-2
overflow_add-result-2 c = let w = c.requires in
    omega (arith, (text_of c.text_at-x.ensures w.3).within)

pub returns : goal.returns
returns c = λ b r a h. ends-plain _ _ _ c.if-j-at-eq60.false r h (text_of c.text_at-x.ensures h)
