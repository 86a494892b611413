-- `seasons::write::put_both` meets its contract. Equal texts are a kept line, others a changed one. Assumes nothing.
use mathlib.Core.Path.{sym, ◌∙◌}
use native.Mathlib.Omega.{arith}
use Rattle.middle.specs.Leaving.{text_in}
use Rattle.seasons.proofs.Texts.{in-bounds, kept-room, kept-done, changed-room, second-room, changed-done}
use Rattle.seasons.proofs.write.put_both.Goals as goal

pub slice_bounds-put_marked-count : goal.slice_bounds-put_marked-count
slice_bounds-put_marked-count c = omega (arith, in-bounds _ _ c.requires.0)

pub slice_bounds-put_marked-start : goal.slice_bounds-put_marked-start
slice_bounds-put_marked-start c = omega (arith, in-bounds _ _ c.requires.0)

pub slice_bounds-put_marked-end : goal.slice_bounds-put_marked-end
slice_bounds-put_marked-end c = omega (arith, in-bounds _ _ c.requires.0)

pub slice_bounds-put_marked-count-2 : goal.slice_bounds-put_marked-count-2
slice_bounds-put_marked-count-2 c = omega (arith, in-bounds _ _ c.requires.0)

pub slice_bounds-put_marked-start-2 : goal.slice_bounds-put_marked-start-2
slice_bounds-put_marked-start-2 c = omega (arith, in-bounds _ _ c.requires.0)

pub slice_bounds-put_marked-end-2 : goal.slice_bounds-put_marked-end-2
slice_bounds-put_marked-end-2 c = omega (arith, in-bounds _ _ c.requires.0)

pub slice_bounds-put_line-count : goal.slice_bounds-put_line-count
slice_bounds-put_line-count c = omega (arith, in-bounds _ _ c.requires.1)

pub slice_bounds-put_line-start : goal.slice_bounds-put_line-start
slice_bounds-put_line-start c = omega (arith, in-bounds _ _ c.requires.1)

pub slice_bounds-put_line-end : goal.slice_bounds-put_line-end
slice_bounds-put_line-end c = omega (arith, in-bounds _ _ c.requires.1)

pub put_marked-requires : goal.put_marked-requires
unfolding text_in
put_marked-requires c =
    let a = c.args in
    kept-room a.j.now a.k.now a.old a.new c.requires.0 c.requires.1 a.dest.now a.out c.requires.2 (sym c.same_text.ensures ∙ c.if-same_text.true)

pub returns-then-same_text : goal.returns-then-same_text
unfolding text_in
returns-then-same_text c =
    let a = c.args in
    kept-done a.j.now a.k.now a.old a.new c.requires.0 c.requires.1 a.dest.now a.out c.requires.2 (sym c.same_text.ensures ∙ c.if-same_text.true) _ _
    c.put_marked.ensures

pub put_marked-next-requires : goal.put_marked-next-requires
unfolding text_in
put_marked-next-requires c =
    let a = c.args in
    changed-room a.j.now a.k.now a.old a.new c.requires.0 c.requires.1 a.dest.now a.out c.requires.2 (sym c.same_text.ensures ∙ c.if-same_text.false)

pub put_line-requires : goal.put_line-requires
unfolding text_in
put_line-requires c =
    let a = c.args in
    second-room a.j.now a.k.now a.old a.new c.requires.0 c.requires.1 a.dest.now a.out c.requires.2 (sym c.same_text.ensures ∙ c.if-same_text.false) _ _
    c.put_marked-next.ensures

pub returns : goal.returns
unfolding text_in
returns c =
    let a = c.args in
    changed-done a.j.now a.k.now a.old a.new c.requires.0 c.requires.1 a.dest.now a.out c.requires.2 (sym c.same_text.ensures ∙ c.if-same_text.false) _ _
    c.put_marked-next.ensures _ _ c.put_line.ensures
