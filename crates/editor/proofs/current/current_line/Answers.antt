use native.Mathlib.Omega.{arith}
use Rattle.editor.proofs.Walking.{standing}
use Rattle.editor.proofs.CurrentText.{kept-room, kept_line, other-room, other-line}
use Rattle.editor.proofs.current.current_line.Goals as goal

pub place_after-to-requires : goal.place_after-to-requires
place_after-to-requires c = let w = c.requires in
    (omega (arith, kept-room w.1 _ c.if-j-at-eq61.true w.0.0 w.0.1 w.0.2 w.0.3), omega arith)

pub slice_bounds-result-end : goal.slice_bounds-result-end
slice_bounds-result-end c = let w = c.requires in
    omega (arith, kept-room w.1 _ c.if-j-at-eq61.true w.0.0 w.0.1 w.0.2 w.0.3)

pub returns-then-j-at-eq61 : goal.returns-then-j-at-eq61
returns-then-j-at-eq61 c = let w = c.requires in
    kept_line w.1 _ c.if-j-at-eq61.true _ c.place_after-to.ensures

pub text_at-x-requires : goal.text_at-x-requires
text_at-x-requires c = let w = c.requires in
    standing w.0.2.holds w.1

pub overflow_add-to : goal.overflow_add-to
overflow_add-to c = let w = c.requires in
    let x = c.text_at-x in
    omega (arith, other-room x.result.from x.result.n w.1 x.ensures w.0.0 w.0.1 w.0.2)

pub slice_bounds-result-end-2 : goal.slice_bounds-result-end-2
slice_bounds-result-end-2 c = let w = c.requires in
    let x = c.text_at-x in
    other-room x.result.from x.result.n w.1 x.ensures w.0.0 w.0.1 w.0.2

pub returns : goal.returns
returns c = let w = c.requires in
    let x = c.text_at-x in
    λ e t h u. other-line x.result.from x.result.n w.1 x.ensures e t h
