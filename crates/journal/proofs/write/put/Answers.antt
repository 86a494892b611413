-- `journal::write::put` meets its contract. The head, then the line. Assumes nothing.
use mathlib.Core.Path.{sym}
use native.Mathlib.Omega.{arith}
use Rattle.journal.proofs.Here.{here, in_order}
use Rattle.journal.proofs.Writing.{span-within, put-none, put-head-room, put-line-room, put-done}
use Rattle.journal.proofs.write.put.Goals as goal

pub span_of-requires : goal.span_of-requires
span_of-requires c = in_order _ _ _ (here _ _ _ c.requires.0) (omega arith)

pub returns-in_default : goal.returns-in_default
returns-in_default c =
    let a = c.args in
    put-none _ _ (here _ _ _ c.requires.0) a.gone c.requires.1 a.view a.dest.now a.out (sym c.in_default.ensures)

pub put_head-next-requires : goal.put_head-next-requires
put_head-next-requires c =
    let a = c.args in
    (c.requires.1, put-head-room _ _ (here _ _ _ c.requires.0) a.gone c.requires.1 a.view _ (sym c.in-Some.ensures) a.dest.now a.out c.requires.2)

pub slice_bounds-put_line-count : goal.slice_bounds-put_line-count
slice_bounds-put_line-count c = (span-within _ _ (here _ _ _ c.requires.0) _ _ (sym c.in-Some.ensures)).0

pub slice_bounds-put_line-start : goal.slice_bounds-put_line-start
slice_bounds-put_line-start c = omega (arith, span-within _ _ (here _ _ _ c.requires.0) _ _ (sym c.in-Some.ensures))

pub slice_bounds-put_line-end : goal.slice_bounds-put_line-end
slice_bounds-put_line-end c = omega (arith, span-within _ _ (here _ _ _ c.requires.0) _ _ (sym c.in-Some.ensures))

pub put_line-requires : goal.put_line-requires
put_line-requires c =
    let a = c.args in
    put-line-room _ _ (here _ _ _ c.requires.0) a.gone c.requires.1 a.view _ (sym c.in-Some.ensures) a.dest.now a.out c.requires.2 _ _ c.put_head-next.ensures

pub returns : goal.returns
returns c =
    let a = c.args in
    put-done _ _ (here _ _ _ c.requires.0) a.gone c.requires.1 a.view _ (sym c.in-Some.ensures) a.dest.now a.out c.requires.2 _ _ c.put_head-next.ensures
    _ _ c.put_line.ensures
