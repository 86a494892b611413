use native.Mathlib.Omega.{arith}
use Rattle.inserts.proofs.Putting.{putting-start, putting-done, putting-good, putting-room, putting-on}
use Rattle.inserts.proofs.put_lines.Goals as goal

pub loop-at-init : goal.loop-at-init
loop-at-init c = putting-start c.requires.1 c.requires.2

pub put_line-r-requires : goal.put_line-r-requires
put_line-r-requires c =
    let l = c.loop-at in
    let e = c.line_end-e in
    let x = l.invariant.puts _ _ c.requires.0.2 in
    ((_, _, x.1), (omega arith, putting-good l.invariant c.requires.1.inside (omega arith) e.result e.ensures.0 e.ensures.1), putting-room l.invariant c.requires.1.inside (omega arith) e.result e.ensures.0 e.ensures.1)

pub loop-at-preserved : goal.loop-at-preserved
loop-at-preserved c =
    let l = c.loop-at in
    let e = c.line_end-e in
    let r = c.put_line-r in
    putting-on l.invariant c.requires.1.inside (omega arith) e.result e.ensures.0 e.ensures.1 c.requires.0 r.ensures.0 r.ensures.1 r.auto.j

pub shape_of-j : goal.shape_of-j
shape_of-j c = c.loop-at.invariant.long

pub returns : goal.returns
returns c =
    let l = c.loop-at in
    (putting-done l.invariant c.requires.1.inside (omega arith), l.invariant.stays)
