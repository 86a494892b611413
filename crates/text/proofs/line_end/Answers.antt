-- `text::line_end` meets its contract: the first byte that is not text ends the line, or none does. Assumes nothing.
use Rattle.std.proofs.Common.{◌+◌, sym, arith}
use Rattle.text.proofs.Ends.{end-outside, end-at, end-other, end-stop}
use Rattle.text.proofs.line_end.Goals as goal
use Rattle.text.proofs.line_end.Goals.{else-i-stop-via-then-i-stop+else-s-i-eq10, else-i-stop-via-else-i-stop}

pub returns-then-s-at : goal.returns-then-s-at
returns-then-s-at c = let a = c.args in sym (end-outside a.s.now a.at (omega arith))

pub returns-then-s-i-eq10 : goal.returns-then-s-i-eq10
returns-then-s-i-eq10 c =
    let a = c.args in
    let k = c.lesser in
    let f = c.text_to-i in
    sym (end-at a.s.now a.at (a.at + k.result) f.result (omega arith) (omega (arith, k.ensures)) f.ensures (omega arith) c.if-s-i-eq10.true)

pub returns-else-i-stop : goal.returns-else-i-stop
returns-else-i-stop c =
    let a = c.args in
    let k = c.lesser in
    let f = c.text_to-i in
    elim c.else-i-stop.branch [
      | else-i-stop-via-then-i-stop+else-s-i-eq10 w ↦
          sym (end-other a.s.now a.at (a.at + k.result) f.result (omega arith) (omega (arith, k.ensures)) f.ensures w.if-i-stop.true w.if-s-i-eq10.false)
      | else-i-stop-via-else-i-stop w ↦
          sym (end-stop a.s.now a.at (a.at + k.result) f.result (omega arith) (omega (arith, k.ensures)) f.ensures w.if-i-stop.false)
    ]
