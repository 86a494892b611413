-- `closing::arranging::arrange_row` meets its contract. Assumes nothing.
use native.Mathlib.Omega.{arith}
use Rattle.closing.proofs.Rows.{through-long, row-in-order, row-gathered}
use Rattle.closing.proofs.arranging.arrange_row.Goals as goal

pub returns-then-left-end : goal.returns-then-left-end
returns-then-left-end c =
    let found = c.line_with-came in
    let left = c.lines_below-left in
    let end = c.lines_below-end in
    let a = c.args in
    let g = c.gather in (
      λ before rs good is place. (
        row-gathered a.s.now a.at found.result left.result end.result found.ensures.0 left.ensures.0 end.ensures.0 before rs good is place g.new.s g.result g.ensures,
        through-long a.s.now a.at found.result left.result end.result found.ensures.0 left.ensures.0 end.ensures.0 before rs good is place,
      ),
      omega (arith, found.ensures.0, left.ensures.1, end.ensures.1),
      end.ensures.2,
    )

pub returns-else-left-end : goal.returns-else-left-end
returns-else-left-end c =
    let found = c.line_with-came in
    let left = c.lines_below-left in
    let end = c.lines_below-end in
    let a = c.args in (
      λ before rs good is place. (
        row-in-order a.s.now a.at found.result left.result end.result found.ensures.0 left.ensures.0 end.ensures.0 before rs good is place c.if-left-end.false,
        through-long a.s.now a.at found.result left.result end.result found.ensures.0 left.ensures.0 end.ensures.0 before rs good is place,
      ),
      omega (arith, found.ensures.0, left.ensures.1, end.ensures.1),
      end.ensures.2,
    )
