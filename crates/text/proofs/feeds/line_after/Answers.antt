-- `text::feeds::line_after` meets its contract. Assumes nothing.
use Rattle.std.proofs.Common.{arith}
use Rattle.text.proofs.LineFeeds.{line-ends, line-open}
use Rattle.text.proofs.feeds.line_after.Goals as goal

pub returns-then-i-s : goal.returns-then-i-s
returns-then-i-s c =
    let a = c.args in
    line-ends a.s.now a.at c.place_after-i.result (omega arith) c.place_after-i.ensures (omega arith)

pub returns-else-i-s : goal.returns-else-i-s
returns-else-i-s c =
    let a = c.args in
    line-open a.s.now a.at c.place_after-i.result (omega arith) c.place_after-i.ensures (omega arith)
