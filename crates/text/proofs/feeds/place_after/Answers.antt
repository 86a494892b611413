-- `text::feeds::place_after` meets its contract. The loop's invariant: the next c from i on is the next from `at` on. Assumes nothing.
use Rattle.std.proofs.Common.{◌+◌, sym, ◌∙◌, arith}
use Rattle.text.proofs.LineFeeds.{place-hit, place-miss, place_none, place-over}
use Rattle.text.proofs.feeds.place_after.Goals as goal

pub text_to-i-requires : goal.text_to-i-requires
text_to-i-requires c = (omega arith, omega arith)

pub loop-i-init : goal.loop-i-init
loop-i-init c =
    let a = c.args in
    let past = place-over a.c (omega arith) a.s.now a.at c.text_to-i.result (omega arith) c.text_to-i.ensures in
    (past.1, past.2)

pub returns-then-s-i : goal.returns-then-s-i
returns-then-s-i c =
    let l = c.loop-i in
    let a = c.args in
    sym (l.invariant.1 ∙ place-hit a.c a.s.now l.i (omega arith) c.if-s-i.true)

pub text_to-i-requires-in-loop-i : goal.text_to-i-requires-in-loop-i
text_to-i-requires-in-loop-i c = (omega arith, omega arith)

pub loop-i-smaller : goal.loop-i-smaller
loop-i-smaller c =
    let l = c.loop-i in
    let a = c.args in
    let past = place-over a.c (omega arith) a.s.now (l.i + 1) c.text_to-i-in-loop-i.result (omega arith) c.text_to-i-in-loop-i.ensures in
    omega (arith, past.0)

pub loop-i-preserved : goal.loop-i-preserved
loop-i-preserved c =
    let l = c.loop-i in
    let a = c.args in
    let past = place-over a.c (omega arith) a.s.now (l.i + 1) c.text_to-i-in-loop-i.result (omega arith) c.text_to-i-in-loop-i.ensures in
    (past.1, l.invariant.1 ∙ place-miss a.c a.s.now l.i (omega arith) c.if-s-i.false ∙ past.2)

pub returns : goal.returns
returns c =
    let l = c.loop-i in
    let a = c.args in
    sym (l.invariant.1 ∙ place_none a.c a.s.now l.i (omega arith))
