-- At each turn the test goes on to what the search says (`Turn`). Assumes nothing.
use native.Mathlib.Omega.{arith}
use Rattle.matching.proofs.Running.{line-tested}
use Rattle.matching.proofs.Turns.{begins, finds, reads, tested, steps, joined}
use Rattle.matching.proofs.search.holds.Goals as goal

pub loop-at-init : goal.loop-at-init
loop-at-init c = begins (line-tested _ _ _ _ _) c.requires.0.0 c.requires.0.1

pub string_holds-truth-requires : goal.string_holds-truth-requires
string_holds-truth-requires c =
    let pre = c.requires in
    ((reads c.loop-at.invariant c.loop-at-test.true c.if-words-at-eq0.true).0, pre.1, pre.2, pre.3)

pub end_at-at-requires : goal.end_at-at-requires
end_at-at-requires c =
    let fits = (reads c.loop-at.invariant c.loop-at-test.true c.if-words-at-eq0.true).0 in
    omega (arith, fits.quals.0)

pub loop-at-smaller-then-words-at-eq0 : goal.loop-at-smaller-then-words-at-eq0
loop-at-smaller-then-words-at-eq0 c =
    let bounds = (reads c.loop-at.invariant c.loop-at-test.true c.if-words-at-eq0.true).1 in
    omega (arith, c.end_at-at.ensures, bounds)

pub loop-at-preserved-then-words-at-eq0 : goal.loop-at-preserved-then-words-at-eq0
loop-at-preserved-then-words-at-eq0 c = tested c.loop-at.invariant c.loop-at-test.true c.if-words-at-eq0.true c.end_at-at.ensures c.string_holds-truth.ensures

pub loop-at-smaller : goal.loop-at-smaller
loop-at-smaller c =
    let bounds = steps c.loop-at.invariant c.loop-at-test.true c.if-words-at-eq0.false in
    omega (arith, c.after_joint-at.ensures, bounds)

pub loop-at-preserved : goal.loop-at-preserved
loop-at-preserved c = joined c.loop-at.invariant c.loop-at-test.true c.if-words-at-eq0.false c.after_joint-at.ensures

pub returns : goal.returns
returns c = λ se enc. finds (line-tested _ _ _ _ _) se enc c.loop-at.invariant c.loop-at-test.false
