-- At each turn the walk goes on to what the search says at EOF (`Turn`). Assumes nothing.
use native.Mathlib.Omega.{arith}
use mathlib.Core.Path.{ap}
use Rattle.matching.specs.declared.Quals.{Quals}
use Rattle.matching.proofs.Running.{eof-tested}
use Rattle.matching.proofs.Turns.{begins, finds, reads, tested, steps, joined}
use Rattle.matching.proofs.search.holds_at_eof.Goals as goal

pub loop-at-init : goal.loop-at-init
loop-at-init c = let p = c.requires in begins (eof-tested _ _) p.1 p.2

pub quals_at-q-requires : goal.quals_at-q-requires
quals_at-q-requires c = (reads c.loop-at.invariant c.loop-at-test.true c.if-words-at-eq0.true).0

pub end_at-at-requires : goal.end_at-at-requires
end_at-at-requires c =
    let fits = (reads c.loop-at.invariant c.loop-at-test.true c.if-words-at-eq0.true).0 in
    omega (arith, fits.0)

pub loop-at-smaller-then-words-at-eq0 : goal.loop-at-smaller-then-words-at-eq0
loop-at-smaller-then-words-at-eq0 c =
    let bounds = (reads c.loop-at.invariant c.loop-at-test.true c.if-words-at-eq0.true).1 in
    omega (arith, c.end_at-at.ensures, bounds)

pub loop-at-preserved-then-words-at-eq0 : goal.loop-at-preserved-then-words-at-eq0
loop-at-preserved-then-words-at-eq0 c = tested c.loop-at.invariant c.loop-at-test.true c.if-words-at-eq0.true c.end_at-at.ensures (ap (λ (q : Quals). q.negated) c.quals_at-q.ensures)

pub loop-at-smaller : goal.loop-at-smaller
loop-at-smaller c =
    let bounds = steps c.loop-at.invariant c.loop-at-test.true c.if-words-at-eq0.false in
    omega (arith, c.after_joint-at.ensures, bounds)

pub loop-at-preserved : goal.loop-at-preserved
loop-at-preserved c = joined c.loop-at.invariant c.loop-at-test.true c.if-words-at-eq0.false c.after_joint-at.ensures

pub returns : goal.returns
returns c = λ script se enc. finds (eof-tested script _) se enc c.loop-at.invariant c.loop-at-test.false
