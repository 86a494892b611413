-- `needs::lacks_byte` meets its contract. Assumes nothing.
use native.Mathlib.Omega.{arith}
use Rattle.needs.proofs.Scanning.{unknown-lacks, scan_begins, scan-goes, scan-ends}
use Rattle.needs.proofs.lacks_byte.Goals as goal

pub returns-in_default : goal.returns-in_default
returns-in_default c = rw c.in_default.is (unknown-lacks _)

pub loop-b-init : goal.loop-b-init
loop-b-init c = scan_begins _ c.args.bytes.now

pub loop-b-preserved : goal.loop-b-preserved
loop-b-preserved c =
    let loop = c.loop-b in
    scan-goes _ _ loop.b-index loop.without c.loop-b-test.true loop.invariant

pub returns : goal.returns
returns c =
    let loop = c.loop-b in
    rw c.in-Some.is (scan-ends _ _ loop.b-index loop.without (omega arith) loop.invariant)
