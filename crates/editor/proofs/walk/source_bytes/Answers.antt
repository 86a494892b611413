use native.Mathlib.Omega.{arith}
use Rattle.editor.proofs.Records.{three-bytes}
use Rattle.editor.proofs.Sizes.{stands-inside, zero-after-mark, size-inserted, size-changed, size-plain}
use Rattle.editor.proofs.walk.source_bytes.Goals as goal

pub bounds-j-at : goal.bounds-j-at
bounds-j-at c =
    omega (arith, stands-inside c.args.j.now c.args.at c.requires.0 c.requires.1 c.requires.3)

pub returns-then-m-eq43 : goal.returns-then-m-eq43
returns-then-m-eq43 c =
    size-inserted c.args.j.now c.args.at c.if-m-eq43.true c.args.n

pub zero_after-z-requires : goal.zero_after-z-requires
zero_after-z-requires c =
    omega (arith, stands-inside c.args.j.now c.args.at c.requires.0 c.requires.1 c.requires.3)

pub overflow_sub-result-then-m-eq60 : goal.overflow_sub-result-then-m-eq60
overflow_sub-result-then-m-eq60 c =
    omega (arith, c.zero_after-z.ensures, zero-after-mark c.args.j.now c.args.at c.if-m-eq60.true c.requires.0 c.requires.1 c.requires.2 c.requires.3)

pub returns-then-m-eq60 : goal.returns-then-m-eq60
returns-then-m-eq60 c =
    size-changed c.args.j.now c.args.at c.if-m-eq60.true c.zero_after-z.result c.zero_after-z.ensures c.args.n

pub overflow_sub-result-2 : goal.overflow_sub-result-2
overflow_sub-result-2 c =
    omega (arith, c.requires.4, three-bytes c.requires.0)

pub returns : goal.returns
returns c =
    size-plain c.args.j.now c.args.at c.if-m-eq43.false c.if-m-eq60.false c.args.n
